-- What is sorted and has no repeats rises, and has what was there.
use Rattle.std.proofs.Common.{◌↔◌, eqb, sym, subst, Contains}
use Rattle.std.specs.List.Sorted.{IsStrictlyIncreasing}
use Rattle.std.proofs.lemmas.List.Filters.{dedup_is}
use Rattle.std.proofs.lemmas.List.Kept.{Contains-dedup_nat, Contains-from_dedup}
use Rattle.std.proofs.lemmas.List.Sorted.{Contains-permutation, IsPermutation-sym}
use Rattle.std.proofs.lemmas.Map.Keys.{IsStrictlyIncreasing-dedup}
use Rattle.osgi_base.proofs.numbers.rising.Goals as goal

pub returns-clause-rising : goal.returns-clause-rising
returns-clause-rising c =
    subst IsStrictlyIncreasing (sym (dedup_is eqb _ _ c.dedup.ensures.filtered)) (IsStrictlyIncreasing-dedup _ c.sort_unstable.ensures.sorted)

pub returns-clause-same : goal.returns-clause-same
returns-clause-same c =
    let sorted = c.sort_unstable.new.self.items in
    let moved = c.sort_unstable.ensures.permutation in
    λ x. subst (λ xs. Contains xs x ↔ Contains c.args.numbers.items x) (sym (dedup_is eqb _ _ c.dedup.ensures.filtered)) (
      λ at. Contains-permutation _ _ x (IsPermutation-sym _ _ moved) (Contains-from_dedup eqb sorted x at),
      λ at. Contains-dedup_nat sorted x (Contains-permutation _ _ x moved at),
    )
