-- What a set has rises.
use Rattle.std.proofs.Common.{◌≡◌, ℕ, List, map, sym, subst, rules}
use Rattle.std.specs.List.Sorted.{IsStrictlyIncreasing}
use Rattle.std.proofs.lemmas.Map.Keys.{IsStrictlyIncreasing-from_sorted}
use Rattle.osgi_base.specs.declared.ids.RevisionId.{RevisionId}
use Rattle.osgi_space_rows.specs.Agree.{id}
use Rattle.osgi_space.proofs.Ids.{numbers-of}
use Rattle.osgi_space.proofs.seen_packages.entry.Goals as goal

pub returns-clause-rising : goal.returns-clause-rising
returns-clause-rising c =
    let keys = c.args.sources.now.keys in
    let is : c.in_ok-as_ids.field-0 ≡ map id keys = search rules in
    let P : List ℕ → Type 0 = λ xs. IsStrictlyIncreasing xs in
    let Q : List RevisionId → Type 0 = λ ids. IsStrictlyIncreasing (map (λ (r : RevisionId). r.0) ids) in
    subst Q (sym is) (subst P (sym (numbers-of keys)) (IsStrictlyIncreasing-from_sorted keys c.iter.ensures.ordered))
