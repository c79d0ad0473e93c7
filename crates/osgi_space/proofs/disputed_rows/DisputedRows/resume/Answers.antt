-- The rows that were kept, and those of what is new.
use Rattle.std.proofs.Common.{◌≡◌, ◌-◌, ◌++◌, ◌∙◌, List, length, take, drop, ap, sym, subst, Contains}
use Rattle.std.proofs.lemmas.List.{take-append-drop, take_rest}
use Rattle.osgi_space.proofs.Resumed.{once-of, resumed-noted}
use Rattle.osgi_space_sources.specs.computed.Disputes.{NotesMore}
use Rattle.osgi_space_sources.specs.laws.Noted.{extends-ends, extends-then}
use Rattle.osgi_world.specs.Lists.{In}
use Rattle.osgi_world.specs.declared.wiring.Wiring.{Wiring}
use Rattle.osgi_world.specs.declared.world.Known.{Known}
use Rattle.osgi_space_rows.specs.Rows.{OwnExport, RowLists}
use Rattle.osgi_space_rows.specs.Worlds.{AreRowsIn}
use Rattle.osgi_space.proofs.disputed_rows.DisputedRows.resume.Goals as goal

pub of_more-requires-clause-named : goal.of_more-requires-clause-named
of_more-requires-clause-named c = record {
  numbered = c.requires.follows.numbered;
  once = once-of _ _ c.args.kept.named.names c.args.kept.named.rows c.requires.follows.rows;
}

pub invariant_of-result : goal.invariant_of-result
invariant_of-result c =
    let follows = c.requires.follows in
    let kept = c.args.kept in
    let K = c.args.known.now in
    let front = take kept.wirings c.args.wirings.now in
    let before = c.in_ok-before.before in
    let after = c.in_ok-rows.rows in
    let first = c.in_ok-possible.ensures in
    let second = c.in_ok-possible-2.ensures in
    let places = c.at_end-places.ensures in
    let now : c.rows-3.result.now ≡ after.rows = c.rows-3.ensures.rows in
    let extends : NotesMore after.rows kept.possible c.in_ok-possible-2.possible =
    extends-then after.rows (extends-ends after.rows kept.possible c.in_ok-possible.possible first.nothing_lost first.ends) (subst (λ (R : RowLists). NotesMore R c.in_ok-possible.possible c.in_ok-possible-2.possible) now second.extends) in
    resumed-noted K kept.known front kept.named before after kept.possible c.in_ok-possible-2.possible c.in_ok-before.ensures.known (c.in_ok-before.ensures.added front follows.all_known follows.rows) follows.all_known
    c.in_ok-rows.ensures.added.grown extends follows.noted
    (λ k p at end own. second.extends.sources p k.id.0 (first.noted k p (subst (λ (l : List Known). In k l) (sym (take_rest K kept.known)) at) end (subst (λ (R : RowLists). OwnExport R k.id.0 p) (sym c.rows.ensures.rows) own)))
    (λ r p x at. second.imports r p x
    (subst (λ (R : RowLists). Contains (drop c.at_end-places.result.imports R.imports) (record { revision = r; imported = p; provider = x })) (sym now)
    (subst (λ n. Contains (drop n after.rows.imports) (record { revision = r; imported = p; provider = x })) (sym (places.imports ∙ ap (λ (R : RowLists). length R.imports) c.rows-2.ensures.rows)) at)))
    (λ row at. second.required row
    (subst (λ (R : RowLists). Contains (drop c.at_end-places.result.required R.required) row) (sym now)
    (subst (λ n. Contains (drop n after.rows.required) row) (sym (places.required ∙ ap (λ (R : RowLists). length R.required) c.rows-2.ensures.rows)) at)))
    (λ h f p at own. second.attached h f p
    (subst (λ (R : RowLists). Contains (drop c.at_end-places.result.attached R.attached) (record { host = h; fragment = f })) (sym now)
    (subst (λ n. Contains (drop n after.rows.attached) (record { host = h; fragment = f })) (sym (places.attached ∙ ap (λ (R : RowLists). length R.attached) c.rows-2.ensures.rows)) at))
    (subst (λ (R : RowLists). OwnExport R f p) (sym now) own))

pub returns-clause-rows : goal.returns-clause-rows
returns-clause-rows c =
    let follows = c.requires.follows in
    let W = c.args.wirings.now in
    let n = c.args.kept.wirings in
    let all : take n W ++ take (length W - n) (drop n W) ≡ W = ap (λ (V : List Wiring). take n W ++ V) (take_rest W n) ∙ take-append-drop n W in
    let before = (c.in_ok-before.ensures.added (take n W) follows.all_known follows.rows).rows in
    subst (AreRowsIn c.in_ok-rows.rows) all (c.in_ok-rows.ensures.added.agree (take n W) before)
