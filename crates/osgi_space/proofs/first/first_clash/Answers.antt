-- The first that clashes, one pair after the other.
use Rattle.std.proofs.Common.{◌≡◌, ◌<◌, ◌↔◌, ℕ, List, length, get_or, sym, ◌∙◌, subst, IsTrue}
use Rattle.std.specs.Prelude.{MatchOption}
use Rattle.std.proofs.lemmas.List.{get_or_default, take_all}
use Rattle.std.proofs.lemmas.Bool.{false≢true}
use Rattle.osgi_space_sources.specs.computed.Clashes.{IsClash}
use Rattle.osgi_space_sources.specs.declared.given.Given.{Given}
use Rattle.osgi_space.specs.computed.Firsts.{IsBefore, IsFirstClash}
use Rattle.osgi_space_rows.specs.Rows.{RowLists}
use Rattle.osgi_space.proofs.FirstClash.{first-kept, first-quiet, first-taken}
use Rattle.osgi_space.proofs.first.first_clash.Goals as goal
use Rattle.osgi_space.proofs.first.first_clash.Goals.{then-branch+then-is_earlier, else-branch, else-branch-via-then-branch+else-is_earlier, else-branch-via-else-branch}

pub loop-pair-preserved : goal.loop-pair-preserved
loop-pair-preserved c =
    let world = c.args.rows.now in
    let r = c.args.revision in
    let pairs = c.args.pairs.now in
    let i = c.loop-pair.pair-index in
    let first = c.loop-pair.first in
    let h = c.loop-pair-test.true in
    let pair : Given = get_or pairs i (record { «package» = 0; source = 0 }) in
    let at : pair ≡ get_or pairs i pair = get_or_default pairs i _ pair h in
    let clashing : IsTrue c.in_ok-clashes.field-0 ↔ IsClash world.rows r pair = subst (λ (R : RowLists). IsTrue c.in_ok-clashes.field-0 ↔ IsClash R r pair) c.rows.ensures.rows c.in_ok-clashes.ensures.clash in
    elim c.if-branch.branch [
      | then-branch+then-is_earlier w ↦
          let earlier = subst (λ (names : List (List ℕ)). MatchOption first (Unit {0}) (λ f. IsBefore names pair f)) w.names.ensures.names (w.is_earlier.ensures.earlier.0 w.if-is_earlier.true) in
          rw w.first-is (record {
            first = first-taken world.rows world.names r pairs i pair h at first (clashing.0 w.if-branch.true) earlier c.loop-pair.invariant.first;
            named = λ x e. let same : pair ≡ x = cc in subst (λ (g : Given). g.package < length world.names) same (c.requires.named i (record { «package» = 0; source = 0 }) h);
          })
      | else-branch w ↦ rw w.first-is (record {
        first = elim w.else-branch.branch [
          | else-branch-via-then-branch+else-is_earlier w' ↦
              first-kept world.rows world.names r pairs i pair h at first
              (λ earlier. false≢true (sym w'.if-is_earlier.false ∙ w'.is_earlier.ensures.earlier.1 (subst (λ (names : List (List ℕ)). MatchOption first (Unit {0}) (λ f. IsBefore names pair f)) (sym w'.names.ensures.names) earlier))) c.loop-pair.invariant.first
          | else-branch-via-else-branch w' ↦
              first-quiet world.rows world.names r pairs i pair h at first (λ clash. false≢true (sym w'.if-branch.false ∙ clashing.1 clash)) c.loop-pair.invariant.first
        ];
        named = c.loop-pair.invariant.named;
      })
    ]

pub returns : goal.returns
returns c = record {
  first = subst (λ (xs : List Given). IsFirstClash c.args.rows.now.rows c.args.rows.now.names c.args.revision xs c.loop-pair.first) (take_all c.loop-pair.pair-index c.args.pairs.now c.loop-pair-test.false) c.loop-pair.invariant.first;
}
