-- One pair more under the name of its package, if it has one.
use Rattle.std.proofs.Common.{◌≡◌, ◌+◌, ◌↔◌, ℕ, List, Any, get_or, take, ap, sym, ◌∙◌, subst}
use Rattle.std.proofs.lemmas.List.{get_or_default, take_all}
use Rattle.std.specs.Prelude.{None, slice_get}
use Rattle.std.specs.BTreeMap.{BTreeMap}
use Rattle.std.specs.BTreeSet.{BTreeSet}
use Rattle.std.specs.Option.{option_copied}
use Rattle.osgi_space_rows.specs.Names.{HasNumber}
use Rattle.osgi_space_sources.specs.declared.given.Given.{Given}
use Rattle.osgi_space.specs.computed.ByName.{HasSource, IsFilled}
use Rattle.osgi_space.proofs.SeenPackages.{named-more, unnamed-more}
use Rattle.osgi_space.proofs.seen_packages.by_name.Goals.{in-Some+in_ok-add_source, in_default}
use Rattle.osgi_space.proofs.seen_packages.by_name.Goals as goal

pub loop-given-preserved : goal.loop-given-preserved
loop-given-preserved c =
    let names = c.args.names.now in
    let givens = c.args.givens.now in
    let i = c.loop-given.given-index in
    let h = c.loop-given-test.true in
    let given : Given = get_or givens i (record { «package» = 0; source = 0 }) in
    let at : given ≡ get_or givens i given = get_or_default givens i _ given h in
    let before = c.loop-given.invariant.1 in
    let Holds : BTreeMap (List ℕ) (BTreeSet ℕ) → Type 0 = λ space.
    IsFilled space × ((p : List ℕ) (x : ℕ) → HasSource space p x ↔ Any (λ (g : Given). HasNumber names p g.package × (g.source ≡ x)) (take (i + 1) givens)) in
    elim c.match-name.branch [
      | in-Some+in_ok-add_source w ↦
          let number : HasNumber names w.in-Some.name.now given.package = sym c.name.ensures.name ∙ ap option_copied w.in-Some.is in
          subst Holds (sym w.space-is) (
            w.in_ok-add_source.ensures.filled,
            named-more names givens i given h at c.loop-given.space before w.add_source.new.space w.in-Some.name.now number w.in_ok-add_source.ensures.added,
          )
      | in_default w ↦
          let none : slice_get names given.package ≡ None = sym c.name.ensures.name ∙ ap option_copied w.in_default.is in
          subst Holds (sym w.space-is) (c.loop-given.invariant.0, unnamed-more names givens i given h at c.loop-given.space before none)
    ]

pub returns-clause-sources : goal.returns-clause-sources
returns-clause-sources c = λ p x.
    subst (λ (xs : List Given). HasSource c.loop-given.space p x ↔ Any (λ (g : Given). HasNumber c.args.names.now p g.package × (g.source ≡ x)) xs)
    (take_all c.loop-given.given-index c.args.givens.now c.loop-given-test.false) (c.loop-given.invariant.1 p x)
