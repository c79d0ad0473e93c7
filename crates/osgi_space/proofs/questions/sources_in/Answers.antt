-- A package without a number has no sources, and one with a number has those by the rows.
use Rattle.std.proofs.Common.{◌≡◌, ◌↔◌, ℕ, List, Any, Contains, refl, sym, subst}
use Rattle.osgi_space_rows.specs.Names.{HasNumber, name_numbered}
use Rattle.osgi_world.specs.Sources.{Sources}
use Rattle.osgi_space_sources.specs.computed.Givens.{IsSourceOf}
use Rattle.osgi_space_sources.specs.computed.RowSources.{Sources as RowSources}
use Rattle.osgi_space_sources.specs.declared.given.Given.{Given}
use Rattle.osgi_space_sources.specs.laws.Adding.{any-in, any-none, any-of}
use Rattle.osgi_space.proofs.Bridge.{sources-from, sources-to}
use Rattle.osgi_space.proofs.Numbering.{named, source-number}
use Rattle.osgi_space.proofs.questions.sources_in.Goals as goal

pub returns-in_default-clause-sources : goal.returns-in_default-clause-sources
returns-in_default-clause-sources c = λ W is x. (
  λ i. absurd (any-none (λ (g : Given). g.source ≡ x.0) ((c.in_ok-source_ids.ensures.same x).0 i)),
  λ s. let w = source-number c.args.rows.now W is c.names.ensures.numbered s in
      absurd (c.in_default.ensures.number w.0 (subst (λ names. HasNumber names c.args.package.now w.0) (sym c.names.ensures.names) w.1)),
)

pub returns-clause-sources : goal.returns-clause-sources
returns-clause-sources c = λ W is x.
    let world = c.args.rows.now in
    let number = c.in-Some.number in
    let has = subst (λ names. HasNumber names c.args.package.now number) c.names.ensures.names c.in-Some.ensures.number in
    let name : name_numbered world.names number ≡ c.args.package.now = named world.names c.args.package.now number has in
    let P : List Given → Type 0 = λ givens. Any (λ (g : Given). g.source ≡ x.0) givens in
    let S : List ℕ → Type 0 = λ p. Sources world.known W c.args.revision p x in
    let same = c.in_ok-source_ids-2.ensures.same x in
    let givens = c.in_ok-givens.givens.items in
    let N = name_numbered world.names in
    let rows : (g : Given) → Contains givens g ↔ IsSourceOf world.rows c.args.revision.0 number g =
    subst (λ R. (g : Given) → Contains givens g ↔ IsSourceOf R c.args.revision.0 number g) c.rows.ensures.rows c.in_ok-givens.ensures.sources in (
      λ i. let any = subst P c.as_slice.ensures.value (same.0 i) in
          let source = (rows any.1).0 (any-in (λ (g : Given). g.source ≡ x.0) givens any) in
          subst S name (sources-to world.known W N world.rows is (subst (λ n. RowSources world.rows c.args.revision.0 number n) any.4 source.1)),
      λ s. let source = sources-from world.known W N world.rows is (subst S (sym name) s) in
          same.1 (subst P (sym c.as_slice.ensures.value) (any-of (λ (g : Given). g.source ≡ x.0) givens (record { «package» = number; source = x.0 }) ((rows _).1 (refl, source)) refl)),
    )
