-- The list of what stands under the names is the class space.
use Rattle.std.proofs.Common.{◌≡◌, ◌↔◌, ℕ, List, Any, Contains, subst}
use Rattle.osgi_base.specs.declared.ids.RevisionId.{RevisionId}
use Rattle.osgi_space_rows.specs.Names.{HasNumber}
use Rattle.osgi_world.specs.Sources as relation
use Rattle.osgi_space_sources.specs.computed.Givens.{IsSeen}
use Rattle.osgi_space_sources.specs.declared.given.Given.{Given}
use Rattle.osgi_space.specs.computed.ByName.{HasSource}
use Rattle.osgi_space.proofs.SeenPackages.{class-space, seen-source}
use Rattle.osgi_space.proofs.seen_packages.space_in.Goals as goal

pub returns : goal.returns
returns c = record {
  space = λ W is.
      let world = c.args.rows.now in
      let space = c.in_ok-space.space in
      let givens = c.in_ok-givens.givens.items in
      let are : (g : Given) → Contains givens g ↔ IsSeen world.rows c.args.revision.0 g =
      subst (λ R. (g : Given) → Contains givens g ↔ IsSeen R c.args.revision.0 g) c.rows.ensures.rows c.in_ok-givens.ensures.sources in
      let has : (p : List ℕ) (x : RevisionId) → HasSource space p x.0 ↔ relation.Sources world.known W c.args.revision p x = λ p x.
      let seen = seen-source world W is c.names.ensures.numbered c.args.revision givens are p x in
      let named : HasSource space p x.0 ↔ Any (λ (g : Given). HasNumber world.names p g.package × (g.source ≡ x.0)) givens =
      subst (λ names. HasSource space p x.0 ↔ Any (λ (g : Given). HasNumber names p g.package × (g.source ≡ x.0)) givens) c.names.ensures.names
      (subst (λ (xs : List Given). HasSource space p x.0 ↔ Any (λ (g : Given). HasNumber c.names.result.now p g.package × (g.source ≡ x.0)) xs) c.as_slice.ensures.value (c.in_ok-space.ensures.sources p x.0)) in
      (λ h. seen.0 (named.0 h), λ s. named.1 (seen.1 s)) in
      class-space world.known W c.args.revision space c.in_ok-in_order.field-0 c.in_ok-in_order.ensures.same c.in_ok-in_order.ensures.ordered c.in_ok-space.ensures.filled c.in_ok-in_order.ensures.rising has;
}
