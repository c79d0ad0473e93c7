-- The host is known, or not.
use Rattle.std.proofs.Common.{◌≡◌, List, ap, sym, subst, ◌∙◌}
use Rattle.std.specs.Prelude.{None, Some}
use Rattle.osgi_base.specs.declared.ids.RevisionId.{RevisionId}
use Rattle.osgi_candidates.specs.computed.Fragments.{AreBundled}
use Rattle.osgi_candidates.specs.computed.Names.{AreNames}
use Rattle.osgi_candidates.proofs.Attaching.{attachable_are, attachable_none}
use Rattle.osgi_world.specs.Lookups.{revision_at}
use Rattle.osgi_world.specs.declared.world.Known.{Known}
use Rattle.osgi_world.specs.declared.world.World.{World}
use Rattle.osgi_candidates.proofs.offers.Offers.attachable.Goals as goal

pub returns-in_ok-by_bundle-in-Some : goal.returns-in_ok-by_bundle-in-Some
returns-in_ok-by_bundle-in-Some c =
    let w = c.args.self.now in
    let known : c.self.inside.known ≡ w.known = c.self.invariant.0 ∙ ap (λ (w : World). w.known) c.self.view_is in
    let are = subst (λ (w : World). AreNames w.known c.self.inside.index.now.names) c.self.view_is c.self.invariant.1.names in
    let is : revision_at w.known c.args.host ≡ Some c.in-Some.revision.now = ap (λ (K : List Known). revision_at K c.args.host) (sym known) ∙ sym c.in-Some.ensures.revision in
    let bundled = subst (λ (l : List RevisionId). AreBundled w.known c.in-Some.revision.now l c.in_ok-bundled-in-Some.bundled.keys) c.of-among.ensures.values c.in_ok-bundled-in-Some.ensures.bundled in
    record {
      exact = λ fit.
          attachable_are w fit c.args.host c.self.inside.index.now.names are c.in-Some.revision.now is c.in_ok-bundled-in-Some.bundled c.in_ok-by_bundle-in-Some.field-0.items bundled c.in_ok-by_bundle-in-Some.ensures.fragments
          c.in_ok-by_bundle-in-Some.ensures.ordered;
    }

pub returns-in-None : goal.returns-in-None
returns-in-None c =
    let w = c.args.self.now in
    let known : c.self.inside.known ≡ w.known = c.self.invariant.0 ∙ ap (λ (w : World). w.known) c.self.view_is in
    let none : revision_at w.known c.args.host ≡ None = ap (λ (K : List Known). revision_at K c.args.host) (sym known) ∙ sym c.in-None.ensures.revision in
    record { exact = λ fit. attachable_none w fit c.args.host c.new.result.items c.new.ensures.items none }
