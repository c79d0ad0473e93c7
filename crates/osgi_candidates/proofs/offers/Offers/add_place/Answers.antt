-- The owner is not known, is no fragment, or asks for a host.
use Rattle.std.proofs.Common.{◌≡◌, List, ap, sym, subst, ◌∙◌}
use Rattle.std.specs.Prelude.{None, Some}
use Rattle.osgi_base.specs.declared.ids.RevisionId.{RevisionId}
use Rattle.osgi_candidates.specs.computed.Collecting.{Extends, IsAtOf}
use Rattle.osgi_candidates.specs.computed.Names.{AreNames}
use Rattle.osgi_candidates.proofs.Proposed.{no_host, not_known, place_alone, place_hosted}
use Rattle.osgi_world.specs.Lookups.{revision_at}
use Rattle.osgi_world.specs.declared.world.Known.{Known}
use Rattle.osgi_world.specs.declared.world.World.{World}
use Rattle.osgi_candidates.proofs.offers.Offers.add_place.Goals as goal

pub returns-in_default : goal.returns-in_default
returns-in_default c =
    let known : c.self.inside.known ≡ c.args.self.now.known = c.self.invariant.0 ∙ ap (λ (w : World). w.known) c.self.view_is in
    let are = subst (λ (w : World). AreNames w.known c.self.inside.index.now.names) c.self.view_is c.self.invariant.1.names in
    let none : revision_at c.args.self.now.known c.args.place.owner ≡ None = ap (λ (K : List Known). revision_at K c.args.place.owner) (sym known) ∙ sym c.in_default.ensures.revision in
    record {
      added = λ fit asks.
          place_alone c.args.self.now fit c.self.inside.index.now.names are c.args.at c.args.place c.args.found.now c.add_candidate.new.found (c.in_ok-add_candidate.ensures.added fit asks)
          (not_known c.args.self.now.known c.args.place.owner none);
    }

pub returns-in_default-host : goal.returns-in_default-host
returns-in_default-host c =
    let known : c.self.inside.known ≡ c.args.self.now.known = c.self.invariant.0 ∙ ap (λ (w : World). w.known) c.self.view_is in
    let are = subst (λ (w : World). AreNames w.known c.self.inside.index.now.names) c.self.view_is c.self.invariant.1.names in
    let is : revision_at c.args.self.now.known c.args.place.owner ≡ Some c.in-Some.owner.now = ap (λ (K : List Known). revision_at K c.args.place.owner) (sym known) ∙ sym c.in-Some.ensures.revision in
    record {
      added = λ fit asks.
          place_alone c.args.self.now fit c.self.inside.index.now.names are c.args.at c.args.place c.args.found.now c.add_candidate.new.found (c.in_ok-add_candidate.ensures.added fit asks)
          (no_host c.args.self.now.known c.args.place.owner c.in-Some.owner.now is c.in_default-host.is);
    }

pub returns-in_ok-add_hosts : goal.returns-in_ok-add_hosts
returns-in_ok-add_hosts c =
    let known : c.self.inside.known ≡ c.args.self.now.known = c.self.invariant.0 ∙ ap (λ (w : World). w.known) c.self.view_is in
    let are = subst (λ (w : World). AreNames w.known c.self.inside.index.now.names) c.self.view_is c.self.invariant.1.names in
    let is : revision_at c.args.self.now.known c.args.place.owner ≡ Some c.in-Some.owner.now = ap (λ (K : List Known). revision_at K c.args.place.owner) (sym known) ∙ sym c.in-Some.ensures.revision in
    record {
      added = λ fit asks.
          let more = subst (λ (l : List RevisionId). Extends c.args.self.now c.args.at c.add_candidate.new.found c.add_hosts.new.found (IsAtOf c.args.place l)) c.of-hosts.ensures.values (c.in_ok-add_hosts.ensures.added fit asks) in
          place_hosted c.args.self.now fit c.self.inside.index.now.names are c.args.at c.args.place c.args.found.now c.add_candidate.new.found (c.in_ok-add_candidate.ensures.added fit asks)
          c.add_hosts.new.found c.in-Some.owner.now c.in-Some-host.host is c.in-Some-host.is more;
    }
