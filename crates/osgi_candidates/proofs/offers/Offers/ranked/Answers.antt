-- What it is preferred by.
use Rattle.std.proofs.Common.{◌≡◌, List, ap, refl, ◌∙◌}
use Rattle.osgi_world.specs.Lookups.{bundle_of}
use Rattle.osgi_world.specs.declared.world.Known.{Known}
use Rattle.osgi_world.specs.declared.world.World.{World}
use Rattle.osgi_candidates.proofs.offers.Offers.ranked.Goals as goal

pub returns : goal.returns
returns c =
    let known : c.self.inside.known ≡ c.args.self.now.known = c.self.invariant.0 ∙ ap (λ (w : World). w.known) c.self.view_is in
    record {
      rank = record {
        in_force = c.is_in_force.ensures.in_force;
        version = c.in_ok-preferred_version.ensures.version;
        bundle = c.bundle_of.ensures.bundle ∙ ap (λ (K : List Known). bundle_of K c.args.capability.provider) known;
        capability = refl;
      };
    }
