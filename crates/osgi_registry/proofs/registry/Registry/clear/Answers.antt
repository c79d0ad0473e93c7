-- Nothing concerns the bundle.
use Rattle.osgi_registry.proofs.Covered.{covered_cleared}
use Rattle.std.specs.Map.{values_of}
use Rattle.osgi_registry_index.specs.Belonging.{bundles_in}
use Rattle.osgi_registry.proofs.registry.Registry.clear.Goals as goal

pub invariant_of-self : goal.invariant_of-self
invariant_of-self c = record {
  rows = c.self.invariant.rows;
  index = c.self.invariant.index;
  current = c.self.invariant.current;
  covered = covered_cleared (bundles_in c.self.inside.bundles) (bundles_in c.take_all.new.self) c.args.bundle (values_of c.self.inside.services.entries) c.take_all.ensures.taken (rw (← c.self.view_is) at c.requires.none) c.self.invariant.covered;
}
