-- What the bundles that it reaches give, and what it gives itself.
use Rattle.osgi_space_sources.specs.laws.Adding.{adds-from, adds-then}
use Rattle.osgi_space_sources.proofs.space.unwired_of.Goals as goal

pub returns : goal.returns
returns c = record { sources = adds-from c.new-givens.ensures.items (adds-then c.in_ok-add_reached.ensures.added c.in_ok-add_bundle.ensures.added) }
