-- What the revision is wired to, and what it and each bundle that it reaches give of other packages.
use Rattle.osgi_space_sources.specs.laws.Adding.{adds-from, adds-same, adds-then}
use Rattle.osgi_space_sources.proofs.Givers.{seen-parts}
use Rattle.osgi_space_sources.proofs.space.space_of.Goals as goal

pub returns : goal.returns
returns c = record {
  sources = adds-from c.in_ok-givens.ensures.items (adds-same (seen-parts c.args.rows.now c.args.revision)
      (adds-then c.in_ok-add_imports.ensures.added (adds-then c.in_ok-add_reached.ensures.added c.in_ok-add_bundle.ensures.added)));
}
