-- The bundle that the index has of the name.
use Rattle.osgi_bundle.proofs.Naming.{named_as}
use Rattle.osgi_bundle.proofs.table.Table.named.Goals as goal

pub returns : goal.returns
returns c =
    rw (← c.self.view_is)
    (record { named = named_as c.self.inside.rows.items c.self.inside.directory.names c.args.name.now c.self.invariant.index.names c.self.invariant.apart c.highest.result c.highest.ensures.highest })
