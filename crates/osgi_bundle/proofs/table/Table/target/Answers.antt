-- By its id, or by its name.
use Rattle.osgi_bundle.proofs.Naming.{id_target}
use Rattle.osgi_bundle.proofs.table.Table.target.Goals as goal

pub returns-in-Id : goal.returns-in-Id
returns-in-Id c = rw (c.in-Id.is, c.then_some.ensures, c.is_some.ensures) (record { target = id_target c.in-Id.bundle c.args.self.now.rows c.row.result c.row.ensures.row })
