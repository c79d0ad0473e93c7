-- The rows of the wirings of the decisions.
use Rattle.std.proofs.Common.{sym}
use Rattle.osgi_resolver_path.proofs.OnWay.{rows-at}
use Rattle.osgi_resolver_path.proofs.path.Path.rows.Goals as goal

pub returns-clause-rows : goal.returns-clause-rows
returns-clause-rows c P of = rows-at c.self.inside.world.now c.self.inside.root c.self.inside.lists c.self.inside.spaces c.self.inside.course c.self.invariant c.args.self.now (sym c.self.view_is) P of c.rows.result.now c.rows.ensures.known c.rows.ensures.rows
