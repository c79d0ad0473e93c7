-- No decision waits in the queue.
use Rattle.std.proofs.Common.{sym}
use Rattle.osgi_resolver_path.proofs.OnWay.{complete-at}
use Rattle.osgi_resolver_path.proofs.path.Path.is_complete.Goals as goal

pub returns : goal.returns
returns c = record { complete = λ P of. complete-at c.self.inside.world.now c.self.inside.root c.self.inside.lists c.self.inside.spaces c.self.inside.course c.self.invariant c.args.self.now (sym c.self.view_is) P of c.next.result c.next.ensures.next c.is_none.result c.is_none.ensures }
