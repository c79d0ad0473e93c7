-- The decision that waits is the next one.
use Rattle.std.proofs.Common.{sym}
use Rattle.osgi_resolver_path.proofs.OnWay.{next-at}
use Rattle.osgi_resolver_path.proofs.path.Path.next.Goals as goal

pub returns : goal.returns
returns c = record { next = next-at c.self.inside.world.now c.self.inside.root c.self.inside.lists c.self.inside.spaces c.self.inside.course c.self.invariant c.args.self.now (sym c.self.view_is) c.next.result c.next.ensures.next }
