-- Of an owner of a member's payload.
use Rattle.std.proofs.Common.{sym}
use Rattle.osgi_resolver_path.proofs.OnWay.{lists-at, sure-at}
use Rattle.osgi_resolver_path.proofs.path.Path.is_sure.Goals as goal

pub returns : goal.returns
returns c = record {
  sure = λ t P of m i own.
      let on = c.self.invariant in
      let in_it = lists-at c.self.inside.world.now c.self.inside.root c.self.inside.lists c.self.inside.spaces c.self.inside.course on c.args.self.now (sym c.self.view_is) P of in
      sure-at c.self.inside.world.now c.self.inside.root c.self.inside.lists c.self.inside.spaces c.self.inside.course on c.args.self.now (sym c.self.view_is) P of m c.args.owner i own
      (λ knows current. c.is_sure.ensures.sure t P in_it knows current);
}
