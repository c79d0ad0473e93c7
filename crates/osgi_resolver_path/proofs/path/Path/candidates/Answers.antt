-- They were asked for when the owner came.
use Rattle.std.proofs.Common.{sym}
use Rattle.osgi_resolver_path.proofs.OnWay.{asked-at, lists-at}
use Rattle.osgi_resolver_path.proofs.path.Path.candidates.Goals as goal

pub returns : goal.returns
returns c = record {
  candidates = λ P of m i j e.
      let asked = asked-at c.self.inside.world.now c.self.inside.root c.self.inside.lists c.self.inside.spaces c.self.inside.course c.self.invariant c.args.self.now (sym c.self.view_is) P m c.args.requirement of i j e in
      c.candidates.ensures.candidates P (lists-at c.self.inside.world.now c.self.inside.root c.self.inside.lists c.self.inside.spaces c.self.inside.course c.self.invariant c.args.self.now (sym c.self.view_is) P of) asked.knows asked.has;
}
