-- The decision that waits is the next one.
use Rattle.std.proofs.Common.{◌∙◌, sym}
use Rattle.osgi_resolver_path.proofs.OnWay.{lists-at, next-listed, none-wide, some-wide}
use Rattle.osgi_resolver_path.proofs.path.Path.values.Goals as goal

pub returns-in-Some : goal.returns-in-Some
returns-in-Some c = record {
  values = λ P of.
      c.arity.ensures.arity P (lists-at c.self.inside.world.now c.self.inside.root c.self.inside.lists c.self.inside.spaces c.self.inside.course c.self.invariant c.args.self.now (sym c.self.view_is) P of) (next-listed c.self.inside.world.now c.self.inside.root c.self.inside.lists c.self.inside.spaces c.self.inside.course c.self.invariant c.args.self.now (sym c.self.view_is) P of c.in-Some.decision c.in-Some.ensures.next)
      ∙ some-wide c.self.inside.world.now c.self.inside.root c.self.inside.lists c.self.inside.spaces c.self.inside.course c.self.invariant c.args.self.now (sym c.self.view_is) P of c.in-Some.decision c.in-Some.ensures.next;
}

pub returns-in-None : goal.returns-in-None
returns-in-None c = record { values = λ P of. none-wide c.self.inside.world.now c.self.inside.root c.self.inside.lists c.self.inside.spaces c.self.inside.course c.self.invariant c.args.self.now (sym c.self.view_is) P of c.in-None.ensures.next }
