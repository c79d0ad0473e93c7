-- The wires of all marks are those of the members.
use Rattle.std.proofs.Common.{◌↔◌, List, sym, subst}
use Rattle.osgi_world.specs.Decisions.{Made}
use Rattle.osgi_world.specs.DueDecisions.{members}
use Rattle.osgi_world.specs.Lists.{In}
use Rattle.osgi_world.specs.Partial as partial
use Rattle.osgi_world.specs.Wirings.{HasWire}
use Rattle.osgi_resolver_path.specs.Standing.{made}
use Rattle.osgi_resolver_path.specs.computed.Courses.{lists_of}
use Rattle.osgi_resolver_path.specs.Wires.{wired_in}
use Rattle.osgi_resolver_path.specs.declared.course.Mark.{Mark}
use Rattle.osgi_resolver_path.proofs.OnWay.{made-at, stands-at}
use Rattle.osgi_resolver_path.proofs.Viewing.{wires-seen}
use Rattle.osgi_resolver_path.proofs.path.Path.marks.Goals as goal

pub returns : goal.returns
returns c = record {
  wires = λ P of w.
      let x = c.self.inside in
      let same = made-at x.world.now x.root x.lists x.spaces x.course c.self.invariant c.args.self.now (sym c.self.view_is) P of in
      let at = stands-at x.world.now x.root x.lists x.spaces x.course c.self.invariant c.args.self.now (sym c.self.view_is) P of in
      let seen = wires-seen P of.is x.course.marks.items (lists_of x.course) at w in
      subst (λ (ms : List Mark). In w (wired_in ms) ↔ In w.revision (members P (made P c.args.self.now)) × HasWire (partial.partial P (made P c.args.self.now)) w.revision w.wire) (sym c.as_slice.ensures.value)
      (subst (λ (D : Made). In w (wired_in x.course.marks.items) ↔ In w.revision (members P D) × HasWire (partial.partial P D) w.revision w.wire) (sym same) seen);
}
