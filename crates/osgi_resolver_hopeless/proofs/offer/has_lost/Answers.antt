-- The wires of members, in the wirings that are decided.
use Rattle.std.proofs.Common.{◌↔◌, subst, IsTrue}
use Rattle.osgi_resolver_hopeless.proofs.Answering.{known-is}
use Rattle.osgi_resolver_hopeless.proofs.Offering.{lost-from, lost-of}
use Rattle.osgi_resolver_hopeless.specs.computed.Clashing.{IsLost}
use Rattle.osgi_resolver_path.specs.Standing.{made}
use Rattle.osgi_resolver_path.specs.Wires.{wired_in}
use Rattle.osgi_resolver_path.specs.declared.wired.Wired.{Wired}
use Rattle.osgi_world.specs.Lists.{In}
use Rattle.osgi_world.specs.Partial.{partial}
use Rattle.osgi_resolver_hopeless.proofs.offer.has_lost.Goals as goal

pub returns : goal.returns
returns c = record {
  lost = λ P L.
      let D = made P c.args.path.now in
      let set = c.args.unsettled.now in
      let wires = wired_in c.marks.result.now in
      let rows = c.rows.result.now in
      let known = known-is c.args.path.now P L rows.known c.rows.ensures.known in
      let one = c.is_one_lost.ensures.lost (partial P D) (c.rows.ensures.rows P L) in
      let is : IsTrue c.is_one_lost.result ↔ ((w : Wired) × In w wires × IsLost P.world.known (partial P D) set w) =
      subst (λ K. IsTrue c.is_one_lost.result ↔ ((w : Wired) × In w wires × IsLost K (partial P D) set w)) known one in
      let are = c.requires.unsettled P L in (
        λ t. let some = is.0 t in lost-of P L.is D set are wires (c.marks.ensures.wires P L) some.0 some.1 some.2,
        λ has. is.1 (lost-from P L.is D set are wires (c.marks.ensures.wires P L) has),
      );
}
