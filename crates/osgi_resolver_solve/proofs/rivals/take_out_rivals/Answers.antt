-- The candidates of one rival more, where the other revision is one.
use Rattle.std.proofs.Common.{◌≡◌, ◌∙◌, List, ap, get_or, subst, sym}
use Rattle.osgi_base.specs.declared.ids.RevisionId.{RevisionId}
use Rattle.osgi_resolver_hopeless.proofs.SameNames.{name-is}
use Rattle.osgi_world.specs.Consistency.{AreRivals}
use Rattle.osgi_world.specs.declared.world.Known.{Known}
use Rattle.osgi_world.specs.declared.world.World.{World}
use Rattle.osgi_resolver_solve.proofs.Ruled.{at-in, same-name, takes-more}
use Rattle.osgi_resolver_solve.proofs.rivals.take_out_rivals.Goals.{then-are_two_singletons, else-are_two_singletons}
use Rattle.osgi_resolver_solve.proofs.rivals.take_out_rivals.Goals as goal

pub loop-other-preserved : goal.loop-other-preserved
loop-other-preserved c =
    let K = c.known-known.result.now in
    let named = c.named-other-items.result.now in
    let member = c.args.member in
    let zero : RevisionId = record { 0 = 0 } in
    let other = get_or named c.loop-other.other-index zero in
    let known : K ≡ c.args.path.now.world.known = c.known-known.ensures.known ∙ ap (λ (w : World). w.known) c.offers.ensures.world in
    let same : c.offers-2.result.now.known ≡ K = ap (λ (w : World). w.known) (c.offers-2.ensures.world ∙ sym c.offers.ensures.world) ∙ sym c.known-known.ensures.known in
    let name = same-name K c.offers-2.result.now.known member other c.in-Some.says.now.name same (name-is K member c.in-Some.says.now (sym c.in-Some.ensures.revision))
    ((c.named-other-items.ensures.named other).0 (at-in named c.loop-other.other-index zero c.loop-other-test.true)).1 in
    elim c.if-are_two_singletons.branch [
      | then-are_two_singletons w ↦
          let rivals : AreRivals c.args.path.now.world.known other member = subst (λ (L : List Known). AreRivals L other member) known (c.are_two_singletons.ensures.rivals w.if-are_two_singletons.true name) in
          rw (w.count-is, w.rows-is) (takes-more c.args.path.now.world.known member other c.args.rows.now c.loop-other.rows _ c.loop-other.count _ c.loop-other.invariant w.take_out-count.ensures.taken rivals)
      | else-are_two_singletons w ↦ rw (w.count-is, w.rows-is) c.loop-other.invariant
    ]
