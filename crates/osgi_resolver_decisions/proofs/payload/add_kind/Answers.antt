-- One owner more.
use Rattle.std.proofs.Common.{get_or, sym, subst, IsTrue}
use Rattle.std.proofs.lemmas.List.{get_or_default}
use Rattle.std.proofs.lemmas.List.Elements.{All-get_or}
use Rattle.osgi_base.specs.declared.ids.RevisionId.{RevisionId}
use Rattle.osgi_world.specs.Lookups.{is_current}
use Rattle.osgi_world.specs.declared.world.World.{World}
use Rattle.osgi_resolver_decisions.specs.computed.Known.{IsProblemIn}
use Rattle.osgi_resolver_decisions.proofs.Asking.{asks-more}
use Rattle.osgi_resolver_decisions.proofs.payload.add_kind.Goals as goal

pub loop-owner-preserved : goal.loop-owner-preserved
loop-owner-preserved c P is current =
    let all = c.args.owners.now in
    let i = c.loop-owner.owner-index in
    let zero : RevisionId = record { 0 = 0 } in
    let owner = get_or all i zero in
    asks-more P c.args.host c.args.kind all i owner _ _ _ c.loop-owner-test.true (get_or_default all i zero owner c.loop-owner-test.true)
    (c.loop-owner.invariant P is current) (c.in_ok-add_owner.ensures.added P (subst (λ (W : World). IsProblemIn W P) (sym c.offers.ensures.world) is) (All-get_or (λ (o : RevisionId). IsTrue (is_current P.world.known o)) all i zero c.loop-owner-test.true current))
