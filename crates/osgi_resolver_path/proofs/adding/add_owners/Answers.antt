-- One owner more.
use Rattle.std.proofs.Common.{◌++◌, ◌∙◌, ap, sym, append_assoc, flat_map, get_or}
use Rattle.std.proofs.lemmas.List.{get_or_default}
use Rattle.osgi_base.specs.declared.ids.RevisionId.{RevisionId}
use Rattle.osgi_world.specs.Partial.{wires_for}
use Rattle.osgi_world.specs.Payloads.{own_requirements}
use Rattle.osgi_resolver_path.specs.computed.Views.{decided_in}
use Rattle.osgi_resolver_path.proofs.Payloads.{owners-more}
use Rattle.osgi_resolver_path.proofs.Decided.{get-in, get-some}
use Rattle.osgi_resolver_path.proofs.adding.add_owners.Goals as goal

pub loop-owner-preserved : goal.loop-owner-preserved
loop-owner-preserved c P course seen i all =
    let owners = c.args.owners.now in
    let n = c.loop-owner.owner-index in
    let zero : RevisionId = record { 0 = 0 } in
    let owner = get_or owners n zero in
    let h = c.args.host in
    let D = decided_in course in
    let own = flat_map (wires_for P D h) (own_requirements P.world.known owner) in
    c.in_ok-add_owner.ensures.added P course seen i (all owner (get-in owners n owner (get-some owners n zero c.loop-owner-test.true)))
    ∙ ap (λ l. l ++ own) (c.loop-owner.invariant P course seen i all)
    ∙ append_assoc c.args.wires.now _ own
    ∙ ap (λ l. c.args.wires.now ++ l) (sym (owners-more P D h owners n owner c.loop-owner-test.true (get_or_default owners n zero owner c.loop-owner-test.true)))
