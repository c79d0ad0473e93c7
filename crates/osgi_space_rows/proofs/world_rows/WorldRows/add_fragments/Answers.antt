-- One fragment more.
use Rattle.std.proofs.Common.{get_or}
use Rattle.std.proofs.lemmas.List.{get_or_default}
use Rattle.osgi_base.specs.declared.ids.RevisionId.{RevisionId}
use Rattle.osgi_space_rows.proofs.Growth.{adds-nothing, fragments-more}
use Rattle.osgi_space_rows.proofs.world_rows.WorldRows.add_fragments.Goals as goal

pub loop-fragment-init : goal.loop-fragment-init
loop-fragment-init c = adds-nothing c.args.self.now c.args.host

pub loop-fragment-preserved : goal.loop-fragment-preserved
loop-fragment-preserved c =
    let all = c.args.fragments.now in
    let i = c.loop-fragment.fragment-index in
    let zero : RevisionId = record { 0 = 0 } in
    fragments-more c.args.self.now c.loop-fragment.self c.attach.new.self c.args.host (get_or all i zero) all i c.in_ok-attach.field-0 c.loop-fragment-test.true
    (get_or_default all i zero (get_or all i zero) c.loop-fragment-test.true) c.loop-fragment.invariant c.in_ok-attach.ensures.added
