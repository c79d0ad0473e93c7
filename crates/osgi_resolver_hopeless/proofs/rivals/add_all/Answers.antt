-- One number for each revision.
use Rattle.std.proofs.Common.{get_or}
use Rattle.osgi_space_rules.proofs.Items.{no_revision, there}
use Rattle.osgi_space_sources.specs.laws.Adding.{adds-more, adds-same, adds-start, adds-whole}
use Rattle.osgi_resolver_hopeless.proofs.Numbers.{IsNumber, some-number}
use Rattle.osgi_resolver_hopeless.proofs.rivals.add_all.Goals as goal

pub loop-revision-init : goal.loop-revision-init
loop-revision-init c = adds-start IsNumber c.args.revisions.now c.args.found.now

pub loop-revision-preserved : goal.loop-revision-preserved
loop-revision-preserved c =
    let revisions = c.args.revisions.now in
    let i = c.loop-revision.revision-index in
    let within = c.loop-revision-test.true in
    adds-more IsNumber revisions i (get_or revisions i no_revision) within (there revisions i no_revision within) c.loop-revision.invariant c.in_ok-add.ensures.added

pub returns : goal.returns
returns c = record { added = adds-same (some-number c.args.revisions.now) (adds-whole IsNumber c.args.revisions.now c.loop-revision.revision-index c.loop-revision-test.false c.loop-revision.invariant) }
