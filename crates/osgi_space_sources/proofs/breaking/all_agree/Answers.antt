-- One more agrees.
use Rattle.std.proofs.Common.{get_or}
use Rattle.std.proofs.lemmas.Bool.{false≢true}
use Rattle.std.proofs.lemmas.List.{get_or_default}
use Rattle.osgi_space_sources.specs.computed.Leads.{Agrees}
use Rattle.osgi_space_sources.specs.declared.given.Given.{Given}
use Rattle.osgi_space_sources.proofs.Whole.{each-more, each-none, each-whole}
use Rattle.osgi_space_sources.proofs.breaking.all_agree.Goals as goal

pub loop-source-init : goal.loop-source-init
loop-source-init c = each-none (Agrees c.args.rows.now c.args.revision) c.args.sources.now

pub loop-source-preserved : goal.loop-source-preserved
loop-source-preserved c =
    let P : Given → Type 0 = Agrees c.args.rows.now c.args.revision in
    let sources = c.args.sources.now in
    let i = c.loop-source.source-index in
    let source : Given = get_or sources i (record { «package» = 0; source = 0 }) in
    each-more P P sources i source c.loop-source-test.true (get_or_default sources i _ source c.loop-source-test.true) (λ s agrees. agrees) c.loop-source.invariant (c.in_ok-agrees.ensures.agrees c.if-not-branch.false)

pub returns-then-not-branch : goal.returns-then-not-branch
returns-then-not-branch c = record { agree = λ t. absurd (false≢true t) }

pub returns : goal.returns
returns c = record { agree = λ t. each-whole (Agrees c.args.rows.now c.args.revision) c.args.sources.now c.loop-source.source-index c.loop-source-test.false c.loop-source.invariant }
