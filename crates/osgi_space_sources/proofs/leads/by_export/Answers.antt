-- One source more stands under its export.
use Rattle.std.proofs.Common.{get_or}
use Rattle.std.proofs.lemmas.List.{get_or_default}
use Rattle.osgi_space_sources.specs.computed.Leads.{IsUnder}
use Rattle.osgi_space_sources.specs.declared.given.Given.{Given}
use Rattle.osgi_space_sources.specs.declared.lead.Lead.{Lead}
use Rattle.osgi_space_sources.proofs.Tracing.{under-kept, under-pushed}
use Rattle.osgi_space_sources.proofs.Whole.{each-more, each-none, each-whole}
use Rattle.osgi_space_sources.proofs.leads.by_export.Goals as goal

pub loop-lead-init : goal.loop-lead-init
loop-lead-init c = each-none (λ (x : Lead). IsUnder c.new-grouped.result x.export x.source) c.args.leads.now

pub loop-lead-preserved : goal.loop-lead-preserved
loop-lead-preserved c =
    let leads = c.args.leads.now in
    let i = c.loop-lead.lead-index in
    let none : Given = record { «package» = 0; source = 0 } in
    let lead : Lead = get_or leads i (record { export = none; source = none }) in
    let old = c.loop-lead.grouped in
    let new = c.push.new.self in
    each-more (λ (x : Lead). IsUnder old x.export x.source) (λ (x : Lead). IsUnder new x.export x.source) leads i lead c.loop-lead-test.true (get_or_default leads i _ lead c.loop-lead-test.true)
    (λ x at. under-kept old new lead.export lead.source c.in_ok-push.ensures.added x.export x.source at) c.loop-lead.invariant (under-pushed old new lead.export lead.source c.in_ok-push.ensures.added)

pub returns : goal.returns
returns c = record { grouped = each-whole (λ (x : Lead). IsUnder c.loop-lead.grouped x.export x.source) c.args.leads.now c.loop-lead.lead-index c.loop-lead-test.false c.loop-lead.invariant }
