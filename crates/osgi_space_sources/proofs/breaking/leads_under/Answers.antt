-- What stands under one export more.
use Rattle.std.proofs.Common.{List, get_or, Contains}
use Rattle.std.proofs.lemmas.List.{get_or_default}
use Rattle.osgi_space_rows.specs.declared.grouped.Grouped.{Grouped}
use Rattle.osgi_space_sources.specs.computed.Leads.{IsUnder}
use Rattle.osgi_space_sources.specs.declared.given.Given.{Given}
use Rattle.osgi_space_sources.proofs.Whole.{each-more, each-none, each-whole}
use Rattle.osgi_space_sources.proofs.breaking.leads_under.Goals as goal

abbrev HasAll : Grouped Given Given → List Given → Given → Type 0
HasAll leads found h = (s : Given) → IsUnder leads h s → Contains found s

pub loop-export-init : goal.loop-export-init
loop-export-init c = each-none (HasAll c.args.leads.now c.new-found.result) c.args.exports.now

pub loop-export-preserved : goal.loop-export-preserved
loop-export-preserved c =
    let leads = c.args.leads.now in
    let exports = c.args.exports.now in
    let i = c.loop-export.export-index in
    let export : Given = get_or exports i (record { «package» = 0; source = 0 }) in
    let kept = c.in_ok-add_leads.ensures.kept in
    each-more (HasAll leads c.loop-export.found) (HasAll leads c.add_leads.new.found) exports i export c.loop-export-test.true (get_or_default exports i _ export c.loop-export-test.true)
    (λ h all s under. kept s (all s under)) c.loop-export.invariant c.in_ok-add_leads.ensures.added

pub returns : goal.returns
returns c = record {
  leads = λ h s at.
      each-whole (HasAll c.args.leads.now c.loop-export.found) c.args.exports.now c.loop-export.export-index c.loop-export-test.false c.loop-export.invariant h at s;
}
