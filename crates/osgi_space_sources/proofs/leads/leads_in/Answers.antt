-- What is carried back stands under its export.
use Rattle.std.proofs.Common.{List, sym, subst, Contains}
use Rattle.osgi_space_rows.specs.declared.grouped.Grouped.{Grouped}
use Rattle.osgi_space_sources.specs.computed.Leads.{IsUnder, LeadsBack}
use Rattle.osgi_space_sources.specs.computed.Reach.{Reach}
use Rattle.osgi_space_sources.specs.declared.given.Given.{Given}
use Rattle.osgi_space_sources.specs.declared.lead.Lead.{Lead}
use Rattle.osgi_space_sources.proofs.Whole.{for-one}
use Rattle.osgi_space_sources.proofs.leads.leads_in.Goals as goal

pub returns : goal.returns
returns c =
    let t = c.args.trace in
    let all = c.in-Some.all in
    record {
      leads = for-one (λ (leads : Grouped Given Given). (l : Lead) → Reach (Contains t.leads) (LeadsBack t.users) l → IsUnder leads l.export l.source) c.in_ok-by_export.field-0
          (λ l led. c.in_ok-by_export.ensures.grouped l (subst (λ (xs : List Lead). Contains xs l) (sym c.items.ensures.items) (c.in_ok-all.ensures.carried all c.in-Some.is l led)));
    }
