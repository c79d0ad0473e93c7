-- One lead for each user.
use Rattle.std.proofs.Common.{◌≡◌, ◌↔◌, List, ap, sym, subst, Contains}
use Rattle.std.proofs.lemmas.List.{get_or_default}
use Rattle.osgi_space_rows.specs.computed.Groups.{values_of}
use Rattle.osgi_space_rows.specs.declared.grouped.Grouped.{Grouped}
use Rattle.osgi_space_sources.specs.computed.Adds.{Adds}
use Rattle.osgi_space_sources.specs.computed.Exact.{given_cmp}
use Rattle.osgi_space_sources.specs.computed.Leads.{LeadsBack}
use Rattle.osgi_space_sources.specs.declared.given.Given.{Given}
use Rattle.osgi_space_sources.specs.declared.lead.Lead.{Lead}
use Rattle.osgi_space_sources.specs.laws.Adding.{Each, adds-more, adds-same, adds-start, adds-whole, any-in, any-of}
use Rattle.osgi_space_sources.proofs.leads.add_users.Goals as goal

abbrev gives : Given → Given → Lead → Type 0
gives s user to = to ≡ record { export = user; source = s }

pub loop-user-init : goal.loop-user-init
loop-user-init c = adds-start (gives c.args.lead.source) c.of-user-items.result.now c.args.leads.now

pub loop-user-preserved : goal.loop-user-preserved
loop-user-preserved c =
    let users = c.of-user-items.result.now in
    let at = get_or_default users c.loop-user.user-index _ _ c.loop-user-test.true in
    adds-more (gives c.args.lead.source) users c.loop-user.user-index _ c.loop-user-test.true at c.loop-user.invariant c.in_ok-add.ensures.added

each : (users : Grouped Given Given) (lead to : Lead) → Each (gives lead.source) (values_of given_cmp users lead.export) to ↔ LeadsBack users lead to
each users lead to =
    let under = values_of given_cmp users lead.export in
    let P : Given → Type 0 = λ user. gives lead.source user to in (
      λ any. (subst (Contains under) (ap (λ (l : Lead). l.export) (sym any.4)) (any-in P under any), ap (λ (l : Lead). l.source) any.4),
      λ back. any-of P under to.export back.0 (λ i. record { export = to.export; source = back.1 i }),
    )

pub returns : goal.returns
returns c = record {
  added =
      let users = c.of-user-items.result.now in
      let P : List Given → Type 0 = λ xs. Adds (Each (gives c.args.lead.source) xs) c.args.leads.now c.loop-user.leads in
      adds-same (each c.args.users.now c.args.lead) (subst P c.of-user-items.ensures.values (adds-whole (gives c.args.lead.source) users c.loop-user.user-index c.loop-user-test.false c.loop-user.invariant));
}
