-- When nothing is left to look at, all is carried back.
use Rattle.std.proofs.Common.{◌<◌, List, length, get_or, arith, Contains}
use Rattle.osgi_space_sources.specs.computed.Leads.{LeadsBack}
use Rattle.osgi_space_sources.specs.computed.Reach.{Reach}
use Rattle.osgi_space_sources.specs.declared.given.Given.{Given}
use Rattle.osgi_space_sources.specs.declared.lead.Lead.{Lead}
use Rattle.osgi_space_sources.specs.laws.Adding.{item-at}
use Rattle.osgi_space_sources.proofs.Whole.{for-one}
use Rattle.osgi_space_sources.proofs.Worklist.{worklist-init, worklist-step, worklist-done}
use Rattle.osgi_space_sources.proofs.leads.carried_back.Goals as goal

pub loop-next-init : goal.loop-next-init
loop-next-init c = worklist-init (Contains c.args.leads) (LeadsBack c.args.users.now) c.args.leads (λ l. (λ at. at, λ at. at))

pub loop-next-preserved : goal.loop-next-preserved
loop-next-preserved c =
    let all = c.loop-next.all in
    let next = c.loop-next.next in
    let slice = c.items.result.now in
    let none : Given = record { «package» = 0; source = 0 } in
    let no_lead : Lead = record { export = none; source = none } in
    let within : next < length all = omega arith in
    worklist-step (Contains c.args.leads) (LeadsBack c.args.users.now) all c.add_users.new.leads next (get_or slice next no_lead) within (item-at all slice next no_lead c.items.ensures.items within)
    c.loop-next.invariant c.in_ok-add_users.ensures.added

pub returns : goal.returns
returns c =
    let all = c.loop-next.all in
    let leads = c.args.leads in
    let Back = LeadsBack c.args.users.now in
    let done = worklist-done (Contains leads) Back all c.loop-next.next (omega arith) c.loop-next.invariant in
    record { carried = for-one (λ (found : List Lead). (l : Lead) → Reach (Contains leads) Back l → Contains found l) all (λ l led. (done l).1 led) }
