-- The users so far lead to the source, too.
use Rattle.std.proofs.Common.{◌≡◌, take}
use Rattle.osgi_space_sources.specs.computed.Adds.{Adds}
use Rattle.osgi_space_sources.specs.declared.given.Given.{Given}
use Rattle.osgi_space_sources.specs.declared.lead.Lead.{Lead}
use Rattle.osgi_space_sources.specs.laws.Adding.{Each}
use Rattle.osgi_space_sources.proofs.leads.add_users.Given as goal

abbrev pub invariant-loop-user : goal.invariant-loop-user
invariant-loop-user l = Adds (Each (λ (user : Given) (to : Lead). to ≡ record { export = user; source = l.lead.source }) (take l.user-index l.user-items)) l.fn.leads l.leads
