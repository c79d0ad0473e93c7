-- What is there is led to, and the users of the first exports lead to it, too.
use Rattle.std.proofs.Common.{Contains, ◌-◌, ◌^◌}
use Rattle.osgi_space_sources.specs.computed.Leads.{LeadsBack}
use Rattle.osgi_space_sources.proofs.Worklist.{IsWorklist}
use Rattle.osgi_space_sources.proofs.leads.carried_back.Given as goal

abbrev pub invariant-loop-next : goal.invariant-loop-next
invariant-loop-next l = IsWorklist (Contains l.fn.leads) (LeadsBack l.users) l.all l.next

abbrev pub decreases-loop-next : goal.decreases-loop-next
decreases-loop-next l = 2 ^ 64 - l.next
