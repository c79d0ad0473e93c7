-- The sources so far stand under their exports.
use Rattle.std.proofs.Common.{Contains, take}
use Rattle.osgi_space_sources.specs.computed.Leads.{IsUnder}
use Rattle.osgi_space_sources.specs.declared.lead.Lead.{Lead}
use Rattle.osgi_space_sources.proofs.leads.by_export.Given as goal

abbrev pub invariant-loop-lead : goal.invariant-loop-lead
invariant-loop-lead l = (x : Lead) → Contains (take l.lead-index l.leads) x → IsUnder l.grouped x.export x.source
