-- The sources so far are found.
use Rattle.std.proofs.Common.{Contains, take}
use Rattle.osgi_space_sources.specs.computed.Leads.{KeepsAll}
use Rattle.osgi_space_sources.specs.declared.given.Given.{Given}
use Rattle.osgi_space_sources.proofs.breaking.add_leads.Given as goal

abbrev pub invariant-loop-source : goal.invariant-loop-source
invariant-loop-source l = record {
  kept : KeepsAll l.fn.found l.found;
  added : (s : Given) → Contains (take l.source-index l.source-items) s → Contains l.found s;
}
