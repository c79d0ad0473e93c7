-- What stands under the exports so far is found.
use Rattle.std.proofs.Common.{Contains, take}
use Rattle.osgi_space_sources.specs.computed.Leads.{IsUnder}
use Rattle.osgi_space_sources.specs.declared.given.Given.{Given}
use Rattle.osgi_space_sources.proofs.breaking.leads_under.Given as goal

abbrev pub invariant-loop-export : goal.invariant-loop-export
invariant-loop-export l = (h : Given) → Contains (take l.export-index l.exports) h → (s : Given) → IsUnder l.leads h s → Contains l.found s
