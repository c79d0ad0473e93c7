-- The exports so far are there.
use Rattle.std.proofs.Common.{Contains, take}
use Rattle.osgi_space_sources.specs.computed.Amongst.{IsAmong}
use Rattle.osgi_space_sources.specs.computed.Leads.{KeepsAll, StartsWith}
use Rattle.osgi_space_sources.specs.declared.given.Given.{Given}
use Rattle.osgi_space_sources.proofs.breaking.add_all.Given as goal

abbrev pub invariant-loop-given : goal.invariant-loop-given
invariant-loop-given l = record {
  kept : KeepsAll l.fn.found l.found;
  added : (h : Given) → Contains (take l.given-index l.givens) h → StartsWith l.rows (IsAmong l.among) l.found h;
}
