-- The export is traced to the sources so far.
use Rattle.std.proofs.Common.{Contains, take}
use Rattle.osgi_space_sources.specs.computed.Amongst.{IsAmong}
use Rattle.osgi_space_sources.specs.computed.Disputes.{IsDisputed}
use Rattle.osgi_space_sources.specs.computed.Traces.{IsTracedTo, Keeps}
use Rattle.osgi_space_sources.specs.declared.given.Given.{Given}
use Rattle.osgi_space_sources.proofs.trace.trace_sources.Given as goal

abbrev pub invariant-loop-source : goal.invariant-loop-source
invariant-loop-source l = record {
  kept : Keeps l.fn.trace l.trace;
  traced : (s : Given) → Contains (take l.source-index l.sources) s → IsTracedTo l.rows (IsAmong l.among) (IsDisputed l.disputed) l.trace l.export s;
}
