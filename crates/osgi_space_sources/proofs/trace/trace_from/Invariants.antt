-- The first exports are traced, and those from which it began are there.
use Rattle.std.proofs.Common.{Contains, ◌-◌, ◌^◌}
use Rattle.osgi_space_sources.specs.computed.Amongst.{IsAmong}
use Rattle.osgi_space_sources.specs.computed.Disputes.{IsDisputed}
use Rattle.osgi_space_sources.specs.computed.Traces.{IsTraced}
use Rattle.osgi_space_sources.specs.declared.given.Given.{Given}
use Rattle.osgi_space_sources.proofs.Whole.{IsDone}
use Rattle.osgi_space_sources.proofs.trace.trace_from.Given as goal

abbrev pub invariant-loop-next : goal.invariant-loop-next
invariant-loop-next l = record {
  begins : (h : Given) → Contains l.fn.exports h → Contains l.trace.exports h;
  traced : IsDone (IsTraced l.rows (IsAmong l.among) (IsDisputed l.disputed) l.trace) l.trace.exports l.next;
}

abbrev pub decreases-loop-next : goal.decreases-loop-next
decreases-loop-next l = 2 ^ 64 - l.next
