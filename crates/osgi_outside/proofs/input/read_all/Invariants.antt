-- What the loop that reads a source keeps.
use Rattle.std.proofs.Common.{vec_len, ◌-◌, ◌+◌, ◌≤◌}
use Rattle.std.specs.Io.KnownBytes.{Consumes}
use Rattle.osgi_outside.proofs.input.read_all.Given as goal

abbrev pub invariant-loop-alloc : goal.invariant-loop-alloc
invariant-loop-alloc g l = record {
  later : g.S.Source.faults l.initial.source ≤ g.S.Source.faults l.source;
  taken : Consumes (g.S.Source.left l.initial.source) (g.S.Source.left l.source) l.all.items;
}

abbrev pub decreases-loop-alloc : goal.decreases-loop-alloc
decreases-loop-alloc g l = l.limit + 1 - vec_len l.all
