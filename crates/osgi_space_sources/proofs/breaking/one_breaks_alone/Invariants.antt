-- None of the revisions so far breaks a constraint.
use Rattle.std.proofs.Common.{Any, take}
use Rattle.osgi_space_sources.specs.computed.Amongst.{IsAmong}
use Rattle.osgi_space_sources.specs.computed.Clashes.{BreaksUses}
use Rattle.osgi_space_sources.proofs.breaking.one_breaks_alone.Given as goal

abbrev pub invariant-loop-revision : goal.invariant-loop-revision
invariant-loop-revision l = ¬ Any (BreaksUses l.rows (IsAmong l.among)) (take l.revision-index l.revisions)
