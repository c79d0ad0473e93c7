-- What was found follows, what follows from the first ones of it was found, and so was all that packages which were followed use.
use Rattle.std.proofs.Common.{◌⊎◌, ◌-◌, ◌^◌}
use Rattle.osgi_space_sources.specs.computed.Amongst.{IsAmong}
use Rattle.osgi_space_sources.specs.computed.Disputes.{AreFollowed, IsNotedEnd}
use Rattle.osgi_space_sources.specs.computed.Pairs.{IsNext, IsUseOfSome, IsUseOfWired}
use Rattle.osgi_space_sources.proofs.Worklist.{IsWorklist}
use Rattle.osgi_space_sources.proofs.constraints.constraints_between.Given as goal

abbrev pub invariant-loop-next : goal.invariant-loop-next
invariant-loop-next l = record {
  worklist : IsWorklist (λ g. IsUseOfWired l.rows (IsAmong l.among) l.imports g ⊎ IsUseOfSome l.rows (IsAmong l.among) l.givens g) (IsNext l.rows (IsAmong l.among)) l.found l.next;
  followed : AreFollowed l.rows (IsAmong l.among) (IsNotedEnd l.disputed) l.followed l.found;
}

abbrev pub decreases-loop-next : goal.decreases-loop-next
decreases-loop-next l = 2 ^ 64 - l.next
