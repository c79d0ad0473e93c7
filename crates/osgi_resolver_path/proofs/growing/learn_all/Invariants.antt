-- The owners so far are known.
use Rattle.std.proofs.Common.{take}
use Rattle.std.specs.Prelude.{All}
use Rattle.osgi_resolver_decisions.specs.computed.Known.{Knows, KnowsMore}
use Rattle.osgi_resolver_path.proofs.growing.learn_all.Given as goal

abbrev pub invariant-loop-owner : goal.invariant-loop-owner
invariant-loop-owner l = record {
  kept : KnowsMore l.initial.lists l.lists;
  known : All (Knows l.lists) (take l.owner-index l.owners);
}
