-- The names are those of the revisions so far, and of those before them.
use Rattle.std.proofs.Common.{List, ◌++◌, take}
use Rattle.osgi_candidates.specs.computed.Names.{AreNames, AreOnce}
use Rattle.osgi_candidates.proofs.names.KnownNames.add_all.Given as goal
use Rattle.osgi_world.specs.declared.world.Known.{Known}

abbrev pub invariant-loop-one : goal.invariant-loop-one
invariant-loop-one l = (K : List Known) → AreOnce (K ++ l.known) → AreNames K l.initial.self → AreNames (K ++ take l.one-index l.known) l.self
