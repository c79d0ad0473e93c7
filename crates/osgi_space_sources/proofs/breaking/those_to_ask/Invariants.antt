-- Those of the revisions so far.
use Rattle.std.proofs.Common.{ℕ, Contains, take}
use Rattle.osgi_space_sources.specs.computed.Amongst.{IsAmong}
use Rattle.osgi_space_sources.specs.computed.Clashes.{BreaksUses}
use Rattle.osgi_space_sources.proofs.breaking.those_to_ask.Given as goal

abbrev pub invariant-loop-revision : goal.invariant-loop-revision
invariant-loop-revision l = record {
  those : (n : ℕ) → Contains l.list.items n → Contains l.revisions n;
  all : (n : ℕ) → Contains (take l.revision-index l.revisions) n → BreaksUses l.rows (IsAmong l.among) n → Contains l.list.items n;
}
