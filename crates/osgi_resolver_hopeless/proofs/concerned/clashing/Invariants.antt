-- Those of the revisions so far are in the list.
use Rattle.std.proofs.Common.{◌≡◌, ◌⊎◌, ℕ, Any, take}
use Rattle.osgi_space_sources.specs.computed.Clashes.{IsClash}
use Rattle.osgi_world.specs.Lists.{In}
use Rattle.osgi_resolver_hopeless.proofs.concerned.clashing.Given as goal

abbrev pub invariant-loop-revision : goal.invariant-loop-revision
invariant-loop-revision l = record {
  those : (n : ℕ) → In n l.list.items → In n l.revisions;
  all : (n : ℕ) → In n (take l.revision-index l.revisions) → (n ≡ l.host) ⊎ Any (IsClash l.rows n) l.pairs → In n l.list.items;
}
