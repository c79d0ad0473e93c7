-- The requirements so far are met.
use Rattle.std.proofs.Common.{ℕ, ◌<◌}
use Rattle.osgi_space_rules.specs.computed.Holding.{requirement_ref}
use Rattle.osgi_space_rules.specs.computed.Indexed.{IsWired}
use Rattle.osgi_world.specs.Lookups.{IsNeeded}
use Rattle.osgi_space_rules.proofs.payload.is_met.Given as goal

abbrev pub invariant-loop-place : goal.invariant-loop-place
invariant-loop-place l = (n : ℕ) → n < l.place → IsNeeded l.known (requirement_ref l.owner n) → IsWired l.index l.id (requirement_ref l.owner n)
