-- The requirements so far can be met.
use Rattle.std.proofs.Common.{ℕ, ◌<◌}
use Rattle.osgi_resolver_hopeless.specs.computed.Stuck.{AtMember, CannotBeMet, IsOwner, place}
use Rattle.osgi_resolver_hopeless.proofs.unmet.is_owner_unmet.Given as goal

abbrev pub invariant-loop-index : goal.invariant-loop-index
invariant-loop-index l = AtMember l.path l.member (λ P D. IsOwner P D l.member l.owner → (k : ℕ) → k < l.index → ¬ CannotBeMet P D l.member (place l.owner k))
