-- The members so far were added.
use Rattle.std.proofs.Common.{◌≡◌, ℕ, take}
use Rattle.osgi_space_sources.specs.computed.Adds.{Adds}
use Rattle.osgi_space_sources.specs.laws.Adding.{Each}
use Rattle.osgi_resolver_hopeless.proofs.leading.add_wired.Given as goal

abbrev pub invariant-loop-member : goal.invariant-loop-member
invariant-loop-member l = Adds (Each (λ (member n : ℕ). n ≡ member) (take l.member-index l.member-items)) l.fn.found l.found
