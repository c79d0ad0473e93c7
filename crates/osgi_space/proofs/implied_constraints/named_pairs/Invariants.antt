-- The set has exactly the pairs so far, by the names of their packages.
use Rattle.std.proofs.Common.{◌≡◌, ◌↔◌, Any, take, IsTrue}
use Rattle.std.specs.BTreeSet.{contains}
use Rattle.osgi_space_sources.specs.declared.given.Given.{Given}
use Rattle.osgi_space.specs.ImpliedOrder.{implied_cmp}
use Rattle.osgi_space.specs.computed.NamedPairs.{named_pair}
use Rattle.osgi_space.specs.declared.implied_constraints.Implied.{Implied}
use Rattle.osgi_space.proofs.implied_constraints.named_pairs.Given as goal

abbrev pub invariant-loop-pair : goal.invariant-loop-pair
invariant-loop-pair l = (v : Implied) → IsTrue (contains implied_cmp l.set v) ↔ Any (λ (g : Given). named_pair l.names g ≡ v) (take l.pair-index l.pairs)
