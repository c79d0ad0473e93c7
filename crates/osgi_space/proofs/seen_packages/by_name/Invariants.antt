-- The map has exactly the sources so far, by the names of their packages.
use Rattle.std.proofs.Common.{◌≡◌, ◌↔◌, ℕ, List, Any, take}
use Rattle.osgi_space_rows.specs.Names.{HasNumber}
use Rattle.osgi_space_sources.specs.declared.given.Given.{Given}
use Rattle.osgi_space.specs.computed.ByName.{HasSource, IsFilled}
use Rattle.osgi_space.proofs.seen_packages.by_name.Given as goal

abbrev pub invariant-loop-given : goal.invariant-loop-given
invariant-loop-given l =
    IsFilled l.space × ((p : List ℕ) (x : ℕ) → HasSource l.space p x ↔ Any (λ (g : Given). HasNumber l.names p g.package × (g.source ≡ x)) (take l.given-index l.givens))
