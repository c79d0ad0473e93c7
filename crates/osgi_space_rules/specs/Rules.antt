-- The rule of consistency on `uses`, which is asked for separately from the others.
use Rattle.std.specs.Prelude.{ℕ, List}
use Rattle.osgi_base.specs.declared.ids.RevisionId.{RevisionId}
use Rattle.osgi_world.specs.Sources.{Clash, Implied}
use Rattle.osgi_world.specs.Wirings.{InForce}
use Rattle.osgi_world.specs.declared.wiring.Wiring.{Wiring}
use Rattle.osgi_world.specs.declared.world.Known.{Known}

-- no revision in force has an implied constraint for a package of which it and the revision that sees the package each have a
-- source that the other lacks
abbrev pub UsesHold : List Known → List Wiring → Type 0
UsesHold K W = (r e : RevisionId) (u : List ℕ) → InForce W r → Implied K W (λ x. Unit {0}) r e u → ¬ Clash K W r e u
