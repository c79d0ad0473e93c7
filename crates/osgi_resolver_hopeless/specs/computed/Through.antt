-- Constraints that come through a revision.
use Rattle.std.specs.Prelude.{◌≢◌, ◌⊎◌, ℕ, List}
use Rattle.osgi_base.specs.declared.ids.RevisionId.{RevisionId}
use Rattle.osgi_resolver_theory.specs.Reasons.{Reaches}
use Rattle.osgi_world.specs.Decisions.{Made}
use Rattle.osgi_world.specs.Hopeless.{IsSettled}
use Rattle.osgi_world.specs.Partial.{partial}
use Rattle.osgi_world.specs.Sources.{Sources}
use Rattle.osgi_world.specs.Wirings.{ExportUses}
use Rattle.osgi_world.specs.declared.problem.Problem.{Problem}
use Rattle.osgi_world.specs.declared.wiring.Wiring.{Wiring}
use Rattle.osgi_world.specs.declared.world.Known.{Known}

-- a constraint for u as e sees it, which follows through revisions of A from an export of n that another revision sees
pub data Through (K : List Known) (W : List Wiring) (A : RevisionId → Type 0) (n : RevisionId) : RevisionId → List ℕ → Type 0 where
  begins : {r : RevisionId} {p u : List ℕ} → r ≢ n → Sources K W r p n → A n → ExportUses K W n p u → Through K W A n n u
  goes_on : {e d : RevisionId} {u v : List ℕ} → Through K W A n e u → Sources K W e u d → A d → ExportUses K W d u v → Through K W A n d v

-- m is h or reaches it, or the constraint comes through one that does
abbrev pub ComesThrough : Problem → Made → RevisionId → RevisionId → RevisionId → List ℕ → Type 0
ComesThrough P D h m e u =
    Reaches P.world.known (partial P D) m h
    ⊎ ((n : RevisionId) × Reaches P.world.known (partial P D) n h × Through P.world.known (partial P D) (IsSettled P D) n e u)
