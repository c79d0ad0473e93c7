-- Wirings to which one attachment or wire after the other is added. A revision can have several wirings here: it has what they hold together.
use Rattle.std.specs.Prelude.{ℕ, List, [], ◌∷◌, ◌++◌, map}
use Rattle.osgi_base.specs.declared.ids.RevisionId.{RevisionId}
use Rattle.osgi_world.specs.Decisions.{Made, Step, adds, attached, wired}
use Rattle.osgi_world.specs.Sources.{Clash, Implied}
use Rattle.osgi_world.specs.declared.problem.Problem.{Problem}
use Rattle.osgi_world.specs.declared.wiring.Wiring.{Wiring}
use Rattle.osgi_world.specs.declared.world.Known.{Known}

abbrev pub wiring_of : Step → Wiring
wiring_of (attached h f) = record { revision = h; wires = []; fragments = f ∷ [] }
wiring_of (wired r w) = record { revision = r; wires = w ∷ []; fragments = [] }

abbrev pub with_steps : List Wiring → List Step → List Wiring
with_steps W steps = W ++ map wiring_of steps

-- what the decisions that are made add
abbrev pub all_steps : Problem → Made → List Step
all_steps P [] = []
all_steps P (t ∷ D) = adds P t.0 t.1 ++ all_steps P D

-- a pair that is made through revisions of A alone clashes
pub record HasClash (K : List Known) (W : List Wiring) (A : RevisionId → Type 0) (r e : RevisionId) (u : List ℕ) : Type 0 where
  pub pair : Implied K W A r e u
  pub clash : Clash K W r e u
