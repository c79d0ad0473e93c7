-- Rows from which what was added can be taken back, step by step.
use Rattle.std.specs.Prelude.{◌≡◌, List, [], ◌∷◌, map}
use Rattle.osgi_world.specs.Decisions.{Step, attached, wired}
use Rattle.osgi_world.specs.declared.wiring.Wiring.{Wiring}
use Rattle.osgi_world.specs.declared.world.World.{World}
use Rattle.osgi_space_rows.specs.Rows.{RowLists}
use Rattle.osgi_space_rows.specs.Steps.{after_steps}
use Rattle.osgi_space_rows.specs.Worlds.{AreRowsIn, WorldLists, with_added}
use Rattle.osgi_uses.specs.declared.trail.Addition.{Addition}
use Rattle.osgi_uses.specs.declared.trail.Addition.TheVariants.{Attached, Wired}
use Rattle.osgi_uses.specs.declared.trail.Taken.{Taken}

abbrev pub step_added : Addition → Step
step_added (Attached h f) = attached h f
step_added (Wired r w) = wired r w

abbrev pub step_of : Taken → Step
step_of t = step_added t.addition

-- the rows are those of the wirings with all that was added, the last first, and without each of them in turn those of the
-- wirings with what was added before
abbrev pub AreRowsAlong : WorldLists → List Wiring → List Taken → Type 0
AreRowsAlong rows W [] = AreRowsIn rows W
AreRowsAlong rows W (t ∷ trail) =
    AreRowsIn rows (after_steps W (map step_of (t ∷ trail)))
    × (R : RowLists) × (rows.rows ≡ with_added R t.added) × AreRowsAlong (record rows { rows = R }) W trail

-- they are rows of the world with what was added
pub record IsTrailOf (world : World) (rows : WorldLists) (trail : List Taken) : Type 0 where
  pub known : rows.known ≡ world.known
  pub along : AreRowsAlong rows world.wirings trail
