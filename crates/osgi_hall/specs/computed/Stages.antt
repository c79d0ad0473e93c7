-- How far a caller is with its turn. Places are numbered without end, as tickets are drawn: `low` is the place that is served, and
-- `high` the next one to be drawn.
use Rattle.std.specs.Prelude.{◌≡◌, ℕ, ◌<◌, ◌≤◌, List, []}
use Rattle.osgi_hall.specs.declared.entry.Entry.{Entry}
use Rattle.osgi_hall.specs.declared.board.Stage.{Stage}
use Rattle.osgi_hall.specs.declared.board.Stage.TheVariants.{Idle, Waits, Has, Done}
use Rattle.osgi_hall.specs.declared.board.View.{View}
use Rattle.osgi_hall.specs.declared.board.View.TheVariants.{Live, Spent}

module _ {O R : Type 0} where
  -- it holds this place
  abbrev pub HasPlace : Stage O R → ℕ → Type 0
  HasPlace Idle p = ⊥
  HasPlace (Waits q) p = q ≡ p
  HasPlace (Has q _) p = q ≡ p
  HasPlace (Done q) p = q ≡ p

  -- how many places it holds
  abbrev pub places_of : Stage O R → ℕ
  places_of Idle = 0
  places_of (Waits _) = 1
  places_of (Has _ _) = 1
  places_of (Done _) = 1

  -- its place, or 0
  abbrev pub stage_place : Stage O R → ℕ
  stage_place Idle = 0
  stage_place (Waits p) = p
  stage_place (Has p _) = p
  stage_place (Done p) = p

  -- what it noted when it took the machine
  abbrev pub noted_of : Stage O R → List (Entry O R)
  noted_of (Has _ es) = es
  noted_of _ = []

  -- it has the machine
  abbrev pub IsOut : Stage O R → Type 0
  IsOut (Has _ _) = Unit {0}
  IsOut _ = ⊥

  -- A place that is held is one from low up to high, high not among them. Only the place that is served may have the turn, and who
  -- has the machine noted the whole history.
  abbrev pub InTurn : ℕ → ℕ → List (Entry O R) → Stage O R → Type 0
  InTurn low high all Idle = Unit {0}
  InTurn low high all (Waits p) = (low ≤ p) × (p < high)
  InTurn low high all (Has p noted) = (p ≡ low) × (p < high) × (noted ≡ all)
  InTurn low high all (Done p) = (p ≡ low) × (p < high)

module _ {O R Z : Type 0} where
  abbrev pub stage_of : View O R Z → Stage O R
  stage_of Spent = Idle
  stage_of (Live k) = k.stage

  -- how many places the seat holds
  abbrev pub held : View O R Z → ℕ
  held v = places_of (stage_of v)

  -- 1 of a seat that has not joined
  abbrev pub live : View O R Z → ℕ
  live Spent = 0
  live (Live _) = 1
