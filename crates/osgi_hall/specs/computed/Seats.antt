-- What a seat knows before and after a turn.
use Rattle.std.specs.Prelude.{◌≡◌, ℕ, List, [], ◌∷◌, ◌++◌, Option, None}
use Rattle.atomic_table.specs.Table.{Me}
use Rattle.osgi_hall.specs.declared.entry.Entry.{Entry}
use Rattle.osgi_hall.specs.declared.board.Known.{Known}
use Rattle.osgi_hall.specs.declared.board.Stage.TheVariants.{Idle, Has, Done}
use Rattle.osgi_hall.specs.declared.board.View.{View}
use Rattle.osgi_hall.specs.declared.board.View.TheVariants.{Live}
use Rattle.osgi_hall.specs.computed.Lists.{Each}
use Rattle.osgi_hall.specs.computed.Steps.{staged, Knows}

module _ {M O R Z : Type 0} where
  -- it holds no place and no slot
  abbrev pub IsIdle : Me (Option M) (View O R Z) → Type 0
  IsIdle me = (k : Known O R Z) × (me ≡ (Live k, [])) × (k.stage ≡ Idle)

  -- it has the turn and this machine, whose slot it holds empty
  abbrev pub HasTurn : (M → List (Entry O R)) → (M → Z) → View O R Z → M → Me (Option M) (View O R Z) → Type 0
  HasTurn entries setting v x me = (p : ℕ) × (me ≡ (staged (Has p (entries x)) v, (0, None) ∷ [])) × Knows entries setting v x

  -- it has the turn, and this machine has what it had when the turn began, or more entries of this caller
  abbrev pub MayLeave : (M → List (Entry O R)) → (M → Z) → M → Me (Option M) (View O R Z) → Type 0
  MayLeave entries setting x me = (k : Known O R Z) × (p : ℕ) × (es : List (Entry O R)) × (suffix : List (Entry O R)) × (me ≡ (Live k, (0, None) ∷ [])) × (k.stage ≡ Has p es) × (entries x ≡ es ++ suffix)
      × Each (λ (e : Entry O R). e.tag.caller ≡ k.caller) suffix × (setting x ∷ [] ≡ k.setting)

module _ {O R Z : Type 0} where
  -- it has the turn, and the machine is back
  abbrev pub IsDone : View O R Z → Type 0
  IsDone v = (k : Known O R Z) × (p : ℕ) × (v ≡ Live k) × (k.stage ≡ Done p)
