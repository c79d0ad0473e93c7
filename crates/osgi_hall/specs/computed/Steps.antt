-- What each step on a hall's table shows the seat that makes it. Each is a function of what the seat was.
use Rattle.std.specs.Prelude.{◌≡◌, ◌≢◌, ℕ, ◌+◌, ◌-◌, ◌%◌, ◌^◌, List, [], ◌∷◌, ◌++◌, length, drop, Option, Some}
use mathlib.Core.Option.{some}
use lib.ListN.{get_elem?}
use Rattle.atomic_table.specs.Table.{Me, Step, rest}
use Rattle.osgi_hall.specs.declared.entry.Entry.{Entry}
use Rattle.osgi_hall.specs.declared.entry.Joined.{Joined}
use Rattle.osgi_hall.specs.declared.board.Known.{Known}
use Rattle.osgi_hall.specs.declared.board.Stage.{Stage}
use Rattle.osgi_hall.specs.declared.board.Stage.TheVariants.{Idle, Waits, Has, Done}
use Rattle.osgi_hall.specs.declared.board.View.{View}
use Rattle.osgi_hall.specs.declared.board.View.TheVariants.{Live, Spent}
use Rattle.osgi_hall.specs.Histories.{BeginsWith, calls_by, longer}
use Rattle.osgi_hall.specs.Passes.{IsLegalFor}
use Rattle.osgi_hall.specs.computed.Lists.{Each}
use Rattle.osgi_hall.specs.computed.Stages.{stage_place, noted_of, stage_of}

module _ {O R Z : Type 0} where
  -- caller 0 in a new hall
  abbrev pub first_view : Z → View O R Z
  first_view z = Live record { caller = 0; setting = z ∷ []; stage = Idle; seen = []; own = []; notes = []; made = 1; out = 0; ended = [] }

  -- the same caller at this stage
  abbrev pub staged : Stage O R → View O R Z → View O R Z
  staged st Spent = Spent
  staged st (Live k) = Live record k { stage = st }

  -- the caller has seen this history, and what that has beyond the noted one is its own
  abbrev pub told : List (Entry O R) → View O R Z → View O R Z
  told es Spent = Spent
  told es (Live k) = Live record k { stage = Done (stage_place k.stage); seen = es; own = k.own ++ drop (length (noted_of k.stage)) es }

module _ {M O R : Type 0} where
  -- the history of the machine in the slot that was taken last
  abbrev pub entries_in : (M → List (Entry O R)) → List (ℕ × Option M) → List (Entry O R)
  entries_in entries ((_, Some x) ∷ _) = entries x
  entries_in entries _ = []

-- a seat: its view, and the slots that it holds
abbrev Sat : (M O R Z : Type 0) → Type 0
Sat M O R Z = Me (Option M) (View O R Z)

module _ {M O R Z : Type 0} where
  -- the seat has drawn the place that was next
  abbrev pub drawn : Step (Option M) → Sat M O R Z → ℕ → Sat M O R Z → Type 0
  drawn st m r m' = (p : ℕ) × (m' ≡ (staged (Waits p) m.0, m.1)) × (p % 2 ^ 64 ≡ r)

  -- What the caller knows of the machine that it took: its setting, and that its history begins with what the caller has seen and has
  -- exactly the known calls of the caller and of those that have joined
  abbrev pub Knows : (M → List (Entry O R)) → (M → Z) → View O R Z → M → Type 0
  Knows entries setting Spent x = Unit {0}
  Knows entries setting (Live k) x = (setting x ∷ [] ≡ k.setting) × BeginsWith (entries x) k.seen × (calls_by k.caller (entries x) ≡ k.own)
      × ((i : ℕ) (y : Joined O R) → get_elem? k.ended i ≡ some y → (y.caller ≢ k.caller) × (calls_by y.caller (entries x) ≡ y.own))

  -- where the place is served, the machine is out with the caller, who knows what it has; else nothing changed
  abbrev pub found : (M → List (Entry O R)) → (M → Z) → Step (Option M) → Sat M O R Z → ℕ → Sat M O R Z → Type 0
  found entries setting st m r m' = (r ≡ stage_place (stage_of m.0) % 2 ^ 64 → (x : M) × (m' ≡ (staged (Has (stage_place (stage_of m.0)) (entries x)) m.0, (0, Some x) ∷ m.1)) × Knows entries setting m.0 x)
      × (r ≢ stage_place (stage_of m.0) % 2 ^ 64 → m' ≡ m)

  -- the slot is given back, and the caller has seen the history of the machine in it
  abbrev pub noted : (M → List (Entry O R)) → Step (Option M) → Sat M O R Z → ℕ → Sat M O R Z → Type 0
  noted entries st m r m' = m' ≡ (told (entries_in entries m.1) m.0, rest m.1)

  -- the seat holds no place
  abbrev pub given : Step (Option M) → Sat M O R Z → ℕ → Sat M O R Z → Type 0
  given st m r m' = m' ≡ (staged Idle m.0, m.1)

module _ {O R Z : Type 0} where
  -- what a look shows of a caller: what it knows is legal, begins with each of its notes, and counts all passes
  abbrev pub Understands : (Z → List (Entry O R) → Type 0) → View O R Z → Type 0
  Understands can_make Spent = Unit {0}
  Understands can_make (Live k) = IsLegalFor can_make k.setting k.caller k.seen k.own k.ended × Each (BeginsWith k.seen) k.notes
      × (k.caller ≡ 0 → k.made ≡ k.out + 1 + length k.ended)

  abbrev pub unnoted : View O R Z → View O R Z
  unnoted Spent = Spent
  unnoted (Live k) = Live record k { notes = [] }

  -- caller 0 after a split, and the caller that it made
  abbrev pub splitting : View O R Z → View O R Z
  splitting Spent = Spent
  splitting (Live k) = Live record k { made = k.made + 1; out = k.out + 1 }

  abbrev pub newcomer : View O R Z → View O R Z
  newcomer Spent = Spent
  newcomer (Live k) = Live record { caller = k.made; setting = k.setting; stage = Idle; seen = k.seen; own = []; notes = []; made = 0; out = 0; ended = [] }

  abbrev pub ended_of : Known O R Z → Joined O R
  ended_of k = record { caller = k.caller; own = k.own }

  -- caller 0 after another has joined
  abbrev pub joining : View O R Z → View O R Z → View O R Z
  joining (Live k) (Live e) = Live record k { seen = longer k.seen e.seen; notes = k.seen ∷ e.seen ∷ []; out = k.out - 1; ended = k.ended ++ ended_of e ∷ [] }
  joining v _ = v

module _ {M O R Z : Type 0} where
  abbrev pub looked : (Z → List (Entry O R) → Type 0) → Step (Option M) → Sat M O R Z → ℕ → Sat M O R Z → Type 0
  looked can_make st m r m' = (m' ≡ (unnoted m.0, m.1)) × Understands can_make m.0
