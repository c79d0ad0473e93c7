-- The rule of a hall's table, which holds before and after each step.
-- Word 0 is the next ticket, word 1 the place that is served, word 2 the number of entries; the words count places modulo 2^64, of which
-- fewer are ever held at once. Slot 0 is the machine's. A caller's number is its seat's place among the seats.
use Rattle.std.specs.Prelude.{◌≡◌, ◌≢◌, ◌⊎◌, ℕ, ◌+◌, ◌%◌, ◌^◌, ◌<◌, ◌≤◌, List, [], ◌∷◌, length, Option, Some}
use mathlib.Core.Option.{some, none}
use lib.ListN.{get_elem?}
use Rattle.atomic_table.specs.Table.{State}
use Rattle.osgi_hall.specs.declared.entry.Entry.{Entry}
use Rattle.osgi_hall.specs.declared.entry.Joined.{Joined}
use Rattle.osgi_hall.specs.declared.board.Known.{Known}
use Rattle.osgi_hall.specs.declared.board.View.{View}
use Rattle.osgi_hall.specs.declared.board.View.TheVariants.{Live, Spent}
use Rattle.osgi_hall.specs.Histories.{BeginsWith, calls_by}
use Rattle.osgi_hall.specs.computed.Lists.{total, Each}
use Rattle.osgi_hall.specs.computed.Stages.{HasPlace, IsOut, InTurn, stage_of, held, live}

module _ {O R Z : Type 0} where
  -- What is true of a caller that has not joined, at the seat j. The history of all begins with what it has seen, which a machine of
  -- the setting can make, and both have exactly its own calls of its number. Only caller 0 knows of callers that have joined.
  pub record IsSeated (CanMake : Z → List (Entry O R) → Type 0) (z : Z) (all : List (Entry O R)) (low high j : ℕ) (k : Known O R Z) : Type 0 where
    pub caller : k.caller ≡ j
    pub setting : k.setting ≡ z ∷ []
    pub begins : BeginsWith all k.seen
    pub can : CanMake z k.seen
    pub own_all : calls_by j all ≡ k.own
    pub own_seen : calls_by j k.seen ≡ k.own
    pub turn : InTurn low high all k.stage
    pub noted_begin : Each (BeginsWith k.seen) k.notes
    pub plain : j ≢ 0 → k.ended ≡ []

  -- the same of any seat: one that is spent is that of a caller that has joined
  abbrev pub Sound : (Z → List (Entry O R) → Type 0) → Z → List (Entry O R) → ℕ → ℕ → List (Joined O R) → ℕ → View O R Z → Type 0
  Sound CanMake z all low high ended j Spent = (i : ℕ) × (x : Joined O R) × (get_elem? ended i ≡ some x) × (x.caller ≡ j)
  Sound CanMake z all low high ended j (Live k) = IsSeated CanMake z all low high j k

  -- what caller 0 knows of all callers
  pub record IsRoot (made out : ℕ) (ended : List (Joined O R)) (k : Known O R Z) : Type 0 where
    pub made_is : k.made ≡ made
    pub out_is : k.out ≡ out
    pub ended_is : k.ended ≡ ended
    pub ended_calls : (i : ℕ) (x : Joined O R) → get_elem? ended i ≡ some x → calls_by x.caller k.seen ≡ x.own

module _ {M O R Z : Type 0} where
  -- the machine is in its slot, has the setting and the history of all, and no caller has it
  abbrev pub AtHome : (M → List (Entry O R)) → (M → Z) → Z → List (Entry O R) → State (Option M) (View O R Z) → Type 0
  AtHome entries setting z all s = (m : M) × (s.homes ≡ some (Some m) ∷ []) × (entries m ≡ all) × (setting m ≡ z) × ((j : ℕ) (v : View O R Z) → get_elem? s.views j ≡ some v → IsOut (stage_of v) → ⊥)

  -- some caller has the slot
  abbrev pub WithSomeone : State (Option M) (View O R Z) → Type 0
  WithSomeone s = (s.homes ≡ none ∷ []) × (j : ℕ) × (v : View O R Z) × (get_elem? s.views j ≡ some v) × IsOut (stage_of v)

  pub record Kept (entries : M → List (Entry O R)) (setting : M → Z) (CanMake : Z → List (Entry O R) → Type 0) (z : Z) (s : State (Option M) (View O R Z)) : Type 0 where
    -- the history of all: the longest that any caller has seen
    pub all : List (Entry O R)
    pub low : ℕ
    pub high : ℕ
    pub made : ℕ
    pub out : ℕ
    pub ended : List (Joined O R)
    pub words : s.words ≡ high % 2 ^ 64 ∷ low % 2 ^ 64 ∷ length all ∷ []
    pub each : (j : ℕ) (v : View O R Z) → get_elem? s.views j ≡ some v → Sound CanMake z all low high ended j v
    -- each place from low up to high is held, by one caller
    pub apart : (i j p : ℕ) (v w : View O R Z) → get_elem? s.views i ≡ some v → get_elem? s.views j ≡ some w → HasPlace (stage_of v) p → HasPlace (stage_of w) p → i ≡ j
    pub places : low + total held s.views ≡ high
    pub taken : (p : ℕ) → low ≤ p → p < high → (j : ℕ) × (v : View O R Z) × (get_elem? s.views j ≡ some v) × HasPlace (stage_of v) p
    pub slot : AtHome entries setting z all s ⊎ WithSomeone s
    pub longest : (j : ℕ) × (k : Known O R Z) × (get_elem? s.views j ≡ some (Live k)) × (k.seen ≡ all)
    -- each number below made is 0, or that of another caller that has not joined, of which there are out, or of one that has joined
    pub made_is : length s.views ≡ made
    pub few : made < 2 ^ 32
    pub out_is : total live s.views ≡ out + 1
    pub tally : made ≡ out + 1 + length ended
    pub root : (k : Known O R Z) × (get_elem? s.views 0 ≡ some (Live k)) × IsRoot made out ended k
    pub no_others : Each (λ (e : Entry O R). e.tag.caller < made) all
    pub ended_apart : (i j : ℕ) (x y : Joined O R) → get_elem? ended i ≡ some x → get_elem? ended j ≡ some y → x.caller ≡ y.caller → i ≡ j
    pub ended_spent : (i : ℕ) (x : Joined O R) → get_elem? ended i ≡ some x → (get_elem? s.views x.caller ≡ some Spent) × (calls_by x.caller all ≡ x.own)
