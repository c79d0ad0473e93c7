-- What is true of the listeners' fields between calls.
use Rattle.std.specs.Prelude.{ℕ, ◌≡◌, ◌<◌, ◌≤◌, if◌then◌else◌, List, [], ◌∷◌, All, length, slice_index_or}
use Rattle.osgi_base.specs.declared.ids.ListenerId.{ListenerId}
use Rattle.osgi_base.specs.declared.ids.Tag.{Tag}
use Rattle.osgi_listeners.specs.Rows.{AreInOrder, id_of, is_in_turn, Listening, Row}
use Rattle.osgi_listeners.specs.computed.Kinds.{AreByKind}
use Rattle.osgi_listeners.specs.computed.Tournaments.{none, number_at}
use Rattle.osgi_listeners.specs.declared.kind_index.KindIndex.{KindIndex}
use Rattle.osgi_listeners.specs.declared.row.Waiting.{Waiting}

-- the listener is not live
abbrev pub IsAbsent : ListenerId → List Row → Type 0
IsAbsent listener rows = All (λ row. ¬ (id_of row ≡ listener.0)) rows

-- the listener's row stands here
pub record IsPlaceOf (listener : ListenerId) (rows : List Row) (at : ℕ) : Type 0 where
  pub within : at < length rows
  pub is : (d : Row) → id_of (slice_index_or rows at d) ≡ listener.0

abbrev pub first_in : List Waiting → ℕ
first_in [] = none
first_in (w ∷ rest) = w.place

-- the place of the first event that waits, or none
abbrev pub first_place : Row → ℕ
first_place row = first_in row.waiting

-- the same, where it can be handed
abbrev pub open_place : List (ℕ × Tag) → Row → ℕ
open_place turns row = if is_in_turn turns row then none else first_place row

-- at the place of each row stands where its first event is that can be handed, and at no other place a number
pub record AreFirsts (numbers : List ℕ) (turns : List (ℕ × Tag)) (rows : List Row) : Type 0 where
  pub at : (i : ℕ) (d : Row) → i < length rows → number_at numbers i ≡ open_place turns (slice_index_or rows i d)
  pub past : (i : ℕ) → length rows ≤ i → number_at numbers i ≡ none

-- all that is true of the fields
pub record IsKept (l : Listening) (numbers : List ℕ) (index : KindIndex) : Type 0 where
  pub in_order : AreInOrder l
  pub size : length numbers ≡ 4096
  pub firsts : AreFirsts numbers l.turns l.rows
  pub by_kind : AreByKind index l.rows
