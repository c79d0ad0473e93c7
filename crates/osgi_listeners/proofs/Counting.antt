-- Room at the slots of the listeners that are counted, made for one after another.
use Rattle.std.proofs.Common.{◌≡◌, ◌≢◌, ◌⊎◌, inl, inr, ◌<◌, ◌≤◌, ℕ, List, [], ◌∷◌, ◌++◌, length, map, set, get_or, ap, sym, subst, refl, ◌∙◌, arith, get_or-set_other, get_or-set_same}
use Rattle.std.specs.Prelude.{◌==◌, Bool, true, false, cond, Some, All, count_by, filter, unwrap_or}
use Rattle.std.specs.BTreeMap.{BTreeMap, get, is_at}
use Rattle.std.specs.List.Sorted.{IsStrictlyIncreasing}
use Rattle.std.specs.Map.{count_at, lookup}
use Rattle.std.specs.Ordering.{nat_cmp}
use Rattle.std.proofs.lemmas.Bool.{cases_eq, eqb-true}
use Rattle.std.proofs.lemmas.List.{length-map, length-set}
use Rattle.std.proofs.lemmas.List.Elements.{All-head, All-push, All-tail, All-weaker}
use Rattle.std.proofs.lemmas.List.Sums.{length-filter}
use Rattle.osgi_base.specs.declared.ids.ListenerId.{ListenerId}
use Rattle.osgi_listeners.specs.Rows.{AreRoomierRows, id_of, listeners_in, number_of, Row}
use Rattle.osgi_listeners.specs.Sights.{HasRoomFor, sight_of, sights_by, sights_of}
use Rattle.osgi_listeners.specs.computed.Kept.{IsPlaceOf}
use Rattle.osgi_listeners.specs.declared.row.ListenerRow.{ListenerRow}
use Rattle.osgi_listeners.specs.declared.sight.Sight.{Sight}
use Rattle.osgi_listeners.specs.laws.Ids.{apart, Rise}
use Rattle.osgi_listeners.specs.laws.Items.{filter-mapped}
use Rattle.osgi_listeners.specs.laws.Room.{same_but_room}
use Rattle.osgi_listeners.specs.laws.Turns.{at-is}
use Rattle.osgi_listeners.proofs.Orders.{same_listeners}
use Rattle.osgi_ops.specs.Listening.{is_sight_of}

-- ---- room as it is counted

-- where this is the row of the listener it has room for so many events more
abbrev pub HasRoomAt : ℕ → ℕ → Row → Type 0
HasRoomAt id events row = id_of row ≡ id → events ≤ row.room

-- so it is for each that is counted
abbrev pub AreReserved : List (ℕ × ℕ) → List Row → Type 0
AreReserved counts rows = All (λ (count : ℕ × ℕ). All (HasRoomAt count.0 count.1) rows) counts

-- the row in the place of the listener has the room, and no other row is the listener's
pub room_there : (rows : List Row) (at : ℕ) (row : Row) (listener : ListenerId) (events : ℕ) → Rise rows → IsPlaceOf listener rows at → events ≤ row.room → All (HasRoomAt listener.0 events) (set rows at row)
room_there rows at row listener events rise place enough i d within mine = by (cases_eq i at)
  where
    by : (i ≡ at) ⊎ (i ≢ at) → events ≤ (get_or (set rows at row) i d).room
    by (inl same) =
        let here = ap (λ (r : Row). r.room) (ap (λ n. get_or (set rows at row) n d) same ∙ get_or-set_same rows at row d place.within) in
        omega (arith, here, enough)
    by (inr differ) =
        let inside : i < length rows = subst (λ n. i < n) (length-set rows at row) within in
        let other : id_of (get_or rows i d) ≡ listener.0 = ap id_of (sym (get_or-set_other rows at i row d differ)) ∙ mine in
        absurd (apart rows rise i at d inside place.within differ (other ∙ sym (place.is d)))

-- what had room still has it where there is more room, and so has what was made room for last
pub reserved_next : (counts : List (ℕ × ℕ)) (count : ℕ × ℕ) (old new : List Row) → AreRoomierRows old new → AreReserved counts old → All (HasRoomAt count.0 count.1) new → AreReserved (counts ++ count ∷ []) new
reserved_next counts count old new roomier had has =
    All-push (λ (c : ℕ × ℕ). All (HasRoomAt c.0 c.1) new) counts count (All-weaker (λ (c : ℕ × ℕ). All (HasRoomAt c.0 c.1) old) (λ (c : ℕ × ℕ). All (HasRoomAt c.0 c.1) new) still counts had) has
  where
    still : (c : ℕ × ℕ) → All (HasRoomAt c.0 c.1) old → All (HasRoomAt c.0 c.1) new
    still c room i d within mine =
        let inside : i < length old = subst (λ n. i < n) roomier.count within in
        let more = roomier.each i d inside in
        let enough = room i d inside (ap id_of (sym more.same) ∙ mine) in
        let kept = more.room in
        omega (arith, enough, kept)

pub rising_still : (old new : List Row) → AreRoomierRows old new → IsStrictlyIncreasing (map number_of (listeners_in old)) → IsStrictlyIncreasing (map number_of (listeners_in new))
rising_still old new roomier = subst (λ (ls : List ListenerRow). IsStrictlyIncreasing (map number_of ls)) (sym (same_listeners old new (same_but_room old new roomier)))

row_reserved : (counts : List (ℕ × ℕ)) (row : Row) → All (λ (count : ℕ × ℕ). HasRoomAt count.0 count.1 row) counts → unwrap_or (lookup (is_at (nat_cmp (id_of row))) counts) 0 ≤ row.room
row_reserved [] row has = omega arith
row_reserved (count ∷ rest) row has = by (is_at (nat_cmp (id_of row)) count.0) refl (row_reserved rest row (All-tail has_room count rest has))
  where
    has_room : ℕ × ℕ → Type 0
    has_room c = HasRoomAt c.0 c.1 row

    by : (here : Bool) → is_at (nat_cmp (id_of row)) count.0 ≡ here → unwrap_or (lookup (is_at (nat_cmp (id_of row))) rest) 0 ≤ row.room → unwrap_or (cond here (Some count.1) (lookup (is_at (nat_cmp (id_of row))) rest)) 0 ≤ row.room
    by true is later = All-head has_room count rest has (eqb-true (id_of row) count.0 (sym (at-is (id_of row) count.0) ∙ is))
    by false is later = later

-- each row has room for as many as are counted for its listener
pub counts_reserved : (counts : List (ℕ × ℕ)) (rows : List Row) → AreReserved counts rows → All (λ (row : Row). unwrap_or (lookup (is_at (nat_cmp (id_of row))) counts) 0 ≤ row.room) rows
counts_reserved counts rows has i d within = row_reserved counts (get_or rows i d) (λ k count counted. has k count counted i d within)

-- ---- room for the sights

own_sights : (listener : ListenerId) (sights : List Sight) → length (sights_by listener (sights_of sights)) ≡ count_by (λ (s : Sight). s.listener.0 == listener.0) sights
own_sights listener sights =
    let own : Sight → Bool = λ (s : Sight). s.listener.0 == listener.0 in
    ap length (filter-mapped sight_of (is_sight_of listener) own (λ s. refl) sights) ∙ length-map (filter own sights) sight_of ∙ length-filter own sights

-- where the sights are counted, there is room for them
pub room_for : (sights : List Sight) (counts : BTreeMap ℕ ℕ) (rows : List Row) → ((id : ℕ) → count_at (get nat_cmp counts) id ≡ count_by (λ (s : Sight). s.listener.0 == id) sights) →
    All (λ (row : Row). count_at (get nat_cmp counts) (id_of row) ≤ row.room) rows → HasRoomFor (sights_of sights) rows
room_for sights counts rows counted room i d within =
    let row = get_or rows i d in
    let own = own_sights row.listener.listener sights in
    let many = counted (id_of row) in
    let enough = room i d within in
    omega (arith, own, many, enough)
