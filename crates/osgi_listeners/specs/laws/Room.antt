-- What follows where only room was made.
--
--   reserve, reserve_for   same_but_room   all but room is the same
--                          room_kept       where there was room there is still
use Rattle.std.proofs.Common.{◌≡◌, ◌<◌, ℕ, List, length, map, sym, subst, ◌∙◌, arith}
use Rattle.std.proofs.lemmas.List.{get_or-map, length-map, same_lists}
use Rattle.osgi_listeners.specs.Rows.{AreRoomierRows, bare, HasRoom, Row}

pub same_but_room : (old new : List Row) → AreRoomierRows old new → map bare new ≡ map bare old
same_but_room old new roomier = same_lists _ _ (length-map new bare ∙ roomier.count ∙ sym (length-map old bare)) (λ i d within.
    let there : i < length new = subst (λ n. i < n) (length-map new bare) within in
    let here : i < length old = subst (λ n. i < n) roomier.count there in
    get_or-map bare new i d d there ∙ (roomier.each i d here).same ∙ sym (get_or-map bare old i d d here))

pub room_kept : (old new : List Row) → AreRoomierRows old new → (events : ℕ) → HasRoom events old → HasRoom events new
room_kept old new roomier events has i d within =
    let here : i < length old = subst (λ n. i < n) roomier.count within in
    let was = has i d here in
    let more = (roomier.each i d here).room in
    omega (arith, was, more)
