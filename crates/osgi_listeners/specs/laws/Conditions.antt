-- What the calls test is what the rows of the operations ask of the history, and conditions that stay.
--
--   add, remove  has-same-names   the test for a listener of an owner and a name
--   add, count   has-same-count   how many are live
--   end_hand     is-end-accepted  the end of the caller's innermost bracket is not refused
--   deliver_all  room-left        room that was made stays where listeners are taken out; room-none: nothing needs room
use Rattle.std.proofs.Common.{◌≡◌, List, [], ◌∷◌, length, map, Bool, false, refl, sym, ap, ◌∙◌, arith}
use Rattle.std.specs.Prelude.{◌==◌, ◌&&◌, ◌||◌, cond, Option, None, Some, true, ℕ, ◌≤◌, filter}
use Rattle.std.specs.List.{list_any}
use Rattle.std.specs.Option.{option_map_or}
use Rattle.std.proofs.lemmas.Bool.{and_from, eq-eqb}
use Rattle.std.proofs.lemmas.List.{length-map}
use Rattle.osgi_base.specs.declared.ids.Tag.{Tag}
use Rattle.osgi_listeners.specs.Rows.{bare, is_named, Row, end_refusal, Listening}
use Rattle.osgi_ops.specs.Listening.{listeners}
use Rattle.osgi_ops.specs.declared.refusal.Refusal.{Refusal}
use Rattle.osgi_ops.specs.declared.refusal.Refusal.TheVariants.{InvalidOperation}
use Rattle.osgi_ops.specs.rows.Events.{is_name}
use Rattle.osgi_listeners.specs.Stands.{row_of, AreTurnsApart, StandsFor}
use Rattle.osgi_listeners.specs.laws.Standing.{has-own-turn}
use Rattle.osgi_base.specs.declared.ids.BundleId.{BundleId}
use Rattle.osgi_base.specs.declared.ids.ListenerId.{ListenerId}
use Rattle.osgi_ops.specs.Brackets.{brackets, closes}
use Rattle.osgi_ops.specs.Moments.{Seen, Sight}
use Rattle.osgi_ops.specs.declared.entry.Entry.{Entry}
use Rattle.osgi_listeners.specs.Sights.{HasRoomFor, sights_by}
use Rattle.std.proofs.lemmas.List.Elements.{All-filter}
use Rattle.osgi_ops.specs.declared.op.Op.TheVariants as op

any-mapped : {A B : Type 0} (f : A → B) (p : B → Bool) (q : A → Bool) → ((a : A) → p (f a) ≡ q a) → (xs : List A) → list_any p (map f xs) ≡ list_any q xs
any-mapped f p q same [] = refl
any-mapped f p q same (x ∷ xs) = λ i. same x i || any-mapped f p q same xs i

pub has-same-names : (sights : List Seen) (history : List Entry) (l : Listening) (owner : BundleId) (name : List ℕ) → StandsFor sights history l → list_any (is_named owner name) l.rows ≡ list_any (is_name owner name) (listeners history)
has-same-names sights history l owner name stands =
    sym (any-mapped bare (is_named owner name) (is_named owner name) (λ row. refl) l.rows)
    ∙ ap (list_any (is_named owner name)) stands.rows
    ∙ any-mapped (row_of sights history) (is_named owner name) (is_name owner name) (λ a. refl) (listeners history)

pub has-same-count : (sights : List Seen) (history : List Entry) (l : Listening) → StandsFor sights history l → length l.rows ≡ length (listeners history)
has-same-count sights history l stands =
    sym (length-map l.rows bare) ∙ ap (λ (rows : List Row). length rows) stands.rows ∙ length-map (listeners history) (row_of sights history)

pub is-end-accepted :
    (sights : List Seen) (history : List Entry) (l : Listening) (tag : Tag) (listener : ListenerId) → AreTurnsApart (brackets history) → closes tag (op.EndHand listener) (brackets history) ≡ true → StandsFor sights history l →
    end_refusal tag listener l.turns ≡ None
is-end-accepted sights history l tag listener apart own stands =
    ap refused (has-own-turn sights history l tag listener apart own stands)
    ∙ ap (λ k. cond k None (Some InvalidOperation)) (and_from (tag.caller == tag.caller) (tag.command == tag.command) (eq-eqb tag.caller tag.caller refl) (eq-eqb tag.command tag.command refl))
  where
    refused : Option Tag → Option Refusal
    refused o = cond (option_map_or (λ (opened : Tag). (opened.caller == tag.caller) && (opened.command == tag.command)) o false) None (Some InvalidOperation)

pub room-left : (sights : List Sight) (keeps : Row → Bool) (rows : List Row) → HasRoomFor sights rows → HasRoomFor sights (filter keeps rows)
room-left sights keeps rows room = All-filter keeps (λ (row : Row). length (sights_by row.listener.listener sights) ≤ row.room) rows room

-- nothing seen needs no room
pub room-none : (rows : List Row) → HasRoomFor [] rows
room-none rows = λ k d within. omega arith
