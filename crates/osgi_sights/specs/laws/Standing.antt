-- Where the rows are those of the history's live listeners, their sights are those that the history tells.
use Rattle.std.proofs.Common.{◌≡◌, ◌+◌, ℕ, List, [], ◌∷◌, ap, arith, refl, subst, sym, ◌∙◌}
use Rattle.std.specs.Prelude.{◌==◌, ◌↔◌, Bool, true, false, cond, Option, None, Some, find, map}
use Rattle.std.specs.List.{list_any}
use Rattle.std.specs.Option.{option_map, option_map_or}
use Rattle.std.proofs.lemmas.Bool.{or_left, or_right}
use Rattle.std.proofs.lemmas.List.Elements.{All-nil, All-weaker}
use Rattle.osgi_base.specs.declared.ids.BundleId.{BundleId}
use Rattle.osgi_base.specs.declared.ids.ListenerId.{ListenerId}
use Rattle.osgi_listeners.specs.Rows.{bare, is_listener, listener_of, Listening, Row, row_at}
use Rattle.osgi_listeners.specs.Stands.{listener_row, row_of, StandsFor}
use Rattle.osgi_listeners.specs.declared.row.ListenerRow.{ListenerRow}
use Rattle.osgi_ops.specs.Cleaning.{cleaned_by}
use Rattle.osgi_ops.specs.Listening as listening
use Rattle.osgi_ops.specs.Listening.{Added, AreSights, clears, happenings, here, IsAt, IsSight, listener_at, listeners, removes, SeesAs, takes_off, there}
use Rattle.osgi_ops.specs.Moments.{Seen, Sight}
use Rattle.osgi_ops.specs.declared.entry.Entry.{Entry}
use Rattle.osgi_ops.specs.declared.event.Event.{Event}
use Rattle.osgi_ops.specs.declared.op.Op.{Op}
use Rattle.osgi_ops.specs.declared.op.Op.TheVariants as op
use Rattle.osgi_ops.specs.declared.reply.Reply.{Reply}
use Rattle.osgi_sights.specs.Shown.{AreShown, bundle, framework, IsShown, is_of_service, modified, service, Shown}
use Rattle.osgi_sights.specs.Sights.{added_of, AreSightsOf, goes, IsSightOf, Sees}
use Rattle.osgi_world.specs.declared.world.World.{World}

-- ---- rows and listeners

-- row by row the live listeners of the history
abbrev pub AreRowsOf : List Row → List Entry → Type 0
AreRowsOf rows history = map listener_of rows ≡ map listener_row (listeners history)

bare_listeners : (rows : List Row) → map listener_of (map bare rows) ≡ map listener_of rows
bare_listeners [] = refl
bare_listeners (row ∷ rest) = ap (λ l. listener_of row ∷ l) (bare_listeners rest)

listeners_of_rows : (sights : List Seen) (history : List Entry) (added : List Added) → map listener_of (map (row_of sights history) added) ≡ map listener_row added
listeners_of_rows sights history [] = refl
listeners_of_rows sights history (a ∷ rest) = ap (λ l. listener_row a ∷ l) (listeners_of_rows sights history rest)

-- so they are where the listeners stand for the history
pub rows_of_standing : (sights : List Seen) (history : List Entry) (l : Listening) → StandsFor sights history l → AreRowsOf l.rows history
rows_of_standing sights history l stands = sym (bare_listeners l.rows) ∙ ap (map listener_of) stands.rows ∙ listeners_of_rows sights history (listeners history)

-- a row is found where its listener is
found_alike : (rows : List Row) (added : List Added) → map listener_of rows ≡ map listener_row added → (listener : ListenerId) →
    option_map listener_of (row_at listener rows) ≡ option_map listener_row (find (listening.is_listener listener) added)
found_alike [] [] same listener = refl
found_alike [] (a ∷ added) same listener = absurd (cc same)
found_alike (row ∷ rows) [] same listener = absurd (cc same)
found_alike (row ∷ rows) (a ∷ added) same listener =
    go (is_listener listener row) (listening.is_listener listener a) (ap (λ (l : ListenerRow). l.listener.0 == listener.0) first) (found_alike rows added rest listener)
  where
    first : row.listener ≡ listener_row a
    first = cc same

    rest : map listener_of rows ≡ map listener_row added
    rest = cc same

    go : (b c : Bool) → b ≡ c → option_map listener_of (row_at listener rows) ≡ option_map listener_row (find (listening.is_listener listener) added) →
        option_map listener_of (cond b (Some row) (row_at listener rows)) ≡ option_map listener_row (cond c (Some a) (find (listening.is_listener listener) added))
    go true true is others = ap Some first
    go false false is others = others
    go true false is others = absurd (cc is)
    go false true is others = absurd (cc is)

row_is : (o : Option Row) (x : ListenerRow) → option_map listener_of o ≡ Some x → (row : Row) × (o ≡ Some row) × (row.listener ≡ x)
row_is None x is = absurd (cc is)
row_is (Some row) x is = (row, refl, cc is)

added_is : (o : Option Added) (x : ListenerRow) → option_map listener_row o ≡ Some x → o ≡ Some (added_of x)
added_is None x is = absurd (cc is)
added_is (Some a) x is = let same : listener_row a ≡ x = cc is in ap (λ (l : ListenerRow). Some (added_of l)) same

-- ---- happenings

-- what is shown of a happening is seen by the same listeners as the same event; of a service only if the worlds are one
sees_alike : (world after : World) (a : Added) (shown : Shown) (h : listening.Happening) (seen : Event) → IsShown shown h → (is_of_service shown ≡ true → world ≡ after) → Sees world a shown seen ↔ SeesAs after a h seen
sees_alike world after a (service code s) (listening.service code' s') seen is same = rw (is.0, is.1, same refl) (λ x. x, λ x. x)
sees_alike world after a (modified old new) (listening.modified old' new') seen is same = rw (is.0, is.1, same refl) (λ x. x, λ x. x)
sees_alike world after a (bundle code b name version) (listening.bundle code' b' (Some known)) seen is same = rw (is.0, is.1, is.2.name_is, is.2.version_is) (λ x. x, λ x. x)
sees_alike world after a (bundle code b name version) (listening.bundle code' b' None) seen is same = absurd is
sees_alike world after a (framework code) (listening.framework code') seen is same = rw is (λ x. x, λ x. x)
sees_alike world after a (service code s) (listening.modified old' new') seen is same = absurd is
sees_alike world after a (service code s) (listening.bundle code' b' known) seen is same = absurd is
sees_alike world after a (service code s) (listening.framework code') seen is same = absurd is
sees_alike world after a (modified old new) (listening.service code' s') seen is same = absurd is
sees_alike world after a (modified old new) (listening.bundle code' b' known) seen is same = absurd is
sees_alike world after a (modified old new) (listening.framework code') seen is same = absurd is
sees_alike world after a (bundle code b name version) (listening.service code' s') seen is same = absurd is
sees_alike world after a (bundle code b name version) (listening.modified old' new') seen is same = absurd is
sees_alike world after a (bundle code b name version) (listening.framework code') seen is same = absurd is
sees_alike world after a (framework code) (listening.service code' s') seen is same = absurd is
sees_alike world after a (framework code) (listening.modified old' new') seen is same = absurd is
sees_alike world after a (framework code) (listening.bundle code' b' known) seen is same = absurd is

-- the one of a list that is shown is at the place of what it shows
pub record AreAlike (happened : List Shown) (happenings : List listening.Happening) (place : ℕ) (shown : Shown) (h : listening.Happening) : Type 0 where
  pub at : IsAt place happened shown
  pub of : IsAt place happenings h
  pub is : IsShown shown h
  pub service : is_of_service shown ≡ true → list_any is_of_service happened ≡ true

one_more : (first : Shown) (happened : List Shown) (other : listening.Happening) (happenings : List listening.Happening) (place : ℕ) (shown : Shown) (h : listening.Happening) → AreAlike happened happenings place shown h →
    AreAlike (first ∷ happened) (other ∷ happenings) (1 + place) shown h
one_more first happened other happenings place shown h alike = record {
  at = there alike.at;
  of = there alike.of;
  is = alike.is;
  service = λ t. or_right (is_of_service first) (list_any is_of_service happened) (alike.service t);
}

happening_at : (happened : List Shown) (all : List listening.Happening) → AreShown happened all → (place : ℕ) (shown : Shown) → IsAt place happened shown → (h : listening.Happening) × AreAlike happened all place shown h
happening_at [] all are place shown at = elim at [ ]
happening_at (first ∷ happened) [] are place shown at = absurd are
happening_at (first ∷ happened) (h ∷ all) are place shown here = (h, record { at = here; of = here; is = are.0; service = λ t. or_left (is_of_service first) (list_any is_of_service happened) t })
happening_at (first ∷ happened) (h ∷ all) are place shown (there {place = further} at) = let found = happening_at happened all are.1 further shown at in (found.0, one_more first happened h all further shown found.0 found.1)

shown_at : (happened : List Shown) (all : List listening.Happening) → AreShown happened all → (place : ℕ) (h : listening.Happening) → IsAt place all h → (shown : Shown) × AreAlike happened all place shown h
shown_at happened [] are place h at = elim at [ ]
shown_at [] (first ∷ all) are place h at = absurd are
shown_at (shown ∷ happened) (first ∷ all) are place h here = (shown, record { at = here; of = here; is = are.0; service = λ t. or_left (is_of_service shown) (list_any is_of_service happened) t })
shown_at (shown ∷ happened) (first ∷ all) are place h (there {place = further} at) = let found = shown_at happened all are.1 further h at in (found.0, one_more shown happened first all further found.0 h found.1)

-- ---- who goes

takes_off-clears : (owner : BundleId) (name : List ℕ) (o : Option BundleId) → option_map_or (takes_off owner name) (option_map clears o) false ≡ goes o owner
takes_off-clears owner name None = refl
takes_off-clears owner name (Some b) = refl

-- where something happens no listener goes but those of the bundle that is cleaned
pub removes_is_goes : (past : List Entry) (before after : World) (e : Entry) (op : Op) (reply : Reply) (place : ℕ) (h : listening.Happening) → IsAt place (happenings past before after e op reply) h →
    (owner : BundleId) (name : List ℕ) → removes owner name op reply ≡ goes (cleaned_by op reply) owner
removes_is_goes past before after e (op.AddListener by named kind given) reply place h at owner name = elim at [ ]
removes_is_goes past before after e (op.RemoveListener by named) reply place h at owner name = elim at [ ]
removes_is_goes past before after e op reply place h at owner name = takes_off-clears owner name (cleaned_by op reply)

-- ---- sights

module _ (past : List Entry) (before after : World) (e : Entry) (l : Listening) (removed : Option BundleId) (world : World) (happened : List Shown)
    (rows : AreRowsOf l.rows past) (are : AreShown happened (happenings past before after e e.op e.reply)) (gone : removed ≡ cleaned_by e.op e.reply) (same : list_any is_of_service happened ≡ true → world ≡ after) where
  pub sight_of_history : (s : Sight) → IsSightOf l removed world happened s → IsSight past before after e s
  sight_of_history s it = record {
    listener = added_of it.seen.row.listener;
    is = added_is (listener_at s.listener past) it.seen.row.listener (sym (found_alike l.rows (listeners past) rows s.listener) ∙ ap (option_map listener_of) it.seen.is);
    stays = removes_is_goes past before after e e.op e.reply s.place found.0 found.1.of it.seen.row.listener.owner it.seen.row.listener.name ∙ ap (λ (o : Option BundleId). goes o it.seen.row.listener.owner) (sym gone) ∙ it.seen.stays;
    happening = found.0;
    at = found.1.of;
    sees = (sees_alike world after (added_of it.seen.row.listener) it.shown found.0 s.event found.1.is (λ t. same (found.1.service t))).0 it.seen.sees;
  }
    where
      found : (h : listening.Happening) × AreAlike happened (happenings past before after e e.op e.reply) s.place it.shown h
      found = happening_at happened (happenings past before after e e.op e.reply) are s.place it.shown it.at

  pub sight_of_rows : (s : Sight) → IsSight past before after e s → IsSightOf l removed world happened s
  sight_of_rows s it = record {
    shown = found.0;
    at = found.1.at;
    seen = record {
      row = row.0;
      is = row.1;
      stays = ap (goes removed) (ap (λ (r : ListenerRow). r.owner) row.2) ∙ ap (λ (o : Option BundleId). goes o it.listener.owner) gone
          ∙ sym (removes_is_goes past before after e e.op e.reply s.place it.happening it.at it.listener.owner it.listener.name) ∙ it.stays;
      sees = subst (λ (r : ListenerRow). Sees world (added_of r) found.0 s.event) (sym row.2) ((sees_alike world after it.listener found.0 it.happening s.event found.1.is (λ t. same (found.1.service t))).1 it.sees);
    };
  }
    where
      found : (shown : Shown) × AreAlike happened (happenings past before after e e.op e.reply) s.place shown it.happening
      found = shown_at happened (happenings past before after e e.op e.reply) are s.place it.happening it.at

      row : (row : Row) × (row_at s.listener l.rows ≡ Some row) × (row.listener ≡ listener_row it.listener)
      row = row_is (row_at s.listener l.rows) (listener_row it.listener) (found_alike l.rows (listeners past) rows s.listener ∙ ap (option_map listener_row) it.is)

  -- the sights of the rows are those of the history
  pub sights_of_history : (sights : List Sight) → AreSightsOf l removed world happened sights → AreSights past before after e sights
  sights_of_history sights seen = record {
    only = All-weaker (IsSightOf l removed world happened) (IsSight past before after e) sight_of_history sights seen.only;
    every = λ s it. seen.every s (sight_of_rows s it);
    in_order = seen.in_order;
  }

-- where nothing happens nothing is seen
pub nothing_seen : (past : List Entry) (before after : World) (e : Entry) → happenings past before after e e.op e.reply ≡ [] → AreSights past before after e []
nothing_seen past before after e nothing = record {
  only = All-nil (IsSight past before after e);
  every = λ s it. absurd (none (subst (λ hs. IsAt s.place hs it.happening) nothing it.at));
  in_order = λ i j d below within. absurd (omega (arith, within));
}
  where
    none : {place : ℕ} {h : listening.Happening} → IsAt place [] h → ⊥
    none at = elim at [ ]
