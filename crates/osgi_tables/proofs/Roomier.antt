-- What is decided of tables holds of the same tables with more room for events.
use Rattle.std.proofs.Common.{◌≡◌, ◌+◌, ◌-◌, ◌<◌, length, ℕ, List, [], ◌∷◌, ◌++◌, ap, sym, subst, ◌∙◌, refl}
use Rattle.std.specs.BTreeMap.{insert_entry}
use Rattle.std.specs.Ordering.{nat_cmp}
use Rattle.std.specs.List.{list_any}
use Rattle.std.specs.Option.{option_or}
use Rattle.std.specs.Prelude.{◌^◌, ◌||◌, All, Bool, true, false, cond, Contains, filter, is_some, map, nat_le, None, not, Option, slice_get, Some}
use Rattle.std.proofs.lemmas.List.{length-map, map-append}
use Rattle.std.proofs.lemmas.List.Elements.{All-cons, All-head, All-nil, All-tail}
use Rattle.osgi_base.specs.declared.ids.BundleId.{BundleId}
use Rattle.osgi_base.specs.declared.ids.ListenerId.{ListenerId}
use Rattle.osgi_base.specs.declared.ids.Tag.{Tag}
use Rattle.osgi_listeners.specs.Rows.{add_refusal, AreRising, bare, change as change_at, ComesFirst, id_of, IsHanded, is_in_turn, is_listener, is_named, is_owned, Listening, new_row, Row, tag_of, without_first}
use Rattle.osgi_listeners.specs.Stands as hearing
use Rattle.osgi_listeners.specs.laws.Items.{map-twice}
use Rattle.osgi_model.specs.declared.filter.Filter.{Filter}
use Rattle.osgi_listeners.specs.declared.row.Waiting.{Waiting}
use Rattle.osgi_ops.specs.declared.event.Event.{Event}
use Rattle.osgi_ops.specs.declared.kind.Kind.{Kind}
use Rattle.osgi_ops.specs.declared.limits.TheConstants.{MAX_LISTENERS}
use Rattle.osgi_ops.specs.declared.refusal.Many.TheVariants.{Listeners}
use Rattle.osgi_ops.specs.declared.refusal.Refusal.TheVariants.{InvalidOperation, TooMany}
use Rattle.osgi_ops.specs.laws.Items.{contains-In, In-contains, In-map, In-mapped}
use Rattle.osgi_world.specs.Lists.{In}
use Rattle.osgi_ops.specs.Moments.{Seen}
use Rattle.osgi_ops.specs.declared.entry.Entry.{Entry}
use Rattle.osgi_tables.specs.Changes.{CanBeMade, Changes, with_listener, with_turn, without_listener, without_listeners}
use Rattle.osgi_tables.specs.Replied.{StandsStill}
use Rattle.osgi_tables.specs.declared.change.Change.{Change}
use Rattle.osgi_tables.specs.declared.change.Change.TheVariants as change
use Rattle.osgi_tables.specs.declared.tables.Tables.{Tables}

-- the same but for room
pub record HearsAlike (old new : Listening) : Type 0 where
  pub rows : map bare new.rows ≡ map bare old.rows
  pub turns : new.turns ≡ old.turns
  pub issued : new.issued ≡ old.issued

-- what stands for the one stands for the other
pub stands_alike : (sights : List Seen) (history : List Entry) (old new : Listening) → HearsAlike old new → hearing.StandsFor sights history old → hearing.StandsFor sights history new
stands_alike sights history old new alike stands = record {
  rows = alike.rows ∙ stands.rows;
  turns = λ listener. ap (λ turns. tag_of listener turns) alike.turns ∙ stands.turns listener;
  rising = subst AreRising (sym alike.turns) stands.rising;
  issued = alike.issued ∙ stands.issued;
}

abbrev pub with_listeners : Listening → Tables → Tables
with_listeners l tables = record tables { listeners = l }

pub tables_alike : (tables : Tables) (l : Listening) → HearsAlike tables.listeners l → StandsStill tables (with_listeners l tables)
tables_alike tables l alike now stood = record {
  depot = stood.depot;
  budget = stood.budget;
  services = stood.services;
  bundles = stood.bundles;
  brackets = stood.brackets;
  world = stood.world;
  issued = stood.issued;
  sound = stood.sound;
  listeners = stands_alike now.sights now.before tables.listeners l alike stood.listeners;
  small = stood.small;
  handings = stood.handings;
  jobs = stood.jobs;
}

-- ---- the listeners that are left by a clean up

filter_bare : (p : Row → Bool) → ((row : Row) → p (bare row) ≡ p row) → (rows : List Row) → map bare (filter p rows) ≡ filter p (map bare rows)
filter_bare p same [] = refl
filter_bare p same (row ∷ rows) = by (p row) refl (filter_bare p same rows)
  where
    by : (t : Bool) → p row ≡ t → map bare (filter p rows) ≡ filter p (map bare rows) → map bare (cond (p row) (row ∷ filter p rows) (filter p rows)) ≡ cond (p (bare row)) (bare row ∷ filter p (map bare rows)) (filter p (map bare rows))
    by true e more =
        ap (λ t. map bare (cond t (row ∷ filter p rows) (filter p rows))) e ∙ ap (λ l. bare row ∷ l) more ∙ sym (ap (λ t. cond t (bare row ∷ filter p (map bare rows)) (filter p (map bare rows))) (same row ∙ e))
    by false e more = ap (λ t. map bare (cond t (row ∷ filter p rows) (filter p rows))) e ∙ more ∙ sym (ap (λ t. cond t (bare row ∷ filter p (map bare rows)) (filter p (map bare rows))) (same row ∙ e))

without_alike : (cleaned : Bool) (b : BundleId) (old new : Listening) → HearsAlike old new → HearsAlike (without_listeners cleaned b old) (without_listeners cleaned b new)
without_alike true b old new alike = record {
  rows = filter_bare (λ row. not (is_owned b row)) (λ row. refl) new.rows ∙ ap (filter (λ row. not (is_owned b row))) alike.rows ∙ sym (filter_bare (λ row. not (is_owned b row)) (λ row. refl) old.rows);
  turns = alike.turns;
  issued = alike.issued;
}
without_alike false b old new alike = alike

-- ---- those where one is added, or an event is handed

with_alike : (owner : BundleId) (name : List ℕ) (kind : Kind) (given : Option Filter) (old new : Listening) → HearsAlike old new → HearsAlike (with_listener owner name kind given old) (with_listener owner name kind given new)
with_alike owner name kind given old new alike = record {
  rows = map-append bare new.rows (added new.issued ∷ []) ∙ (λ i. alike.rows i ++ added (alike.issued i) ∷ []) ∙ sym (map-append bare old.rows (added old.issued ∷ []));
  turns = alike.turns;
  issued = ap (λ n. n + 1) alike.issued;
}
  where
    added : ℕ → Row
    added issued = new_row (record { listener = record { 0 = issued + 1 }; owner = owner; name = name; kind = kind; filter = given })

-- the first event that waits is handed, whatever room there is
handed_bare : (listener : ListenerId) (rows : List Row) → map bare (change_at listener without_first rows) ≡ map (λ row. cond (is_listener listener row) (bare (without_first row)) row) (map bare rows)
handed_bare listener rows =
    map-twice (λ row. cond (is_listener listener row) (without_first row) row) bare (λ row. bare (cond (is_listener listener row) (without_first row) row)) (λ row. refl) rows
    ∙ sym (map-twice bare (λ row. cond (is_listener listener row) (bare (without_first row)) row) (λ row. bare (cond (is_listener listener row) (without_first row) row)) (λ row. by row (is_listener listener row)) rows)
  where
    by : (row : Row) (t : Bool) → cond t (bare (without_first (bare row))) (bare row) ≡ bare (cond t (without_first row) row)
    by row true = refl
    by row false = refl

turn_alike : (tag : Tag) (listener : ListenerId) (old new : Listening) → HearsAlike old new → HearsAlike (with_turn tag listener old) (with_turn tag listener new)
turn_alike tag listener old new alike = record {
  rows = handed_bare listener new.rows ∙ ap (map (λ row. cond (is_listener listener row) (bare (without_first row)) row)) alike.rows ∙ sym (handed_bare listener old.rows);
  turns = ap (λ turns. insert_entry nat_cmp turns listener.0 tag) alike.turns;
  issued = alike.issued;
}

less_alike : (owner : BundleId) (name : List ℕ) (old new : Listening) → HearsAlike old new → HearsAlike (without_listener owner name old) (without_listener owner name new)
less_alike owner name old new alike = record {
  rows = filter_bare (λ row. not (is_named owner name row)) (λ row. refl) new.rows ∙ ap (filter (λ row. not (is_named owner name row))) alike.rows ∙ sym (filter_bare (λ row. not (is_named owner name row)) (λ row. refl) old.rows);
  turns = alike.turns;
  issued = alike.issued;
}

-- ---- what can be made of the tables can be made of roomier ones

all_bare : (P : Row → Type 0) → ((row : Row) → P row → P (bare row)) → (rows : List Row) → All P rows → All P (map bare rows)
all_bare P to [] all = All-nil P
all_bare P to (row ∷ rest) all = All-cons P (bare row) (map bare rest) (to row (All-head P row rest all)) (all_bare P to rest (All-tail P row rest all))

bare_all : (P : Row → Type 0) → ((row : Row) → P (bare row) → P row) → (rows : List Row) → All P (map bare rows) → All P rows
bare_all P from [] all = All-nil P
bare_all P from (row ∷ rest) all = All-cons P row rest (from row (All-head P (bare row) (map bare rest) all)) (bare_all P from rest (All-tail P (bare row) (map bare rest) all))

any_bare : (p : Row → Bool) → ((row : Row) → p (bare row) ≡ p row) → (rows : List Row) → list_any p (map bare rows) ≡ list_any p rows
any_bare p same [] = refl
any_bare p same (row ∷ rest) = λ i. same row i || any_bare p same rest i

module _ (old new : Listening) (alike : HearsAlike old new) where
  -- what is said of a row, whatever its room, is said of those of the roomier
  pub all_alike : (P : Row → Type 0) → ((row : Row) → P row → P (bare row)) → ((row : Row) → P (bare row) → P row) → All P old.rows → All P new.rows
  all_alike P to from all = bare_all P from new.rows (subst (All P) (sym alike.rows) (all_bare P to old.rows all))

  row_alike : (row : Row) → Contains old.rows row → (r : Row) × Contains new.rows r × (bare r ≡ bare row)
  row_alike row there =
      let here = In-map bare new.rows (bare row) (subst (In (bare row)) (sym alike.rows) (In-mapped bare old.rows row (contains-In old.rows row there))) in
      (here.0, In-contains new.rows here.0 here.1, sym here.2)

  -- the same is to be handed next
  handed_alike : (listener : ListenerId) (event : Event) → IsHanded old listener event → IsHanded new listener event
  handed_alike listener event h =
      let r = row_alike h.row h.earliest.live in
      let same : bare r.0 ≡ bare h.row = r.2 in
      let ids : id_of r.0 ≡ id_of h.row = ap (λ (x : Row). x.listener.listener.0) same in
      record {
        row = r.0;
        next = h.next;
        to = ap (λ (x : Row). x.listener.listener) same ∙ h.to;
        with = h.with;
        earliest = record {
          live = r.1;
          free = (λ i. is_some (tag_of (ids i) (alike.turns i))) ∙ h.earliest.free;
          first = ap (λ (x : Row). slice_get x.waiting 0) same ∙ h.earliest.first;
          earliest = all_alike (λ other. is_in_turn new.turns other ≡ false → All (λ (w : Waiting). ComesFirst h.next.place (id_of r.0) w.place (id_of other)) other.waiting) (λ row p. p) (λ row p. p)
              (subst (λ (p : List (ℕ × Tag) × ℕ). All (λ other. is_in_turn p.0 other ≡ false → All (λ (w : Waiting). ComesFirst h.next.place p.1 w.place (id_of other)) other.waiting) old.rows)
              (sym (λ i. (alike.turns i, ids i))) h.earliest.earliest);
        };
      }

  -- and the same is refused
  refusal_alike : (owner : BundleId) (name : List ℕ) → add_refusal owner name new.rows ≡ add_refusal owner name old.rows
  refusal_alike owner name =
      let named : list_any (is_named owner name) new.rows ≡ list_any (is_named owner name) old.rows =
      sym (any_bare (is_named owner name) (λ row. refl) new.rows) ∙ ap (list_any (is_named owner name)) alike.rows ∙ any_bare (is_named owner name) (λ row. refl) old.rows in
      let count : length new.rows ≡ length old.rows = sym (length-map new.rows bare) ∙ ap length alike.rows ∙ length-map old.rows bare in
      λ i. option_or (cond (named i) (Some InvalidOperation) None) (cond (nat_le MAX_LISTENERS (count i)) (Some (TooMany Listeners)) None)

pub can_alike : (c : Change) (tables : Tables) (l : Listening) → HearsAlike tables.listeners l → CanBeMade c tables → CanBeMade c (with_listeners l tables)
can_alike (change.Listen owner name kind given) tables l alike can = record {
  free = refusal_alike tables.listeners l alike owner name ∙ can.free;
  ids = subst (λ n. n < 2 ^ 32 - 1) (sym alike.issued) can.ids;
}
can_alike (change.Hand tag listener) tables l alike can = record { event = can.event; next = handed_alike tables.listeners l alike listener can.event can.next; left = can.left }
can_alike (change.Unlisten owner name) tables l alike can = can
can_alike (change.Queue owner name) tables l alike can = can
can_alike (change.TakeJob tag) tables l alike can = can
can_alike change.Nothing tables l alike can = can
can_alike (change.Services c) tables l alike can = can
can_alike (change.Install made revision) tables l alike can = can
can_alike (change.Resolve added resolved) tables l alike can = can
can_alike (change.BeginStart tag b) tables l alike can = can
can_alike (change.EndStart tag b failed) tables l alike can = can
can_alike (change.BeginStop tag b) tables l alike can = can
can_alike (change.EndStop tag b) tables l alike can = can

-- ---- a change of roomier tables is one of the tables, but for room

pub record IsChangedSo (c : Change) (old new : Tables) : Type 0 where
  pub listeners : Listening
  pub alike : HearsAlike listeners new.listeners
  pub changes : Changes c old (with_listeners listeners new)

module _ (old new : Tables) (r : Listening) (alike : HearsAlike old.listeners r) where
  -- the listeners are those of the roomier tables
  kept : new.listeners ≡ r → HearsAlike old.listeners new.listeners
  kept same = subst (HearsAlike old.listeners) (sym same) alike

  put_back : {t : Tables} → new ≡ t → with_listeners old.listeners new ≡ with_listeners old.listeners t
  put_back is = ap (with_listeners old.listeners) is

  pub changed_so : (c : Change) → Changes c (with_listeners r old) new → IsChangedSo c old new
  changed_so change.Nothing is = record { listeners = old.listeners; alike = kept (ap (λ (t : Tables). t.listeners) is); changes = put_back is }
  changed_so (change.Queue owner name) is = record { listeners = old.listeners; alike = kept (ap (λ (t : Tables). t.listeners) is); changes = put_back is }
  changed_so (change.TakeJob tag) is = record {
    listeners = old.listeners;
    alike = kept (ap (λ (t : Tables). t.listeners) is.is);
    changes = record { brackets = is.brackets; opened = is.opened; is = put_back is.is };
  }
  changed_so (change.Services c) is = record {
    listeners = old.listeners;
    alike = kept (ap (λ (t : Tables). t.listeners) is.is);
    changes = record { registry = is.registry; changes = is.changes; is = put_back is.is };
  }
  changed_so (change.Install made revision) is = record {
    listeners = old.listeners;
    alike = kept (ap (λ (t : Tables). t.listeners) is.is);
    changes = record { bundles = is.bundles; wirings = is.wirings; stands = is.stands; known = is.known; is = put_back is.is };
  }
  changed_so (change.Resolve added resolved) is = record {
    listeners = old.listeners;
    alike = kept (ap (λ (t : Tables). t.listeners) is.is);
    changes = record { bundles = is.bundles; wirings = is.wirings; world = is.world; holds = is.holds; issued = is.issued; rows = is.rows; given = is.given; is = put_back is.is };
  }
  changed_so (change.Listen owner name kind given) is = record {
    listeners = with_listener owner name kind given old.listeners;
    alike = subst (HearsAlike (with_listener owner name kind given old.listeners)) (sym (ap (λ (t : Tables). t.listeners) is)) (with_alike owner name kind given old.listeners r alike);
    changes = ap (with_listeners (with_listener owner name kind given old.listeners)) is;
  }
  changed_so (change.Unlisten owner name) is = record {
    listeners = without_listener owner name old.listeners;
    alike = subst (HearsAlike (without_listener owner name old.listeners)) (sym (ap (λ (t : Tables). t.listeners) is)) (less_alike owner name old.listeners r alike);
    changes = ap (with_listeners (without_listener owner name old.listeners)) is;
  }
  changed_so (change.Hand tag listener) is = record {
    listeners = with_turn tag listener old.listeners;
    alike = subst (HearsAlike (with_turn tag listener old.listeners)) (sym (ap (λ (t : Tables). t.listeners) is.is)) (turn_alike tag listener old.listeners r alike);
    changes = record { brackets = is.brackets; opened = is.opened; is = ap (with_listeners (with_turn tag listener old.listeners)) is.is };
  }
  changed_so (change.BeginStart tag b) is = record {
    listeners = old.listeners;
    alike = kept (ap (λ (t : Tables). t.listeners) is.is);
    changes = record { bundles = is.bundles; brackets = is.brackets; put = is.put; opened = is.opened; is = put_back is.is };
  }
  changed_so (change.BeginStop tag b) is = record {
    listeners = old.listeners;
    alike = kept (ap (λ (t : Tables). t.listeners) is.is);
    changes = record { bundles = is.bundles; brackets = is.brackets; put = is.put; opened = is.opened; is = put_back is.is };
  }
  changed_so (change.EndStart tag b failed) is = record {
    listeners = without_listeners failed b old.listeners;
    alike = subst (HearsAlike (without_listeners failed b old.listeners)) (sym (ap (λ (t : Tables). t.listeners) is.is)) (without_alike failed b old.listeners r alike);
    changes = record {
      registry = is.registry;
      bundles = is.bundles;
      brackets = is.brackets;
      cleans = is.cleans;
      put = is.put;
      closed = is.closed;
      is = ap (with_listeners (without_listeners failed b old.listeners)) is.is;
    };
  }
  changed_so (change.EndStop tag b) is = record {
    listeners = without_listeners true b old.listeners;
    alike = subst (HearsAlike (without_listeners true b old.listeners)) (sym (ap (λ (t : Tables). t.listeners) is.is)) (without_alike true b old.listeners r alike);
    changes = record {
      registry = is.registry;
      bundles = is.bundles;
      brackets = is.brackets;
      cleans = is.cleans;
      put = is.put;
      closed = is.closed;
      is = ap (with_listeners (without_listeners true b old.listeners)) is.is;
    };
  }
