-- A change that was decided, made of tables with room, with those told who see what happens: what was asked for is replied to so.
use Rattle.std.proofs.Common.{◌≡◌, ◌⊎◌, ◌<◌, ◌≤◌, inl, inr, ℕ, List, [], ◌∷◌, ◌++◌, append-nil, arith, length, map, ap, sym, subst, ◌∙◌, refl}
use Rattle.std.specs.Prelude.{◌*◌, All, Bool, true, false, cond, drop, not, None, Option, Some}
use Rattle.std.specs.List.{list_any}
use Rattle.osgi_base.specs.declared.ids.BundleId.{BundleId}
use Rattle.osgi_base.specs.declared.ids.ListenerId.{ListenerId}
use Rattle.std.proofs.lemmas.List.Elements.{All-cons, All-filter, All-head, All-nil, All-push, All-tail}
use Rattle.osgi_listeners.specs.Rows.{AreRoomier, bare, change as change_at, is_listener, is_named, is_owned, Listening, new_row, Row, without_first}
use Rattle.osgi_listeners.specs.declared.row.ListenerRow.{ListenerRow}
use Rattle.osgi_listeners.specs.declared.row.Waiting.{Waiting}
use Rattle.osgi_listeners.specs.Sights.{HasRoomFor, IsOfEarlier, sights_by, sights_of, told_all}
use Rattle.osgi_listeners.specs.declared.sight.Sight as declared
use Rattle.osgi_listeners.specs.Stands as hearing
use Rattle.osgi_listeners.specs.Stands.{AreSmall}
use Rattle.osgi_legal.proofs.Sights.{sights-once}
use Rattle.osgi_listeners.specs.laws.Premises.{handed-first-same, small-more}
use Rattle.osgi_listeners.specs.laws.Standing.{stands-with-all-seen}
use Rattle.osgi_legal.specs.Legal.{entry_of, IsAskedAt, IsTold}
use Rattle.osgi_ops.specs.Listening.{AreSights, handed_by, happenings, IsAt}
use Rattle.osgi_ops.specs.Moments.{later, Moment, Seen, Sight}
use Rattle.osgi_ops.specs.declared.asked.Asked.{Asked}
use Rattle.osgi_ops.specs.declared.reply.Reply.{Reply}
use Rattle.osgi_ops.specs.declared.entry.Entry.{Entry}
use Rattle.osgi_ops.specs.declared.op.Op.{Op}
use Rattle.osgi_ops.specs.declared.op.Op.TheVariants as op
use Rattle.osgi_bundle.specs.Rows.{row_at}
use Rattle.osgi_bundle.specs.declared.kept.BundleKept.{BundleKept}
use Rattle.osgi_world.specs.declared.world.World.{World}
use Rattle.osgi_sights.specs.Shown.{is_of_service, Shown}
use Rattle.osgi_sights.specs.Shown as shown
use Rattle.osgi_sights.specs.Sights.{AreSightsOf, IsSightOf}
use Rattle.osgi_sights.specs.laws.Standing.{nothing_seen, rows_of_standing, sights_of_history}
use Rattle.osgi_listeners.specs.laws.Room.{same_but_room}
use Rattle.osgi_tables.proofs.Premises.{handed-first}
use Rattle.osgi_tables.proofs.Roomier.{all_alike, HearsAlike, IsChangedSo, tables_alike, with_listeners}
use Rattle.osgi_tables.proofs.Shown.{each}
use Rattle.osgi_tables.specs.Changes.{bundles_shown, Changes, cleaned_in, happened, IsReplyAndChange}
use Rattle.osgi_tables.specs.Replied.{EachTime, EachTimeAt, IsAnswered, IsReplied, StandsFor}
use Rattle.osgi_tables.specs.declared.change.Change.{Change}
use Rattle.osgi_tables.specs.declared.change.Change.TheVariants as change
use Rattle.osgi_tables.specs.declared.tables.Tables.{Tables}

-- the listeners once they were told
abbrev pub tell : ℕ → List Sight → Listening → Listening
tell entries sights l = record { rows = map (told_all entries sights) l.rows; turns = l.turns; issued = l.issued }

-- ---- what happens to services leaves the world

bundles_only : (code : ℕ) (ids : List BundleId) (rows : List BundleKept) → list_any is_of_service (bundles_shown code ids rows) ≡ false
bundles_only code [] rows = refl
bundles_only code (b ∷ rest) rows = by (row_at b rows) refl (bundles_only code rest rows)
  where
    by : (o : Option BundleKept) → row_at b rows ≡ o → list_any is_of_service (bundles_shown code rest rows) ≡ false → list_any is_of_service (bundles_shown code (b ∷ rest) rows) ≡ false
    by None is more = ap (λ (o : Option BundleKept). list_any is_of_service (each code rows rest o b)) is ∙ more
    by (Some row) is more = ap (λ (o : Option BundleKept). list_any is_of_service (each code rows rest o b)) is ∙ more

no_service : {A : Type 0} (all : List Shown) → list_any is_of_service all ≡ false → list_any is_of_service all ≡ true → A
no_service all none some = let bad : true ≡ false = sym some ∙ none in absurd (cc bad)

world_left : (c : Change) (old new : Tables) → Changes c old new → list_any is_of_service (happened c old.registry old.bundles) ≡ true → old.wirings.world ≡ new.wirings.world
world_left change.Nothing old new is some = ap (λ (t : Tables). t.wirings.world) (sym is)
world_left (change.Services c) old new is some = ap (λ (t : Tables). t.wirings.world) (sym is.is)
world_left (change.Install made revision) old new is some = no_service (shown.bundle 1 made.bundle made.name made.version ∷ []) refl some
world_left (change.Resolve added resolved) old new is some = no_service (bundles_shown 32 resolved old.bundles.rows) (bundles_only 32 resolved old.bundles.rows) some
world_left (change.Listen owner name kind given) old new is some = ap (λ (t : Tables). t.wirings.world) (sym is)
world_left (change.Unlisten owner name) old new is some = ap (λ (t : Tables). t.wirings.world) (sym is)
world_left (change.Hand tag listener) old new is some = ap (λ (t : Tables). t.wirings.world) (sym is.is)
world_left (change.Queue owner name) old new is some = ap (λ (t : Tables). t.wirings.world) (sym is)
world_left (change.TakeJob tag) old new is some = ap (λ (t : Tables). t.wirings.world) (sym is.is)
world_left (change.BeginStart tag b) old new is some = ap (λ (t : Tables). t.wirings.world) (sym is.is)
world_left (change.EndStart tag b failed) old new is some = ap (λ (t : Tables). t.wirings.world) (sym is.is)
world_left (change.BeginStop tag b) old new is some = ap (λ (t : Tables). t.wirings.world) (sym is.is)
world_left (change.EndStop tag b) old new is some = ap (λ (t : Tables). t.wirings.world) (sym is.is)

-- ---- an entry hands nothing, or nothing happens at it

hands_or_happens : (o : Op) (reply : Reply) → ((l : ListenerId) → handed_by l o reply ≡ []) ⊎ ((past : List Entry) (before after : World) (e : Entry) → happenings past before after e o reply ≡ [])
hands_or_happens op.Hand reply = inr (λ past before after e. refl)
hands_or_happens o reply = inl (λ l. refl)

-- ---- those who see what happens are told

-- the tables that stand for the history with the entry, where nobody saw it, stand for it with what is seen, once that is told
told_stands : (now : Moment) (o : Op) (reply : Reply) (world : World) (sights : List Sight) (tables : Tables) → IsTold now → ((l : ListenerId) → handed_by l o reply ≡ []) → All (λ (s : Sight). s.place < 4294967296) sights →
    StandsFor (later now o reply world []) tables → StandsFor (later now o reply world sights) (with_listeners (tell (length now.before) sights tables.listeners) tables)
told_stands now o reply world sights tables told none small stood = record {
  depot = stood.depot;
  budget = stood.budget;
  services = stood.services;
  bundles = stood.bundles;
  brackets = stood.brackets;
  world = stood.world;
  issued = stood.issued;
  sound = stood.sound;
  listeners =
      stands-with-all-seen now.sights (now.before ++ entry_of now o reply ∷ []) tables.listeners (length now.before) sights (handed-first-same now.sights now.before (entry_of now o reply) none (handed-first now told))
      (subst (λ (all : List Seen). hearing.StandsFor all (now.before ++ entry_of now o reply ∷ []) tables.listeners) (append-nil now.sights) stood.listeners);
  small = small-more now.sights (length now.before) sights (subst AreSmall (append-nil now.sights) stood.small) small;
  handings = stood.handings;
  jobs = stood.jobs;
}

-- where nothing is told, no listener has more than it had
told_none : (entries : ℕ) (l : Listening) → HearsAlike l (tell entries [] l)
told_none entries l = record { rows = rows l.rows; turns = refl; issued = refl }
  where
    rows : (list : List Row) → map bare (map (told_all entries []) list) ≡ map bare list
    rows [] = refl
    rows (row ∷ rest) = λ i. record { listener = row.listener; waiting = append-nil row.waiting i; room = 0 } ∷ rows rest i

module _ (entries : ℕ) (asked : Asked) (old mid : Tables) (reply : Reply) (c : Change) (sights : List Sight) (decided : IsReplyAndChange asked old reply c) (so : IsChangedSo c old mid)
    (seen : AreSightsOf old.listeners (cleaned_in c) old.wirings.world (happened c old.registry old.bundles) sights) (small : All (λ (s : Sight). s.place < 4294967296) sights) where
  answered : IsAnswered asked old (with_listeners so.listeners mid) reply (happened c old.registry old.bundles)
  answered = decided.answered (with_listeners so.listeners mid) so.changes

  told_seen : EachTimeAt entries asked old (λ now. AreSights now.before now.world mid.wirings.world (entry_of now asked.op reply) sights)
  told_seen now at number stood =
      sights_of_history now.before now.world mid.wirings.world (entry_of now asked.op reply) old.listeners (cleaned_in c) old.wirings.world (happened c old.registry old.bundles)
      (rows_of_standing now.sights now.before old.listeners stood.listeners) (answered.happens now at stood) (sym decided.cleans) (world_left c old (with_listeners so.listeners mid) so.changes) sights seen

  -- the tables before anybody is told, whatever room they have
  untold : EachTime asked old (λ now. StandsFor (later now asked.op reply mid.wirings.world []) mid)
  untold now at stood = tables_alike (with_listeners so.listeners mid) mid.listeners so.alike (later now asked.op reply mid.wirings.world []) (answered.stands now at stood)

  told_then : (now : Moment) → IsAskedAt asked now → length now.before ≡ entries → StandsFor now old → ((l : ListenerId) → handed_by l asked.op reply ≡ []) →
      StandsFor (later now asked.op reply mid.wirings.world sights) (with_listeners (tell entries sights mid.listeners) mid)
  told_then now at number stood none =
      subst (λ n. StandsFor (later now asked.op reply mid.wirings.world sights) (with_listeners (tell n sights mid.listeners) mid)) number
      (told_stands now asked.op reply mid.wirings.world sights mid at.told none small (untold now at stood))

  -- where nothing happens nobody is told
  silent_then : (now : Moment) → IsAskedAt asked now → length now.before ≡ entries → StandsFor now old → happenings now.before now.world mid.wirings.world (entry_of now asked.op reply) asked.op reply ≡ [] →
      StandsFor (later now asked.op reply mid.wirings.world sights) (with_listeners (tell entries sights mid.listeners) mid)
  silent_then now at number stood none =
      let nobody : [] ≡ sights = sights-once now.before now.world mid.wirings.world (entry_of now asked.op reply) [] sights (nothing_seen now.before now.world mid.wirings.world (entry_of now asked.op reply) none) (told_seen now at number stood) in
      subst (λ list. StandsFor (later now asked.op reply mid.wirings.world list) (with_listeners (tell entries list mid.listeners) mid)) nobody
      (tables_alike mid (tell entries [] mid.listeners) (told_none entries mid.listeners) (later now asked.op reply mid.wirings.world []) (untold now at stood))

  pub told_replied : IsReplied entries asked old (with_listeners (tell entries sights mid.listeners) mid) reply sights
  told_replied = record {
    due = λ now at number stood. answered.due now at stood;
    left = λ now at number stood. answered.left now at stood;
    seen = told_seen;
    stands = λ now at number stood. elim (hands_or_happens asked.op reply) [
      | inl none ↦ told_then now at number stood none
      | inr none ↦ silent_then now at number stood (none now.before now.world mid.wirings.world (entry_of now asked.op reply))
    ];
  }

-- ---- what holds of each listener's row as it was, whatever its room, holds of those that are left

-- it holds of a row that hands its first event, where it holds of the row, and of that of a listener that is added
record IsLasting (P : Row → Type 0) (c : Change) (old : Tables) : Type 0 where
  fewer : (row : Row) → P row → P (without_first row)
  fresh : happened c old.registry old.bundles ≡ [] → (listener : ListenerRow) → P (new_row listener)

fewer_all : (P : Row → Type 0) → ((row : Row) → P row → P (without_first row)) → (listener : ListenerId) (rows : List Row) → All P rows → All P (change_at listener without_first rows)
fewer_all P fewer listener [] all = All-nil P
fewer_all P fewer listener (row ∷ rest) all =
    All-cons P (cond (is_listener listener row) (without_first row) row) (change_at listener without_first rest) (by (is_listener listener row) (All-head P row rest all)) (fewer_all P fewer listener rest (All-tail P row rest all))
  where
    by : (t : Bool) → P row → P (cond t (without_first row) row)
    by true p = fewer row p
    by false p = p

stays_all : (P : Row → Type 0) (c : Change) (old new : Tables) → IsLasting P c old → Changes c old new → All P old.listeners.rows → All P new.listeners.rows
stays_all P change.Nothing old new lasts is all = subst (λ (t : Tables). All P t.listeners.rows) (sym is) all
stays_all P (change.Services c) old new lasts is all = subst (λ (t : Tables). All P t.listeners.rows) (sym is.is) all
stays_all P (change.Install made revision) old new lasts is all = subst (λ (t : Tables). All P t.listeners.rows) (sym is.is) all
stays_all P (change.Resolve added resolved) old new lasts is all = subst (λ (t : Tables). All P t.listeners.rows) (sym is.is) all
stays_all P (change.Listen owner name kind given) old new lasts is all = subst (λ (t : Tables). All P t.listeners.rows) (sym is) (All-push P old.listeners.rows _ all (lasts.fresh refl _))
stays_all P (change.Unlisten owner name) old new lasts is all = subst (λ (t : Tables). All P t.listeners.rows) (sym is) (All-filter (λ row. not (is_named owner name row)) P old.listeners.rows all)
stays_all P (change.Hand tag listener) old new lasts is all = subst (λ (t : Tables). All P t.listeners.rows) (sym is.is) (fewer_all P lasts.fewer listener old.listeners.rows all)
stays_all P (change.Queue owner name) old new lasts is all = subst (λ (t : Tables). All P t.listeners.rows) (sym is) all
stays_all P (change.TakeJob tag) old new lasts is all = subst (λ (t : Tables). All P t.listeners.rows) (sym is.is) all
stays_all P (change.BeginStart tag b) old new lasts is all = subst (λ (t : Tables). All P t.listeners.rows) (sym is.is) all
stays_all P (change.BeginStop tag b) old new lasts is all = subst (λ (t : Tables). All P t.listeners.rows) (sym is.is) all
stays_all P (change.EndStart tag b true) old new lasts is all = subst (λ (t : Tables). All P t.listeners.rows) (sym is.is) (All-filter (λ row. not (is_owned b row)) P old.listeners.rows all)
stays_all P (change.EndStart tag b false) old new lasts is all = subst (λ (t : Tables). All P t.listeners.rows) (sym is.is) all
stays_all P (change.EndStop tag b) old new lasts is all = subst (λ (t : Tables). All P t.listeners.rows) (sym is.is) (All-filter (λ row. not (is_owned b row)) P old.listeners.rows all)

-- where nothing happens there is nothing to see
none_at : {place : ℕ} {shown : Shown} → IsAt place [] shown → ⊥
none_at x = elim x [ ]

pub nothing_told : (l : Listening) (removed : Option BundleId) (world : World) (happened : List Shown) (sights : List Sight) → AreSightsOf l removed world happened sights → happened ≡ [] → sights ≡ []
nothing_told l removed world happened [] seen none = refl
nothing_told l removed world happened (s ∷ rest) seen none =
    let first = All-head (IsSightOf l removed world happened) s rest seen.only in absurd (none_at (subst (λ all. IsAt s.place all first.shown) none first.at))

-- the room that was made is there
pub room_there : (c : Change) (old new : Tables) (sights : List Sight) → (happened c old.registry old.bundles ≡ [] → sights ≡ []) → Changes c old new → HasRoomFor sights old.listeners.rows → HasRoomFor sights new.listeners.rows
room_there c old new sights none changes room = stays_all (λ row. length (sights_by row.listener.listener sights) ≤ row.room) c old new lasts changes room
  where
    lasts : IsLasting (λ row. length (sights_by row.listener.listener sights) ≤ row.room) c old
    lasts = record {
      fewer = λ row p. omega (arith, p);
      fresh = λ nothing listener. subst (λ list. length (sights_by listener.listener list) ≤ 0) (sym (none nothing)) (omega arith);
    }

earlier_drop : (entries : ℕ) (row : Row) → IsOfEarlier entries row → IsOfEarlier entries (without_first row)
earlier_drop entries row all = drop_one row.waiting all
  where
    drop_one : (waiting : List Waiting) → All (λ (w : Waiting). w.place < entries * 4294967296) waiting → All (λ (w : Waiting). w.place < entries * 4294967296) (drop 1 waiting)
    drop_one [] all = All-nil (λ (w : Waiting). w.place < entries * 4294967296)
    drop_one (w ∷ rest) all = All-tail (λ (v : Waiting). v.place < entries * 4294967296) w rest all

-- and what waits is still of earlier entries
pub earlier_there : (c : Change) (old new : Tables) (r : Listening) (entries : ℕ) → HearsAlike old.listeners r → Changes c (with_listeners r old) new → All (IsOfEarlier entries) old.listeners.rows → All (IsOfEarlier entries) new.listeners.rows
earlier_there c old new r entries alike changes all =
    stays_all (IsOfEarlier entries) c (with_listeners r old) new (record { fewer = λ row p. earlier_drop entries row p; fresh = λ nothing listener. All-nil _ }) changes (all_alike old.listeners r alike (IsOfEarlier entries) (λ row p. p) (λ row p. p) all)

pub alike_roomier : (old new : Listening) → AreRoomier old new → HearsAlike old new
alike_roomier old new roomier = record { rows = same_but_room old.rows new.rows roomier.rows; turns = roomier.turns; issued = roomier.issued }

-- the listeners are those once they were told
pub is_told : (entries : ℕ) (old new : Listening) (given list : List declared.Sight) → given ≡ list → new.rows ≡ map (told_all entries (sights_of given)) old.rows → new.turns ≡ old.turns → new.issued ≡ old.issued → new ≡ tell entries (sights_of list) old
is_told entries old new given list same rows turns issued =
    λ i. record { rows = (rows ∙ ap (λ (l : List declared.Sight). map (told_all entries (sights_of l)) old.rows) same) i; turns = turns i; issued = issued i }
