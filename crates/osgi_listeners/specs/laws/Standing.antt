-- The listeners stand for a history: what each of their calls makes of it, at the entry that goes with it.
--
-- Each law is from StandsFor before to StandsFor after.
--   new          stands-at-first        the history of no entries
--   add, insert  stands-with-added      an AddListener that is answered with the id
--   remove       stands-with-removed    a RemoveListener that is answered by what the call answers
--   remove_all   stands-with-cleaned    an entry that cleans the bundle
--   deliver_all  stands-with-all-seen   the entry is in the history already: first its own law, then this
--   post         stands-with-posted     likewise, of one happening of the entry
--   hand         stands-with-handed     a Hand that is answered Handed; one that is answered Nothing is quiet
--   end_hand     stands-with-ended      an EndHand that is answered Done
--   reserve_for  stands-roomier         no entry; so with `reserve`
--   no call      stands-with-quiet      an entry that says nothing of listeners, hands and turns
-- stands-later and stands-later-still go from there to the moment after a whole call.
use Rattle.std.proofs.Common.{◌≡◌, ◌<◌, ℕ, suc, ◌+◌, arith, List, [], ◌∷◌, ◌++◌, append-nil, map, Bool, true, false, refl, sym, ap, ◌∙◌, subst, inl, length}
use Rattle.std.specs.Prelude.{◌==◌, ◌&&◌, not, cond, filter, find, None, Some, Option, slice_index_or}
use Rattle.std.specs.BTreeMap.{is_at, insert_entry}
use Rattle.std.specs.List.{list_any}
use Rattle.std.specs.Option.{option_map}
use Rattle.std.specs.Ordering.{nat_cmp}
use Rattle.std.proofs.lemmas.List.{map-append}
use Rattle.osgi_base.specs.declared.ids.BundleId.{BundleId}
use Rattle.osgi_base.specs.declared.ids.ListenerId.{ListenerId}
use Rattle.osgi_listeners.specs.Rows.{ArePosted, bare, IsPosted, told_if, is_listener, is_named, is_owned, Listening, new_row, Row, without_first, change, no_listeners, without_turn, tag_of, AreRising, AreRoomier}
use Rattle.osgi_ops.specs.Brackets.{bracket, brackets, handing, opens, closes}
use Rattle.osgi_ops.specs.OwnBrackets.{turned}
use Rattle.osgi_ops.specs.Cleaning.{cleaned_by}
use Rattle.osgi_ops.specs.Listening.{Added, clears, handed_by, heard_by, Hearing, hearing, lets_go, listeners, takes_off, with_heard, AreSights, happenings, IsAt, IsSight, here, there}
use Rattle.osgi_ops.specs.Moments.{Seen, later, Moment, seen_after, Sight}
use Rattle.osgi_ops.specs.declared.entry.Entry.{Entry}
use Rattle.osgi_ops.specs.declared.op.Op.{Op}
use Rattle.osgi_ops.specs.declared.reply.Reply.{Reply}
use Rattle.osgi_ops.specs.laws.Brackets.{brackets-last, ends_turn}
use Rattle.osgi_listeners.specs.Stands.{is_turn, listener_row, row_of, StandsFor, tag_in, turn_of, waiting_for, AreHandedFirst, AreOfAdded, AreTurnsApart, IsQuietEntry}
use Rattle.osgi_world.specs.declared.world.World.{World}
use Rattle.osgi_listeners.specs.laws.Items.{bytes-turn, eq-turn, in-all, map-twice, none-taken}
use Rattle.osgi_listeners.specs.laws.Waiting.{handed-same, hearing-last, none-waits, rows-changed, rows-filtered, rows-same, waits-fewer, waits-same, waits-seen}
use Rattle.osgi_listeners.specs.laws.Turns.{lookup-inserted, lookup-removed, opens-none, own-turn, rising-inserted, rising-removed, turn-ended, turn-stays, at-is}
use Rattle.osgi_listeners.specs.laws.Premises.{handed-first-same}
use Rattle.osgi_listeners.specs.laws.Room.{same_but_room}
use Rattle.osgi_listeners.specs.Sights.{sights_by, told_all, waiting_at}
use Rattle.osgi_listeners.specs.declared.row.Waiting.{Waiting}
use Rattle.osgi_ops.specs.declared.event.Event.{Event}
use Rattle.osgi_ops.specs.declared.kind.Kind.{Kind}
use Rattle.osgi_model.specs.declared.filter.Filter.{Filter}
use Rattle.osgi_base.specs.declared.ids.Tag.{Tag}
use Rattle.osgi_ops.specs.declared.op.Op.TheVariants as op
use Rattle.osgi_ops.specs.declared.reply.Reply.TheVariants as answer

abbrev pub entry_by : Tag → Op → Reply → Entry
entry_by tag asked reply = record { tag = tag; op = asked; reply = reply }

pub stands-at-first : StandsFor [] [] no_listeners
stands-at-first = record { rows = refl; turns = λ n. refl; rising = tt; issued = refl }

pub stands-with-quiet : (sights : List Seen) (history : List Entry) (l : Listening) (e : Entry) → IsQuietEntry history e → StandsFor sights history l → StandsFor sights (history ++ e ∷ []) l
stands-with-quiet sights history l e quiet stands =
    let h : List Entry = history ++ e ∷ [] in
    let heard : hearing h ≡ hearing history = hearing-last history e ∙ ap (λ c. with_heard c (hearing history)) quiet.heard in
    record {
      rows = stands.rows ∙ rows-same sights history h (handed-same history e quiet.handed) (listeners history) ∙ ap (λ (s : Hearing). map (row_of sights h) s.live) (sym heard);
      turns = λ n. stands.turns n ∙ sym (quiet.turns n);
      rising = stands.rising;
      issued = stands.issued ∙ ap (λ (s : Hearing). s.count) (sym heard);
    }

pub stands-with-added :
    (sights : List Seen) (history : List Entry) (l : Listening) (tag : Tag) (owner : BundleId) (name : List ℕ) (kind : Kind) (given : Option Filter) (id : ListenerId) → id.0 ≡ l.issued + 1 → AreOfAdded sights history → StandsFor sights history l →
    StandsFor sights (history ++ entry_by tag (op.AddListener owner name kind given) (answer.Listener id) ∷ [])
    (record { rows = l.rows ++ new_row (record { listener = id; owner = owner; name = name; kind = kind; filter = given }) ∷ []; turns = l.turns; issued = l.issued + 1 })
stands-with-added sights history l tag owner name kind given id next added stands =
    let e : Entry = entry_by tag (op.AddListener owner name kind given) (answer.Listener id) in
    let h : List Entry = history ++ e ∷ [] in
    let n : ℕ = (hearing history).count in
    let new : Added = record { listener = record { 0 = n + 1 }; owner = owner; name = name; kind = kind; given = given } in
    let r : Row = new_row (record { listener = id; owner = owner; name = name; kind = kind; filter = given }) in
    let heard : hearing h ≡ record { count = n + 1; live = listeners history ++ new ∷ [] } = hearing-last history e in
    let is : id.0 ≡ n + 1 = next ∙ ap (λ k. k + 1) stands.issued in
    let none : [] ≡ waiting_for (record { 0 = n + 1 }) sights history = none-waits n sights history added in
    let row : bare r ≡ row_of sights history new = (λ i. record { listener = record { listener = record { 0 = is i }; owner = owner; name = name; kind = kind; filter = given }; waiting = none i; room = 0 }) in
    record {
      rows = map-append bare l.rows (r ∷ [])
          ∙ (λ i. stands.rows i ++ row i ∷ [])
          ∙ sym (map-append (row_of sights history) (listeners history) (new ∷ []))
          ∙ rows-same sights history h (handed-same history e (λ listener. refl)) (listeners history ++ new ∷ [])
          ∙ ap (λ (s : Hearing). map (row_of sights h) s.live) (sym heard);
      turns = λ m. stands.turns m ∙ sym (turn-stays m history e (opens-none m (opens e.op e.reply) refl) (λ k. refl));
      rising = stands.rising;
      issued = ap (λ k. k + 1) stands.issued ∙ ap (λ (s : Hearing). s.count) (sym heard);
    }

-- where room was made, and nothing else changed
pub stands-roomier : (sights : List Seen) (history : List Entry) (old new : Listening) → AreRoomier old new → StandsFor sights history old → StandsFor sights history new
stands-roomier sights history old new roomier stands = record {
  rows = same_but_room old.rows new.rows roomier.rows ∙ stands.rows;
  turns = λ n. ap (tag_of n) roomier.turns ∙ stands.turns n;
  rising = subst AreRising (sym roomier.turns) stands.rising;
  issued = roomier.issued ∙ stands.issued;
}

-- an entry by which listeners go, and nothing else becomes of them
less : (sights : List Seen) (history : List Entry) (l : Listening) (e : Entry) (p : Row → Bool) (q : Added → Bool) → ((row : Row) → p (bare row) ≡ p row) → ((a : Added) → p (row_of sights history a) ≡ q a) →
    hearing (history ++ e ∷ []) ≡ record { count = (hearing history).count; live = filter q (listeners history) } → ((listener : ListenerId) → handed_by listener e.op e.reply ≡ []) →
    ((n : ℕ) → turn_of n (brackets (history ++ e ∷ [])) ≡ turn_of n (brackets history)) → StandsFor sights history l →
    StandsFor sights (history ++ e ∷ []) (record { rows = filter p l.rows; turns = l.turns; issued = l.issued })
less sights history l e p q same said heard none turns stands = record {
  rows = rows-filtered sights history p q same said l.rows (listeners history) stands.rows
      ∙ rows-same sights history (history ++ e ∷ []) (handed-same history e none) (filter q (listeners history))
      ∙ ap (λ (s : Hearing). map (row_of sights (history ++ e ∷ [])) s.live) (sym heard);
  turns = λ n. stands.turns n ∙ sym (turns n);
  rising = stands.rising;
  issued = stands.issued ∙ ap (λ (s : Hearing). s.count) (sym heard);
}

pub stands-with-removed :
    (sights : List Seen) (history : List Entry) (l : Listening) (tag : Tag) (owner : BundleId) (name : List ℕ) → StandsFor sights history l →
    StandsFor sights (history ++ entry_by tag (op.RemoveListener owner name) (answer.Flag (list_any (is_named owner name) l.rows)) ∷ [])
    (record { rows = filter (λ row. not (is_named owner name row)) l.rows; turns = l.turns; issued = l.issued })
stands-with-removed sights history l tag owner name stands = go (list_any (is_named owner name) l.rows) refl
  where
    e : Bool → Entry
    e value = entry_by tag (op.RemoveListener owner name) (answer.Flag value)

    turns : (value : Bool) (n : ℕ) → turn_of n (brackets (history ++ entry_by tag (op.RemoveListener owner name) (answer.Flag value) ∷ [])) ≡ turn_of n (brackets history)
    turns value n = turn-stays n history (entry_by tag (op.RemoveListener owner name) (answer.Flag value)) (opens-none n None refl) (λ k. refl)

    go : (value : Bool) → list_any (is_named owner name) l.rows ≡ value →
        StandsFor sights (history ++ entry_by tag (op.RemoveListener owner name) (answer.Flag value) ∷ [])
        (record { rows = filter (λ row. not (is_named owner name row)) l.rows; turns = l.turns; issued = l.issued })
    go true some =
        less sights history l (entry_by tag (op.RemoveListener owner name) (answer.Flag true)) (λ row. not (is_named owner name row)) (λ (a : Added). not (takes_off a.owner a.name (lets_go owner name)))
        (λ row. refl) (λ a. λ i. not (eq-turn a.owner.0 owner.0 i && bytes-turn a.name name i)) (hearing-last history (entry_by tag (op.RemoveListener owner name) (answer.Flag true)))
        (λ listener. refl) (turns true) stands
    go false none =
        subst (λ rows. StandsFor sights (history ++ entry_by tag (op.RemoveListener owner name) (answer.Flag false) ∷ []) (record { rows = rows; turns = l.turns; issued = l.issued }))
        (sym (none-taken (is_named owner name) l.rows none))
        (stands-with-quiet sights history l (entry_by tag (op.RemoveListener owner name) (answer.Flag false)) (record { heard = refl; turns = turns false; handed = λ listener. refl }) stands)

-- what cleans a bundle takes its listeners, hands nothing, opens nothing and ends no turn
record Cleans (o : Op) (y : Reply) (owner : BundleId) : Type 0 where
  heard : heard_by o y ≡ Some (clears owner)
  handed : (listener : ListenerId) → handed_by listener o y ≡ []
  opened : opens o y ≡ None
  ended : (listener : ListenerId) → ends_turn listener o ≡ false

cleaning : (o : Op) (y : Reply) (owner : BundleId) → cleaned_by o y ≡ Some owner → Cleans o y owner
cleaning (op.EndStart b fails) y owner e = record { heard = ap (option_map clears) e; handed = λ listener. refl; opened = refl; ended = λ listener. refl }
cleaning (op.EndStop b fails) y owner e = record { heard = ap (option_map clears) e; handed = λ listener. refl; opened = refl; ended = λ listener. refl }
cleaning o y owner e = absurd (cc e)

pub stands-with-cleaned :
    (sights : List Seen) (history : List Entry) (l : Listening) (e : Entry) (owner : BundleId) → cleaned_by e.op e.reply ≡ Some owner → StandsFor sights history l →
    StandsFor sights (history ++ e ∷ []) (record { rows = filter (λ row. not (is_owned owner row)) l.rows; turns = l.turns; issued = l.issued })
stands-with-cleaned sights history l e owner cleaned stands =
    let c = cleaning e.op e.reply owner cleaned in
    less sights history l e (λ row. not (is_owned owner row)) (λ (a : Added). not (takes_off a.owner a.name (clears owner)))
    (λ row. refl) (λ a. ap not (eq-turn a.owner.0 owner.0)) (hearing-last history e ∙ ap (λ o. with_heard o (hearing history)) c.heard)
    c.handed (λ n. turn-stays n history e (opens-none n (opens e.op e.reply) c.opened) (λ k. c.ended (record { 0 = n }))) stands

-- `deliver_all`: all that is seen of an entry. Its number is how many entries stand before it
pub stands-with-all-seen : (sights : List Seen) (history : List Entry) (l : Listening) (entry : ℕ) (these : List Sight) → AreHandedFirst sights history → StandsFor sights history l →
    StandsFor (sights ++ seen_after entry these) history (record { rows = map (told_all entry these) l.rows; turns = l.turns; issued = l.issued })
stands-with-all-seen sights history l entry these first stands = record {
  rows = bared l.rows ∙ ap (map told) stands.rows ∙ map-twice (row_of sights history) told (row_of (sights ++ seen_after entry these) history) (λ a. λ i. record { listener = listener_row a; waiting = waits-seen sights history entry these first a.listener i; room = 0 }) (listeners history);
  turns = stands.turns;
  rising = stands.rising;
  issued = stands.issued;
}
  where
    -- of a row without room
    told : Row → Row
    told row = record { listener = row.listener; waiting = row.waiting ++ map (waiting_at entry) (sights_by row.listener.listener these); room = 0 }

    bared : (rows : List Row) → map bare (map (told_all entry these) rows) ≡ map told (map bare rows)
    bared rows = map-twice (told_all entry these) bare (λ row. told (bare row)) (λ row. refl) rows ∙ sym (map-twice bare told (λ row. told (bare row)) (λ row. refl) rows)

-- `post`: one happening of an entry. What it answers for a listener is what the listener sees of it
abbrev pub waits_by : ℕ → Option Event → List Waiting
waits_by place None = []
waits_by place (Some event) = record { place = place; event = event } ∷ []

module _ (entry place : ℕ) (these : List Sight) (Sees : ListenerId → Option Event → Type 0) (says : (listener : ListenerId) (seen : Option Event) → Sees listener seen → map (waiting_at entry) (sights_by listener these) ≡ waits_by place seen) where
  posted-row : (old new : Row) → IsPosted place Sees old new → bare new ≡ bare (told_all entry these old)
  posted-row old new posted = posted.is ∙ by posted.answer (says old.listener.listener posted.answer posted.seen)
    where
      by : (seen : Option Event) → map (waiting_at entry) (sights_by old.listener.listener these) ≡ waits_by place seen → bare (told_if place seen old) ≡ bare (told_all entry these old)
      by None is = λ i. record { listener = old.listener; waiting = (sym (append-nil old.waiting) ∙ ap (λ (w : List Waiting). old.waiting ++ w) (sym is)) i; room = 0 }
      by (Some event) is = λ i. record { listener = old.listener; waiting = old.waiting ++ sym is i; room = 0 }

  posted-rows : (old new : List Row) → length new ≡ length old → ((i : ℕ) (d : Row) → i < length old → IsPosted place Sees (slice_index_or old i d) (slice_index_or new i d)) → map bare new ≡ map bare (map (told_all entry these) old)
  posted-rows [] [] count each = refl
  posted-rows [] (n ∷ ns) count each = absurd (cc count)
  posted-rows (o ∷ os) [] count each = absurd (cc count)
  posted-rows (o ∷ os) (n ∷ ns) count each =
      let head : bare n ≡ bare (told_all entry these o) = posted-row o n (each 0 o (omega arith)) in
      let same : length ns ≡ length os = cc count in
      let rest : map bare ns ≡ map bare (map (told_all entry these) os) = posted-rows os ns same (λ i d within. each (suc i) d (omega (arith, within))) in
      λ i. head i ∷ rest i

  pub stands-with-posted : (sights : List Seen) (history : List Entry) (old new : Listening) → ArePosted place Sees old.rows new.rows → new.turns ≡ old.turns → new.issued ≡ old.issued → AreHandedFirst sights history → StandsFor sights history old →
      StandsFor (sights ++ seen_after entry these) history new
  stands-with-posted sights history old new posted turns issued first stands =
      let seen = stands-with-all-seen sights history old entry these first stands in
      record {
        rows = posted-rows old.rows new.rows posted.count posted.each ∙ seen.rows;
        turns = λ n. ap (tag_of n) turns ∙ seen.turns n;
        rising = subst AreRising (sym turns) seen.rising;
        issued = issued ∙ seen.issued;
      }

pub stands-with-handed :
    (sights : List Seen) (history : List Entry) (l : Listening) (tag : Tag) (listener : ListenerId) (kind : Kind) (owner : BundleId) (number : ℕ) (name : List ℕ) (happened : Event) → StandsFor sights history l →
    StandsFor sights (history ++ entry_by tag op.Hand (answer.Handed listener kind owner number name happened) ∷ [])
    (record { rows = change listener without_first l.rows; turns = insert_entry nat_cmp l.turns listener.0 tag; issued = l.issued })
stands-with-handed sights history l tag listener kind owner number name happened stands =
    let e : Entry = entry_by tag op.Hand (answer.Handed listener kind owner number name happened) in
    let h : List Entry = history ++ e ∷ [] in
    record {
      rows = rows-changed sights sights history h listener without_first (λ row. refl) (λ a. each a (a.listener.0 == listener.0) refl) l.rows (listeners history) stands.rows
          ∙ ap (λ (s : Hearing). map (row_of sights h) s.live) (sym (hearing-last history e));
      turns = λ n. lookup-inserted n listener.0 tag l.turns
          ∙ (λ i. cond ((at-is n listener.0 ∙ eq-turn n listener.0) i) (Some tag) (stands.turns n i))
          ∙ opened n (listener.0 == n)
          ∙ ap (turn_of n) (sym (brackets-last history e));
      rising = rising-inserted listener.0 tag l.turns stands.rising;
      issued = stands.issued ∙ ap (λ (s : Hearing). s.count) (sym (hearing-last history e));
    }
  where
    opened : (n : ℕ) (k : Bool) → cond k (Some tag) (turn_of n (brackets history)) ≡ option_map tag_in (cond k (Some (bracket tag (handing listener))) (find (is_turn (record { 0 = n })) (brackets history)))
    opened n true = refl
    opened n false = refl

    each : (a : Added) (k : Bool) → (a.listener.0 == listener.0) ≡ k →
        cond (is_listener listener (row_of sights history a)) (bare (without_first (row_of sights history a))) (row_of sights history a) ≡ row_of sights (history ++ entry_by tag op.Hand (answer.Handed listener kind owner number name happened) ∷ []) a
    each a k q = ap (λ t. cond t (bare (without_first (row_of sights history a))) (row_of sights history a)) q ∙ either k q
      where
        given : (t : Bool) → (a.listener.0 == listener.0) ≡ t → handed_by a.listener op.Hand (answer.Handed listener kind owner number name happened) ≡ cond t (happened ∷ []) []
        given t r = ap (λ b. cond b (happened ∷ []) []) (eq-turn listener.0 a.listener.0 ∙ r)

        either : (t : Bool) → (a.listener.0 == listener.0) ≡ t → cond t (bare (without_first (row_of sights history a))) (row_of sights history a)
            ≡ row_of sights (history ++ entry_by tag op.Hand (answer.Handed listener kind owner number name happened) ∷ []) a
        either true r =
            let w = waits-fewer sights history (entry_by tag op.Hand (answer.Handed listener kind owner number name happened)) happened a.listener (given true r) in
            λ i. record { listener = listener_row a; waiting = w i; room = 0 }
        either false r =
            let w = waits-same sights history (entry_by tag op.Hand (answer.Handed listener kind owner number name happened)) a.listener (given false r) in
            λ i. record { listener = listener_row a; waiting = w i; room = 0 }

pub stands-with-ended :
    (sights : List Seen) (history : List Entry) (l : Listening) (tag : Tag) (listener : ListenerId) → AreTurnsApart (brackets history) → closes tag (op.EndHand listener) (brackets history) ≡ true → StandsFor sights history l →
    StandsFor sights (history ++ entry_by tag (op.EndHand listener) answer.Done ∷ []) (record { rows = l.rows; turns = without_turn listener l.turns; issued = l.issued })
stands-with-ended sights history l tag listener apart own stands =
    let e : Entry = entry_by tag (op.EndHand listener) answer.Done in
    let h : List Entry = history ++ e ∷ [] in
    let heard : hearing h ≡ hearing history = hearing-last history e in
    record {
      rows = stands.rows ∙ rows-same sights history h (handed-same history e (λ other. refl)) (listeners history) ∙ ap (λ (s : Hearing). map (row_of sights h) s.live) (sym heard);
      turns = λ n. lookup-removed n listener.0 l.turns stands.rising
          ∙ ap (λ o. cond (listener.0 == n) None o) (stands.turns n)
          ∙ without n (listener.0 == n)
          ∙ ap (option_map tag_in) (sym (turn-ended n listener tag (brackets history) apart own))
          ∙ ap (λ k. turn_of n (turned tag None k (brackets history))) (sym own)
          ∙ ap (turn_of n) (sym (brackets-last history e));
      rising = rising-removed (is_at (nat_cmp listener.0)) l.turns stands.rising;
      issued = stands.issued ∙ ap (λ (s : Hearing). s.count) (sym heard);
    }
  where
    without : (n : ℕ) (k : Bool) → cond k None (turn_of n (brackets history)) ≡ option_map tag_in (cond k None (find (is_turn (record { 0 = n })) (brackets history)))
    without n true = refl
    without n false = refl

pub has-own-turn :
    (sights : List Seen) (history : List Entry) (l : Listening) (tag : Tag) (listener : ListenerId) → AreTurnsApart (brackets history) → closes tag (op.EndHand listener) (brackets history) ≡ true → StandsFor sights history l →
    tag_of listener.0 l.turns ≡ Some tag
has-own-turn sights history l tag listener apart own stands = stands.turns listener.0 ∙ own-turn listener tag (brackets history) apart own

-- ---- a whole call

-- an entry that hands nothing: once its own law is applied, the sights are delivered, and the rows stand for the moment after it
pub stands-later : (now : Moment) (o : Op) (reply : Reply) (world : World) (sights : List Sight) (l : Listening) → AreHandedFirst now.sights now.before → ((listener : ListenerId) → handed_by listener o reply ≡ []) →
    StandsFor now.sights (now.before ++ entry_by now.tag o reply ∷ []) l →
    StandsFor (later now o reply world sights).sights (later now o reply world sights).before (record { rows = map (told_all (length now.before) sights) l.rows; turns = l.turns; issued = l.issued })
stands-later now o reply world sights l first none stands =
    stands-with-all-seen now.sights (now.before ++ entry_by now.tag o reply ∷ []) l (length now.before) sights
    (handed-first-same now.sights now.before (entry_by now.tag o reply) none first) stands

some-at : {A : Type 0} {place : ℕ} {xs : List A} {x : A} → IsAt place xs x → xs ≡ [] → ⊥
some-at here e = absurd (cc e)
some-at (there i) e = absurd (cc e)

none-seen : (past : List Entry) (before after : World) (e : Entry) (sights : List Sight) → AreSights past before after e sights → happenings past before after e e.op e.reply ≡ [] → sights ≡ []
none-seen past before after e [] a none = refl
none-seen past before after e (s ∷ rest) a none = absurd (some-at (in-all (IsSight past before after e) (s ∷ rest) s a.only (inl refl)).at none)

-- an entry at which nothing happens, such as a Hand: nothing is to be delivered
pub stands-later-still : (now : Moment) (o : Op) (reply : Reply) (world : World) (sights : List Sight) (l : Listening) → AreSights now.before now.world world (entry_by now.tag o reply) sights →
    happenings now.before now.world world (entry_by now.tag o reply) o reply ≡ [] → StandsFor now.sights (now.before ++ entry_by now.tag o reply ∷ []) l →
    StandsFor (later now o reply world sights).sights (later now o reply world sights).before l
stands-later-still now o reply world sights l are none stands =
    subst (λ all. StandsFor all (now.before ++ entry_by now.tag o reply ∷ []) l)
    (sym (ap (λ more. now.sights ++ seen_after (length now.before) more) (none-seen now.before now.world world (entry_by now.tag o reply) sights are none) ∙ append-nil now.sights)) stands
