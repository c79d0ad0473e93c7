-- The busy ones.
--
--   hand        answers-nothing   where no row is open, Nothing is the answer, and the busy ones are those of the history
--   busy, hand  busy_rising       they stand by rising id
use Rattle.std.proofs.Common.{◌≡◌, inl, inr, ℕ, suc, ◌<◌, nat_lt, List, [], ◌∷◌, length, map, drop, Bool, true, false, refl, sym, ap, ◌∙◌, subst, arith}
use Rattle.std.specs.Prelude.{cond, All, AllPairs, Contains, filter, find, Option, None, Some}
use Rattle.std.specs.BTreeMap.{is_at}
use Rattle.std.specs.List.{list_any}
use Rattle.std.specs.Map.{lookup}
use Rattle.std.specs.Option.{option_map, option_map_or}
use Rattle.std.specs.Ordering.{nat_cmp}
use Rattle.std.proofs.lemmas.Bool.{eq-eqb, eqb-true, lt-ltb, or_parts}
use Rattle.std.proofs.lemmas.List.Elements.{All-nil}
use Rattle.std.proofs.lemmas.List.Kept.{AllPairs-cons}
use Rattle.osgi_base.specs.declared.ids.ListenerId.{ListenerId}
use Rattle.osgi_base.specs.declared.ids.Tag.{Tag}
use Rattle.osgi_listeners.specs.Rows.{AreRising, busy_in, busy_of, has_waiting, id_of, is_busy, is_listener as is_row_of, Listening, RiseFrom, Row, row_at, tag_of, is_open}
use Rattle.osgi_listeners.specs.declared.row.Waiting.{Waiting}
use Rattle.osgi_ops.specs.Brackets.{Bracket, bracket, brackets, Cause}
use Rattle.osgi_ops.specs.Listening.{handed_in, is_listener, is_turn_of, listeners, spot_of}
use Rattle.osgi_ops.specs.Moments.{Moment, Seen}
use Rattle.osgi_ops.specs.rows.Events.{IsBusy, IsNothing}
use Rattle.osgi_ops.specs.declared.event.Busy.{Busy}
use Rattle.osgi_ops.specs.laws.Items.{contains-In, find-some, found-in, In-contains, In-filter, In-kept, In-map, In-mapped}
use Rattle.osgi_world.specs.Lists.{In}
use Rattle.osgi_listeners.specs.Stands.{AreHandedFirst, AreTurnsApart, is_turn, seen_by, StandsFor, tag_in, waiting_for, waiting_of}
use Rattle.osgi_listeners.specs.laws.Items.{all-in}
use Rattle.osgi_listeners.specs.laws.Handing.{added-row, is-nothing-ready, next-waits, row-added, waits-next}
use Rattle.osgi_listeners.specs.laws.Turns.{at-is, none-below}
use Rattle.osgi_ops.specs.declared.reply.Reply.TheVariants as answer

-- ---- the list of turns

-- what stands in it is found, since no two are of one listener
turn-found : (es : List (ℕ × Tag)) (turn : ℕ × Tag) → AreRising es → In turn es → tag_of turn.0 es ≡ Some turn.1
turn-found [] turn rising i = elim i [ ]
turn-found (e ∷ es) turn rising (inl is) =
    ap (λ k. cond k (Some e.1) (lookup (is_at (nat_cmp turn.0)) es)) (at-is turn.0 e.0 ∙ eq-eqb turn.0 e.0 (ap (λ (x : ℕ × Tag). x.0) is)) ∙ ap (λ (x : ℕ × Tag). Some x.1) (sym is)
turn-found (e ∷ es) turn rising (inr i) = by (is_at (nat_cmp turn.0) e.0) refl (turn-found es turn (tail es rising) i)
  where
    tail : (rest : List (ℕ × Tag)) → RiseFrom e.0 rest → AreRising rest
    tail [] r = tt
    tail (f ∷ rest) r = r.1

    by : (k : Bool) → is_at (nat_cmp turn.0) e.0 ≡ k → lookup (is_at (nat_cmp turn.0)) es ≡ Some turn.1 → cond k (Some e.1) (lookup (is_at (nat_cmp turn.0)) es) ≡ Some turn.1
    by true at ih =
        let same : turn.0 ≡ e.0 = eqb-true turn.0 e.0 (sym (at-is turn.0 e.0) ∙ at) in
        let bad : None ≡ Some turn.1 = sym (none-below turn.0 e.0 es (omega (arith, same)) rising) ∙ ih in
        absurd (cc bad)
    by false at ih = ih

-- what is found stands in it
found-turn : (es : List (ℕ × Tag)) (n : ℕ) (tag : Tag) → tag_of n es ≡ Some tag → In (n, tag) es
found-turn [] n tag e = absurd (cc e)
found-turn (x ∷ es) n tag e = by (is_at (nat_cmp n) x.0) refl e (found-turn es n tag)
  where
    by : (k : Bool) → is_at (nat_cmp n) x.0 ≡ k → cond k (Some x.1) (lookup (is_at (nat_cmp n)) es) ≡ Some tag → (lookup (is_at (nat_cmp n)) es ≡ Some tag → In (n, tag) es) → In (n, tag) (x ∷ es)
    by true at q ih =
        let id : n ≡ x.0 = eqb-true n x.0 (sym (at-is n x.0) ∙ at) in
        let same : tag ≡ x.1 = sym (cc q) in
        inl (λ i. (id i, same i))
    by false at q ih = inr (ih q)

-- ---- brackets

-- a bracket that hands to the listener is the one that is found
found-bracket : (opened : List Bracket) (listener : ListenerId) (b : Bracket) → AreTurnsApart opened → In b opened → is_turn listener b ≡ true → find (is_turn listener) opened ≡ Some b
found-bracket [] listener b apart i t = elim i [ ]
found-bracket (x ∷ opened) listener b apart (inl is) t =
    ap (λ k. cond k (Some x) (find (is_turn listener) opened)) (ap (is_turn listener) (sym is) ∙ t) ∙ ap Some (sym is)
found-bracket (x ∷ opened) listener b apart (inr i) t = by (is_turn listener x) refl (found-bracket opened listener b apart.1 i t)
  where
    absent : (xs : List Bracket) → In b xs → list_any (is_turn listener) xs ≡ false → ⊥
    absent [] j none = elim j [ ]
    absent (y ∷ ys) (inl is) none = let bad : true ≡ false = sym t ∙ ap (is_turn listener) is ∙ (or_parts (is_turn listener y) (list_any (is_turn listener) ys) none).0 in cc bad
    absent (y ∷ ys) (inr j) none = absent ys j (or_parts (is_turn listener y) (list_any (is_turn listener) ys) none).1

    by : (k : Bool) → is_turn listener x ≡ k → find (is_turn listener) opened ≡ Some b → cond k (Some x) (find (is_turn listener) opened) ≡ Some b
    by true at ih = absurd (absent opened i (apart.0 listener at))
    by false at ih = ih

-- the bracket of a turn's tag
tag-found : (opened : List Bracket) (listener : ListenerId) (tag : Tag) → option_map tag_in (find (is_turn listener) opened) ≡ Some tag → (cause : Cause) × (is_turn_of listener cause ≡ true) × Contains opened (bracket tag cause)
tag-found opened listener tag e = by (find (is_turn listener) opened) refl e
  where
    by : (o : Option Bracket) → find (is_turn listener) opened ≡ o → option_map tag_in o ≡ Some tag → (cause : Cause) × (is_turn_of listener cause ≡ true) × Contains opened (bracket tag cause)
    by None f q = absurd (cc q)
    by (Some b) f q =
        let r = found-in (is_turn listener) opened b f in
        let same : b.tag ≡ tag = cc q in
        (b.cause, r.1, In-contains opened (bracket tag b.cause) (subst (λ (k : Tag). In (bracket k b.cause) opened) same r.0))

-- ---- the busy ones

some-waits : (xs : List Seen) → nat_lt 0 (length (map waiting_of xs)) ≡ true → (s : Seen) × (more : List Seen) × (xs ≡ s ∷ more)
some-waits [] e = absurd (cc e)
some-waits (s ∷ more) e = (s, more, refl)

-- a live listener with an event that waits has a busy row where it is in a turn, and each busy row is of such a one
busy-only : (now : Moment) (l : Listening) → AreHandedFirst now.sights now.before → StandsFor now.sights now.before l → (turn : ℕ × Tag) → In turn l.turns → is_busy l.rows turn ≡ true → IsBusy now (busy_of turn)
busy-only now l first stands turn i busy = go (row_at held l.rows) refl busy
  where
    held : ListenerId
    held = record { 0 = turn.0 }

    one : (row : Row) → In row l.rows → id_of row ≡ turn.0 → has_waiting row ≡ true → IsBusy now (busy_of turn)
    one row there id waits =
        let r = row-added now.sights now.before l stands row there in
        let mine : r.0.listener.0 ≡ turn.0 = sym (ap (λ (x : Row). x.listener.listener.0) r.2) ∙ id in
        let same : r.0.listener ≡ record { 0 = turn.0 } = (λ j. record { 0 = mine j }) in
        let queue : row.waiting ≡ waiting_for (record { 0 = turn.0 }) now.sights now.before = ap (λ (x : Row). x.waiting) r.2 ∙ ap (λ k. waiting_for k now.sights now.before) same in
        let s = some-waits (drop (length (handed_in (record { 0 = turn.0 }) now.before)) (seen_by (record { 0 = turn.0 }) now.sights)) (ap (λ (ws : List Waiting). nat_lt 0 (length ws)) (sym queue) ∙ waits) in
        let f = find-some (is_listener (record { 0 = turn.0 })) (listeners now.before) r.0 r.1 (eq-eqb r.0.listener.0 turn.0 mine) in
        record {
          added = f.0;
          live = f.1;
          waits = (spot_of s.0, waits-next now.sights now.before first (record { 0 = turn.0 }) s.0 s.1 s.2);
          turn = tag-found (brackets now.before) (record { 0 = turn.0 }) turn.1 (sym (stands.turns turn.0) ∙ turn-found l.turns turn stands.rising i);
        }

    go : (o : Option Row) → row_at (record { 0 = turn.0 }) l.rows ≡ o → option_map_or has_waiting o false ≡ true → IsBusy now (busy_of turn)
    go None e q = absurd (cc q)
    go (Some row) e q = let f = found-in (is_row_of (record { 0 = turn.0 })) l.rows row e in one row f.0 (eqb-true (id_of row) turn.0 f.1) q

busy-every : (now : Moment) (l : Listening) → AreTurnsApart (brackets now.before) → StandsFor now.sights now.before l → (b : Busy) → IsBusy now b → In b (busy_in l)
busy-every now l apart stands b busy =
    In-mapped busy_of (filter (is_busy l.rows) l.turns) (b.listener.0, b.tag)
    (In-kept (is_busy l.rows) l.turns (b.listener.0, b.tag)
    (found-turn l.turns b.listener.0 b.tag (stands.turns b.listener.0 ∙ ap (option_map tag_in) (found-bracket (brackets now.before) b.listener (bracket b.tag busy.turn.0) apart (contains-In (brackets now.before) (bracket b.tag busy.turn.0) busy.turn.2) busy.turn.1)))
    (go (row_at b.listener l.rows) refl))
  where
    -- each row of the listener has what waits for it
    waits : (row : Row) → In row l.rows → id_of row ≡ b.listener.0 → has_waiting row ≡ true
    waits row there id =
        let r = row-added now.sights now.before l stands row there in
        let mine : r.0.listener.0 ≡ b.listener.0 = sym (ap (λ (x : Row). x.listener.listener.0) r.2) ∙ id in
        let same : r.0.listener ≡ b.listener = (λ j. record { 0 = mine j }) in
        let n = next-waits now.sights now.before b.listener busy.waits.0 busy.waits.1 in
        let queue : row.waiting ≡ waiting_of n.0 ∷ map waiting_of n.1 = ap (λ (x : Row). x.waiting) r.2 ∙ ap (λ k. waiting_for k now.sights now.before) same ∙ ap (map waiting_of) n.2 in
        ap (λ (ws : List Waiting). nat_lt 0 (length ws)) queue ∙ lt-ltb 0 (suc (length (map waiting_of n.1))) (omega arith)

    there : (row : Row) × (row_at b.listener l.rows ≡ Some row)
    there =
        let f = found-in (is_listener b.listener) (listeners now.before) busy.added busy.live in
        let r = added-row now.sights now.before l stands busy.added f.0 in
        let id : r.0.listener.listener.0 ≡ b.listener.0 = sym (ap (λ (x : Row). x.listener.listener.0) r.2) ∙ eqb-true busy.added.listener.0 b.listener.0 f.1 in
        find-some (is_row_of b.listener) l.rows r.0 r.1 (eq-eqb r.0.listener.listener.0 b.listener.0 id)

    go : (o : Option Row) → row_at b.listener l.rows ≡ o → option_map_or has_waiting (row_at b.listener l.rows) false ≡ true
    go None e = let bad : None ≡ Some there.0 = sym e ∙ there.1 in absurd (cc bad)
    go (Some row) e = let f = found-in (is_row_of b.listener) l.rows row e in ap (λ (o : Option Row). option_map_or has_waiting o false) e ∙ waits row f.0 (eqb-true (id_of row) b.listener.0 f.1)

-- ---- they rise

busy-above : (p : ℕ × Tag → Bool) (n : ℕ) (es : List (ℕ × Tag)) → RiseFrom n es → All (λ (b : Busy). n < b.listener.0) (map busy_of (filter p es))
busy-above p n [] h = All-nil (λ (b : Busy). n < b.listener.0)
busy-above p n (e ∷ es) h = all-in (λ (b : Busy). n < b.listener.0) (map busy_of (filter p (e ∷ es))) (λ b i. (let r = In-map busy_of (filter p (e ∷ es)) b i in let k = In-filter p (e ∷ es) r.0 r.1 in
    subst (λ (x : Busy). n < x.listener.0) (sym r.2) (key n (e ∷ es) h r.0 k.0)))
  where
    key : (m : ℕ) (fs : List (ℕ × Tag)) → RiseFrom m fs → (turn : ℕ × Tag) → In turn fs → m < turn.0
    key m [] r turn i = elim i [ ]
    key m (f ∷ fs) r turn (inl is) = let low = r.0 in let same : turn.0 ≡ f.0 = ap (λ (x : ℕ × Tag). x.0) is in omega (arith, low, same)
    key m (f ∷ fs) r turn (inr i) = let low = r.0 in let more = key f.0 fs r.1 turn i in omega (arith, low, more)

busy-rise : (p : ℕ × Tag → Bool) (es : List (ℕ × Tag)) → AreRising es → AllPairs (λ (a b : Busy). a.listener.0 < b.listener.0) (map busy_of (filter p es))
busy-rise p [] h = λ i j d less within. absurd (omega (arith, within))
busy-rise p (e ∷ es) h = by (p e) (busy-rise p es (tail es h))
  where
    tail : (rest : List (ℕ × Tag)) → RiseFrom e.0 rest → AreRising rest
    tail [] r = tt
    tail (f ∷ rest) r = r.1

    by : (k : Bool) → AllPairs (λ (a b : Busy). a.listener.0 < b.listener.0) (map busy_of (filter p es)) → AllPairs (λ (a b : Busy). a.listener.0 < b.listener.0) (map busy_of (cond k (e ∷ filter p es) (filter p es)))
    by true ih = AllPairs-cons (λ (a b : Busy). a.listener.0 < b.listener.0) (busy_of e) (map busy_of (filter p es)) (busy-above p e.0 es h) ih
    by false ih = ih

pub answers-nothing :
    (now : Moment) (l : Listening) → AreHandedFirst now.sights now.before → AreTurnsApart (brackets now.before) → StandsFor now.sights now.before l → All (λ row. is_open l.turns row ≡ false) l.rows →
    IsNothing now (answer.Nothing (busy_in l))
answers-nothing now l first apart stands none = record {
  none = λ any. is-nothing-ready now.sights now.before l stands none any.0 any.1 any.2;
  busy = busy_in l;
  is = refl;
  only = all-in (IsBusy now) (busy_in l) (λ b i. (let r = In-map busy_of (filter (is_busy l.rows) l.turns) b i in let k = In-filter (is_busy l.rows) l.turns r.0 r.1 in
      subst (IsBusy now) (sym r.2) (busy-only now l first stands r.0 k.0 k.1)));
  every = λ b busy. In-contains (busy_in l) b (busy-every now l apart stands b busy);
  rising = busy-rise (is_busy l.rows) l.turns stands.rising;
}
