-- After each call that may leave something to be handed, a run below the greatest depth comes to a Hand that finds nothing.
use Rattle.std.proofs.Common.{◌≡◌, ◌⊎◌, inl, inr, ◌<◌, ◌+◌, ℕ, List, [], ◌∷◌, ◌++◌, length, Bool, true, false, refl, sym, ◌∙◌, subst, arith}
use Rattle.std.specs.Prelude.{Option, None, Some, ◌||◌, ⊤}
use Rattle.std.proofs.lemmas.Bool.{eq-eqb}
use Rattle.osgi_base.specs.declared.ids.Tag.{Tag}
use Rattle.osgi_ops.specs.Brackets.{Bracket, bracket, Cause, handing, job, opens}
use Rattle.osgi_ops.specs.OwnBrackets.{is_end}
use Rattle.osgi_ops.specs.declared.op.Op.{Op}
use Rattle.osgi_ops.specs.declared.op.Op.TheVariants.{Hand, EndHand, EndJob}
use Rattle.osgi_ops.specs.declared.reply.Reply.{Reply}
use Rattle.osgi_runs.specs.Bound.{AreBound, ClosesTask, finds_nothing, push}
use Rattle.osgi_runs.specs.Turns.{is_end_of_hand, leaves_some}
use Rattle.osgi_session.specs.Plans.{End, Plan, stirs}
use Rattle.osgi_session.specs.Runs.{Call, call, command_of, has_failed, Task, planned, drained, taking, Sections, Reads, at_stop, asked, ran, calm, empty, handed, over, fails, goes, none, took}
use Rattle.osgi_runs.proofs.Balanced.{balanced, behind, behind-end}
use Rattle.osgi_runs.proofs.Closing.{closes-plan}
use Rattle.osgi_runs.proofs.Words.{no-word, put-word, then-word, word-of}

-- one of the calls is a Hand that finds nothing
abbrev pub Settles : List Call → Type 0
Settles [] = ⊥
Settles (c ∷ rest) = (finds_nothing c.op c.reply ≡ true) ⊎ Settles rest

-- each call that may leave something to be handed has such a Hand behind it
abbrev pub AreSettled : List Call → Type 0
AreSettled [] = ⊤
AreSettled (c ∷ rest) = (leaves_some c.op c.reply ≡ true → Settles rest) × AreSettled rest

pub Settles-right : (u w : List Call) → Settles w → Settles (u ++ w)
Settles-right [] w h = h
Settles-right (c ∷ u) w h = inr (Settles-right u w h)

pub Settles-left : (u w : List Call) → Settles u → Settles (u ++ w)
Settles-left [] w h = absurd h
Settles-left (c ∷ u) w (inl h) = inl h
Settles-left (c ∷ u) w (inr h) = inr (Settles-left u w h)

-- whatever stands in front of such calls, where one of these is a Hand that finds nothing
settled-front : (u w : List Call) → Settles w → AreSettled w → AreSettled (u ++ w)
settled-front [] w h k = k
settled-front (c ∷ u) w h k = ((λ m. Settles-right u w h), settled-front u w h k)

pub settled-append : (u w : List Call) → AreSettled u → AreSettled w → AreSettled (u ++ w)
settled-append [] w k l = l
settled-append (c ∷ u) w k l = ((λ m. Settles-left u w (k.0 m)), settled-append u w k.1 l)

-- a drain that takes place comes to such a Hand; so does a plan that ends a bracket, in the drain behind that end
abbrev Drains : Task → Type 0
Drains (drained true) = ⊤
Drains _ = ⊥

abbrev pub Result : Option Cause → Task → List Call → Type 0
Result None t w = AreSettled w × (Drains t → Settles w)
Result (Some cause) t w = AreSettled w × Settles w

-- there is room for one more bracket, and where jobs are taken for two
abbrev pub HasRoom : ℕ → Task → List Bracket → Type 0
HasRoom limit taking own = length own + 1 < limit
HasRoom limit t own = length own < limit

-- ---- which calls drains follow

some-drained : (o : Op) (reply : Reply) → is_end_of_hand o ≡ false → leaves_some o reply ≡ true → stirs o reply ≡ true
some-drained o reply n s = go (stirs o reply) (is_end_of_hand o) n s
  where
    go : (a b : Bool) → b ≡ false → (a || b) ≡ true → a ≡ true
    go true b n s = refl
    go false b n s = absurd (let c : true ≡ false = sym s ∙ n in cc c)

not-end-of-hand : (o : Op) → is_end o ≡ false → is_end_of_hand o ≡ false
not-end-of-hand (EndHand listener) e = absurd (cc e)
not-end-of-hand o e = refl

hand-leaves-none : (reply : Reply) → leaves_some Hand reply ≡ true → ⊥
hand-leaves-none reply e = cc e

drains-by : {script : Sections} (b : Bool) {end : End} {calls left : List Call} (d : Reads script (drained b) end calls left) → b ≡ true →
    Result None (drained b) (word-of d).word → Settles (word-of d).word
drains-by true d e r = r.1 tt
drains-by false d e r = absurd (cc e)

asked-none : (o : Option Cause) (w v : List Call) (asks : Op) (reply : Reply) (p : Plan) →
    is_end_of_hand asks ≡ false → (o ≡ None → AreSettled w × (stirs asks reply ≡ true → Settles w)) → Result o (planned p) v →
    AreSettled (call asks reply ∷ (w ++ v))
asked-none None w v asks reply p n d r =
    let a = d refl in ((λ m. Settles-left w v (a.1 (some-drained asks reply n m))), settled-append w v a.0 r.0)
asked-none (Some cause) w v asks reply p n d r = ((λ m. Settles-right w v r.1), settled-front w v r.1 r.0)

push-none : (tag : Tag) (o : Option Cause) (own : List Bracket) → o ≡ None → push tag o own ≡ own
push-none tag None own e = refl
push-none tag (Some cause) own e = absurd (cc e)

-- ---- runs

-- of each reading whose calls are bound so, below the greatest depth
pub settled : {script : Sections} (limit : ℕ) (tag : Tag) (after : List Bracket → Type 0) {t : Task} {end : End} {calls left : List Call} (x : Reads script t end calls left) (o : Option Cause) (own : List Bracket) →
    ClosesTask o t → AreBound limit tag after (push tag o own) calls → HasRoom limit t own → Result o t (word-of x).word
unfolding word-of no-word then-word put-word
settled limit tag after at_stop None own c h less = (tt, (λ m. absurd m))
settled limit tag after at_stop (Some cause) own c h less = absurd c
settled limit tag after (asked {asks = asks} {next = next} {reply = y} {calls = calls} d x) None own c h less =
    let b = push tag (opens asks y) own in
    let inside = behind limit tag after own asks y calls c.0 h in
    let r = settled limit tag after x (opens asks y) own (c.1 y) (balanced limit tag after d None b refl inside) less in
    let quiet : opens asks y ≡ None → AreSettled (word-of d).word × (stirs asks y ≡ true → Settles (word-of d).word) =
    λ n. (let k = settled limit tag after d None b refl inside (subst (λ l. length l < limit) (sym (push-none tag (opens asks y) own n)) less) in
    (k.0, λ e. drains-by (stirs asks y) d e k)) in
    (asked-none (opens asks y) (word-of d).word (word-of x).word asks y (next y) (not-end-of-hand asks c.0) quiet r, (λ m. absurd m))
settled limit tag after (asked {asks = asks} {next = next} {reply = y} {calls = calls} d x) (Some cause) own c h less =
    let e = behind-end limit tag after own cause asks y calls c.0 h in
    let k = c.1 y e.0 in
    let a = settled limit tag after d None own refl e.1 less in
    let s = drains-by (stirs asks y) d k.0 a in
    let r = settled limit tag after x None own k.1 (balanced limit tag after d None own refl e.1) less in
    let all = Settles-left (word-of d).word (word-of x).word s in
    (((λ m. all), settled-append (word-of d).word (word-of x).word a.0 r.0), inr all)
settled limit tag after (ran {inner = q} s x) None own c h less =
    let a = settled limit tag after s None own refl h less in
    let r = settled limit tag after x None own (c (has_failed q)) (balanced limit tag after s None own refl h) less in
    (settled-append (word-of s).word (word-of x).word a.0 r.0, (λ m. absurd m))
settled limit tag after (ran {inner = q} s x) (Some cause) own c h less =
    let r = settled limit tag after x (Some cause) own (c (has_failed q)) (balanced limit tag after s None (bracket tag cause ∷ own) refl h) less in
    (settled-front (word-of s).word (word-of x).word r.1 r.0, Settles-right (word-of s).word (word-of x).word r.1)
settled limit tag after calm None own c h less = (tt, (λ m. absurd m))
settled limit tag after calm (Some cause) own c h less = absurd (cc c)
settled limit tag after (empty {reply = y} e) None own c h less =
    (((λ m. absurd (hand-leaves-none y m)), tt), (λ m. elim (h.0.found refl e) [ inl s ↦ inl s | inr deep ↦ absurd (omega (arith, deep, less)) ]))
settled limit tag after (empty e) (Some cause) own c h less = absurd (cc c)
settled limit tag after (handed {listener = l} {kind = kd} {owner = w} {row = n} {name = m} {event = v} {reply = y} {mid = mid} s x) None own c h less =
    let k = behind-end limit tag after own (handing l) (EndHand l) y mid (eq-eqb l.0 l.0 refl) (balanced limit tag after s None (bracket tag (handing l) ∷ own) refl h.1) in
    let r = settled limit tag after x None own refl k.1 less in
    let tail = call (EndHand l) y ∷ (word-of x).word in
    let has = Settles-right (word-of s).word tail (inr (r.1 tt)) in
    (((λ q. has), settled-front (word-of s).word tail (inr (r.1 tt)) ((λ q. r.1 tt), r.0)), (λ q. inr has))
settled limit tag after (handed s x) (Some cause) own c h less = absurd (cc c)
settled limit tag after over None own c h less = (tt, (λ m. absurd m))
settled limit tag after over (Some cause) own c h less = absurd (cc c)
settled limit tag after (fails {owner = w} {bindings = g} {s = s} x f) None own c h less =
    ((settled limit tag after x None own (closes-plan w (command_of w g s)) h less).0, (λ m. absurd m))
settled limit tag after (fails x f) (Some cause) own c h less = absurd (cc c)
settled limit tag after (goes {owner = w} {bindings = g} {s = s} x f y) None own c h less =
    let p = closes-plan w (command_of w g s) in
    let a = settled limit tag after x None own p h less in
    let r = settled limit tag after y None own refl (balanced limit tag after x None own p h) less in
    (settled-append (word-of x).word (word-of y).word a.0 r.0, (λ m. absurd m))
settled limit tag after (goes x f y) (Some cause) own c h less = absurd (cc c)
settled limit tag after (none {reply = y} e) None own c h less = (((λ m. absurd (cc m)), tt), (λ m. absurd m))
settled limit tag after (none e) (Some cause) own c h less = absurd (cc c)
settled limit tag after (took {owner = w} {row = n} {name = m} {reply = y} {mid = mid} s x) None own c h less =
    let inside : AreBound limit tag after (bracket tag job ∷ own) _ = h.1 in
    let a = settled limit tag after s None (bracket tag job ∷ own) refl inside (omega (arith, less)) in
    let k = behind-end limit tag after own job EndJob y mid refl (balanced limit tag after s None (bracket tag job ∷ own) refl inside) in
    let r = settled limit tag after x None own refl k.1 less in
    let tail = call EndJob y ∷ (word-of x).word in
    (((λ q. absurd {A = Settles ((word-of s).word ++ tail)} (cc q)), settled-append (word-of s).word tail a.0 ((λ q. absurd {A = Settles (word-of x).word} (cc q)), r.0)), (λ q. absurd q))
settled limit tag after (took s x) (Some cause) own c h less = absurd (cc c)
