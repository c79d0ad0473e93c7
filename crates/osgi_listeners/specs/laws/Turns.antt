-- Turns: what an entry leaves of the brackets that hand, and what calls leave of the list of turns.
use Rattle.std.proofs.Common.{◌≡◌, ℕ, ◌<◌, ◌≤◌, List, [], ◌∷◌, ◌++◌, Bool, true, false, refl, sym, ap, ◌∙◌, subst, arith}
use Rattle.std.specs.Prelude.{◌==◌, ◌||◌, cond, find, Option, None, Some}
use Rattle.std.specs.BTreeMap.{insert_entry, is_at}
use Rattle.std.specs.List.{list_any}
use Rattle.std.specs.Map.{lookup, remove_entry}
use Rattle.std.specs.Option.{option_map}
use Rattle.std.specs.Ordering.{nat_cmp, match_ordering, MatchOrdering}
use Rattle.std.specs.declared.cmp.Ordering.{Ordering}
use Rattle.std.specs.declared.cmp.Ordering.TheVariants.{Less, Equal, Greater}
use Rattle.std.specs.Cmp.{ranks, unsigned_tied}
use Rattle.std.proofs.lemmas.Bool.{and_parts, eq-eqb, eqb-true, ne_eqb, or_left, or_right, or_parts}
use Rattle.osgi_base.specs.declared.ids.ListenerId.{ListenerId}
use Rattle.osgi_base.specs.declared.ids.Tag.{Tag}
use Rattle.osgi_ops.specs.Brackets.{Bracket, bracket, brackets, Cause, handing, starting, stopping, job, making, closes, ends, is_ended, opens, without_innermost}
use Rattle.osgi_ops.specs.OwnBrackets.{turned}
use Rattle.osgi_ops.specs.Listening.{is_turn_of}
use Rattle.osgi_ops.specs.declared.entry.Entry.{Entry}
use Rattle.osgi_ops.specs.declared.op.Op.{Op}
use Rattle.osgi_ops.specs.declared.op.Op.TheVariants.{EndHand}
use Rattle.osgi_ops.specs.laws.Brackets.{brackets-last, ends_turn, ends-no-turn}
use Rattle.osgi_listeners.specs.Rows.{AreRising, RiseFrom}
use Rattle.osgi_listeners.specs.Stands.{AreTurnsApart, is_turn, tag_in, turn_of}

-- ---- brackets

-- a bracket that is no turn of the listener goes
kept-without : (listener : ListenerId) (tag : Tag) (op : Op) → ((cause : Cause) → ends op cause ≡ true → is_turn_of listener cause ≡ false) → (opened : List Bracket) → closes tag op opened ≡ true →
    find (is_turn listener) (without_innermost tag.caller opened) ≡ find (is_turn listener) opened
kept-without listener tag op none [] e = refl
kept-without listener tag op none (b ∷ outer) e = go (b.tag.caller == tag.caller) e (kept-without listener tag op none outer)
  where
    go : (k : Bool) → cond k (is_ended tag op b) (closes tag op outer) ≡ true → (closes tag op outer ≡ true → find (is_turn listener) (without_innermost tag.caller outer) ≡ find (is_turn listener) outer) →
        find (is_turn listener) (cond k outer (b ∷ without_innermost tag.caller outer)) ≡ cond (is_turn listener b) (Some b) (find (is_turn listener) outer)
    go true q ih = sym (ap (λ t. cond t (Some b) (find (is_turn listener) outer)) (none b.cause (and_parts (b.tag.command == tag.command) (ends op b.cause) q).1))
    go false q ih = ap (λ o. cond (is_turn listener b) (Some b) o) (ih q)

turn-turned : (n : ℕ) (tag : Tag) (op : Op) (o : Option Cause) (closed : Bool) (opened : List Bracket) → ((cause : Cause) → o ≡ Some cause → is_turn_of (record { 0 = n }) cause ≡ false) →
    (closed ≡ true → ends_turn (record { 0 = n }) op ≡ false) → closes tag op opened ≡ closed → turn_of n (turned tag o closed opened) ≡ turn_of n opened
turn-turned n tag op (Some cause) closed opened out f e = ap (λ t. option_map tag_in (cond t (Some (bracket tag cause)) (find (is_turn (record { 0 = n })) opened))) (out cause refl)
turn-turned n tag op None true opened out f e = ap (option_map tag_in) (kept-without (record { 0 = n }) tag op (λ cause q. ends-no-turn (record { 0 = n }) op cause q (f refl)) opened e)
turn-turned n tag op None false opened out f e = refl

-- an entry that hands nothing and ends no turn of the listener leaves its turn
pub turn-stays : (n : ℕ) (history : List Entry) (e : Entry) → ((cause : Cause) → opens e.op e.reply ≡ Some cause → is_turn_of (record { 0 = n }) cause ≡ false) →
    (closes e.tag e.op (brackets history) ≡ true → ends_turn (record { 0 = n }) e.op ≡ false) → turn_of n (brackets (history ++ e ∷ [])) ≡ turn_of n (brackets history)
turn-stays n history e out f =
    ap (turn_of n) (brackets-last history e) ∙ turn-turned n e.tag e.op (opens e.op e.reply) (closes e.tag e.op (brackets history)) (brackets history) out f refl

pub opens-none : (n : ℕ) (o : Option Cause) → o ≡ None → (cause : Cause) → o ≡ Some cause → is_turn_of (record { 0 = n }) cause ≡ false
opens-none n o e cause q = let bad : None ≡ Some cause = sym e ∙ q in absurd (cc bad)

-- what an end of a hand ends is a turn of its listener, and of no other
ends-turn : (listener : ListenerId) (n : ℕ) (cause : Cause) → ends (EndHand listener) cause ≡ true → is_turn_of (record { 0 = n }) cause ≡ (listener.0 == n)
ends-turn listener n (handing h) e = ap (λ m. m == n) (sym (eqb-true listener.0 h.0 e))
ends-turn listener n (starting b) e = absurd (cc e)
ends-turn listener n (stopping b) e = absurd (cc e)
ends-turn listener n job e = absurd (cc e)
ends-turn listener n (making m) e = absurd (cc e)

find-none : {X : Type 0} (p : X → Bool) (xs : List X) → list_any p xs ≡ false → find p xs ≡ None
find-none p [] e = refl
find-none p (x ∷ xs) e = let r = or_parts (p x) (list_any p xs) e in ap (λ t. cond t (Some x) (find p xs)) r.0 ∙ find-none p xs r.1

closes-any : (listener : ListenerId) (tag : Tag) (opened : List Bracket) → closes tag (EndHand listener) opened ≡ true → list_any (is_turn listener) opened ≡ true
closes-any listener tag [] e = absurd (cc e)
closes-any listener tag (b ∷ outer) e = go (b.tag.caller == tag.caller) e (closes-any listener tag outer)
  where
    go : (k : Bool) → cond k (is_ended tag (EndHand listener) b) (closes tag (EndHand listener) outer) ≡ true → (closes tag (EndHand listener) outer ≡ true → list_any (is_turn listener) outer ≡ true) →
        (is_turn listener b || list_any (is_turn listener) outer) ≡ true
    go true q ih =
        or_left (is_turn listener b) _
        (ends-turn listener listener.0 b.cause (and_parts (b.tag.command == tag.command) (ends (EndHand listener) b.cause) q).1 ∙ eq-eqb listener.0 listener.0 refl)
    go false q ih = or_right (is_turn listener b) _ (ih q)

-- behind a bracket that is not the one ended there is a turn of the listener, so it is none
not-here : (listener : ListenerId) (tag : Tag) (b : Bracket) (outer : List Bracket) → AreTurnsApart (b ∷ outer) → closes tag (EndHand listener) outer ≡ true → (k : Bool) → is_turn listener b ≡ k → k ≡ false
not-here listener tag b outer apart q true e = let bad : true ≡ false = sym (closes-any listener tag outer q) ∙ apart.0 listener e in absurd (cc bad)
not-here listener tag b outer apart q false e = refl

-- the end of a hand ends the turn of its listener, and no other
pub turn-ended : (n : ℕ) (listener : ListenerId) (tag : Tag) (opened : List Bracket) → AreTurnsApart opened → closes tag (EndHand listener) opened ≡ true →
    find (is_turn (record { 0 = n })) (without_innermost tag.caller opened) ≡ cond (listener.0 == n) None (find (is_turn (record { 0 = n })) opened)
turn-ended n listener tag [] apart e = absurd (cc e)
turn-ended n listener tag (b ∷ outer) apart e = go (b.tag.caller == tag.caller) e (turn-ended n listener tag outer apart.1)
  where
    held : ListenerId
    held = record { 0 = n }

    p : Bracket → Bool
    p = is_turn held

    here : (k : Bool) → (listener.0 == n) ≡ k → p b ≡ k → find p outer ≡ cond k None (cond (p b) (Some b) (find p outer))
    here true q t = find-none p outer (apart.0 held t)
    here false q t = sym (ap (λ k. cond k (Some b) (find p outer)) t)

    there : (k : Bool) → (listener.0 == n) ≡ k → closes tag (EndHand listener) outer ≡ true → find p (without_innermost tag.caller outer) ≡ cond k None (find p outer) →
        cond (p b) (Some b) (find p (without_innermost tag.caller outer)) ≡ cond k None (cond (p b) (Some b) (find p outer))
    there true q c ih =
        let same : listener ≡ held = (let is : listener.0 ≡ n = eqb-true listener.0 n q in λ i. record { 0 = is i }) in
        ap (λ k. cond k (Some b) (find p (without_innermost tag.caller outer))) (not-here held tag b outer apart (subst (λ h. closes tag (EndHand h) outer ≡ true) same c) (p b) refl) ∙ ih
    there false q c ih = ap (λ o. cond (p b) (Some b) o) ih

    go : (k : Bool) → cond k (is_ended tag (EndHand listener) b) (closes tag (EndHand listener) outer) ≡ true →
        (closes tag (EndHand listener) outer ≡ true → find p (without_innermost tag.caller outer) ≡ cond (listener.0 == n) None (find p outer)) →
        find p (cond k outer (b ∷ without_innermost tag.caller outer)) ≡ cond (listener.0 == n) None (cond (p b) (Some b) (find p outer))
    go true q ih = here (listener.0 == n) refl (ends-turn listener n b.cause (and_parts (b.tag.command == tag.command) (ends (EndHand listener) b.cause) q).1)
    go false q ih = there (listener.0 == n) refl q (ih q)

-- the turn of the listener is of the tag that may end it
pub own-turn : (listener : ListenerId) (tag : Tag) (opened : List Bracket) → AreTurnsApart opened → closes tag (EndHand listener) opened ≡ true → turn_of listener.0 opened ≡ Some tag
own-turn listener tag [] apart e = absurd (cc e)
own-turn listener tag (b ∷ outer) apart e = go (b.tag.caller == tag.caller) refl e (own-turn listener tag outer apart.1)
  where
    rest : Option Bracket
    rest = find (is_turn listener) outer

    go : (k : Bool) → (b.tag.caller == tag.caller) ≡ k → cond k (is_ended tag (EndHand listener) b) (closes tag (EndHand listener) outer) ≡ true →
        (closes tag (EndHand listener) outer ≡ true → option_map tag_in rest ≡ Some tag) → option_map tag_in (cond (is_turn listener b) (Some b) rest) ≡ Some tag
    go true same q ih =
        let r = and_parts (b.tag.command == tag.command) (ends (EndHand listener) b.cause) q in
        let caller : b.tag.caller ≡ tag.caller = eqb-true b.tag.caller tag.caller same in
        let command : b.tag.command ≡ tag.command = eqb-true b.tag.command tag.command r.0 in
        ap (λ k. option_map tag_in (cond k (Some b) rest)) (ends-turn listener listener.0 b.cause r.1 ∙ eq-eqb listener.0 listener.0 refl)
        ∙ (λ i. Some (record { caller = caller i; command = command i }))
    go false same q ih = ap (λ k. option_map tag_in (cond k (Some b) rest)) (not-here listener tag b outer apart q (is_turn listener b) refl) ∙ ih q

-- ---- the list of turns

pub at-is : (n k : ℕ) → is_at (nat_cmp n) k ≡ (n == k)
at-is n k = unsigned_tied n k

at-same : (n k : ℕ) → is_at (nat_cmp n) k ≡ true → n ≡ k
at-same n k e = eqb-true n k (sym (at-is n k) ∙ e)

at-apart : (n k : ℕ) → (n ≡ k → ⊥) → is_at (nat_cmp n) k ≡ false
at-apart n k d = at-is n k ∙ ne_eqb n k d

module _ (n k : ℕ) (v : Tag) where
  abbrev found : List (ℕ × Tag) → Option Tag
  found es = lookup (is_at (nat_cmp n)) es

  pub lookup-inserted : (es : List (ℕ × Tag)) → lookup (is_at (nat_cmp n)) (insert_entry nat_cmp es k v) ≡ cond (is_at (nat_cmp n) k) (Some v) (lookup (is_at (nat_cmp n)) es)
  lookup-inserted [] = refl
  lookup-inserted (e ∷ es) = by (nat_cmp k e.0) (ranks k e.0) (lookup-inserted es)
    where
      other : (a b : Bool) → is_at (nat_cmp n) k ≡ a → is_at (nat_cmp n) e.0 ≡ b → e.0 < k → cond b (Some e.1) (cond a (Some v) (found es)) ≡ cond a (Some v) (cond b (Some e.1) (found es))
      other true true p q less = let x = at-same n k p in let y = at-same n e.0 q in absurd (omega (arith, x, y, less))
      other true false p q less = refl
      other false true p q less = refl
      other false false p q less = refl

      same : (a : Bool) → cond a (Some v) (found es) ≡ cond a (Some v) (cond a (Some e.1) (found es))
      same true = refl
      same false = refl

      by : (r : Ordering) → MatchOrdering r (k < e.0) (k ≡ e.0) (e.0 < k) → found (insert_entry nat_cmp es k v) ≡ cond (is_at (nat_cmp n) k) (Some v) (found es) →
          found (match_ordering r ((k, v) ∷ e ∷ es) ((e.0, v) ∷ es) (e ∷ insert_entry nat_cmp es k v)) ≡ cond (is_at (nat_cmp n) k) (Some v) (cond (is_at (nat_cmp n) e.0) (Some e.1) (found es))
      by Less less ih = refl
      by Equal is ih = same (is_at (nat_cmp n) e.0) ∙ ap (λ m. cond (is_at (nat_cmp n) m) (Some v) (cond (is_at (nat_cmp n) e.0) (Some e.1) (found es))) (sym is)
      by Greater less ih = ap (λ o. cond (is_at (nat_cmp n) e.0) (Some e.1) o) ih ∙ other (is_at (nat_cmp n) k) (is_at (nat_cmp n) e.0) refl refl less

rise-inserted : (n k : ℕ) (v : Tag) (es : List (ℕ × Tag)) → n < k → RiseFrom n es → RiseFrom n (insert_entry nat_cmp es k v)
rise-inserted n k v [] less h = (less, tt)
rise-inserted n k v (e ∷ es) less h = by (nat_cmp k e.0) (ranks k e.0) (λ m. rise-inserted e.0 k v es m h.1)
  where
    by : (r : Ordering) → MatchOrdering r (k < e.0) (k ≡ e.0) (e.0 < k) → (e.0 < k → RiseFrom e.0 (insert_entry nat_cmp es k v)) →
        RiseFrom n (match_ordering r ((k, v) ∷ e ∷ es) ((e.0, v) ∷ es) (e ∷ insert_entry nat_cmp es k v))
    by Less m ih = (less, (m, h.1))
    by Equal m ih = (h.0, h.1)
    by Greater m ih = (h.0, ih m)

pub rising-inserted : (k : ℕ) (v : Tag) (es : List (ℕ × Tag)) → AreRising es → AreRising (insert_entry nat_cmp es k v)
rising-inserted k v [] h = tt
rising-inserted k v (e ∷ es) h = by (nat_cmp k e.0) (ranks k e.0)
  where
    by : (r : Ordering) → MatchOrdering r (k < e.0) (k ≡ e.0) (e.0 < k) → AreRising (match_ordering r ((k, v) ∷ e ∷ es) ((e.0, v) ∷ es) (e ∷ insert_entry nat_cmp es k v))
    by Less m = (m, h)
    by Equal m = h
    by Greater m = rise-inserted e.0 k v es m h

rise-lower : (m n : ℕ) (es : List (ℕ × Tag)) → m < n → RiseFrom n es → RiseFrom m es
rise-lower m n [] less h = tt
rise-lower m n (e ∷ es) less h = let a = h.0 in (omega (arith, less, a), h.1)

rise-removed : (n : ℕ) (test : ℕ → Bool) (es : List (ℕ × Tag)) → RiseFrom n es → RiseFrom n (remove_entry test es)
rise-removed n test [] h = tt
rise-removed n test (e ∷ es) h = by (test e.0) (rise-removed e.0 test es h.1)
  where
    by : (b : Bool) → RiseFrom e.0 (remove_entry test es) → RiseFrom n (cond b es (e ∷ remove_entry test es))
    by true ih = rise-lower n e.0 es h.0 h.1
    by false ih = (h.0, ih)

pub rising-removed : (test : ℕ → Bool) (es : List (ℕ × Tag)) → AreRising es → AreRising (remove_entry test es)
rising-removed test [] h = tt
rising-removed test (e ∷ es) h = by (test e.0) es h
  where
    by : (b : Bool) (rest : List (ℕ × Tag)) → RiseFrom e.0 rest → AreRising (cond b rest (e ∷ remove_entry test rest))
    by true [] r = tt
    by true (f ∷ rest) r = r.1
    by false rest r = rise-removed e.0 test rest r

pub none-below : (n m : ℕ) (es : List (ℕ × Tag)) → n ≤ m → RiseFrom m es → lookup (is_at (nat_cmp n)) es ≡ None
none-below n m [] low h = refl
none-below n m (e ∷ es) low h =
    let a = h.0 in
    ap (λ b. cond b (Some e.1) (lookup (is_at (nat_cmp n)) es)) (at-apart n e.0 (λ same. omega (arith, same, a, low)))
    ∙ none-below n e.0 es (omega (arith, a, low)) h.1

-- what is left of the turns without one
pub lookup-removed : (n k : ℕ) (es : List (ℕ × Tag)) → AreRising es → lookup (is_at (nat_cmp n)) (remove_entry (is_at (nat_cmp k)) es) ≡ cond (k == n) None (lookup (is_at (nat_cmp n)) es)
lookup-removed n k [] h = by (k == n)
  where
    nothing : Option Tag
    nothing = None

    by : (b : Bool) → nothing ≡ cond b nothing nothing
    by true = refl
    by false = refl
lookup-removed n k (e ∷ es) h = by (is_at (nat_cmp k) e.0) (k == n) refl refl (lookup-removed n k es (tail es h))
  where
    tail : (rest : List (ℕ × Tag)) → RiseFrom e.0 rest → AreRising rest
    tail [] r = tt
    tail (f ∷ rest) r = r.1

    by : (a b : Bool) → is_at (nat_cmp k) e.0 ≡ a → (k == n) ≡ b → lookup (is_at (nat_cmp n)) (remove_entry (is_at (nat_cmp k)) es) ≡ cond (k == n) None (lookup (is_at (nat_cmp n)) es) →
        lookup (is_at (nat_cmp n)) (cond a es (e ∷ remove_entry (is_at (nat_cmp k)) es)) ≡ cond b None (cond (is_at (nat_cmp n) e.0) (Some e.1) (lookup (is_at (nat_cmp n)) es))
    by true true p q ih =
        let x = at-same k e.0 p in
        let y = eqb-true k n q in
        none-below n e.0 es (omega (arith, x, y)) h
    by true false p q ih =
        let x = at-same k e.0 p in
        sym (ap (λ t. cond t (Some e.1) (lookup (is_at (nat_cmp n)) es)) (at-apart n e.0 (λ s. (let y : (k == n) ≡ true = eq-eqb k n (x ∙ sym s) in let bad : true ≡ false = sym y ∙ q in cc bad))))
    by false true p q ih =
        let y = eqb-true k n q in
        ap (λ t. cond t (Some e.1) (lookup (is_at (nat_cmp n)) (remove_entry (is_at (nat_cmp k)) es))) (subst (λ m. is_at (nat_cmp m) e.0 ≡ false) y p)
        ∙ ih ∙ ap (λ t. cond t None (lookup (is_at (nat_cmp n)) es)) q
    by false false p q ih = ap (λ o. cond (is_at (nat_cmp n) e.0) (Some e.1) o) (ih ∙ ap (λ t. cond t None (lookup (is_at (nat_cmp n)) es)) q)
