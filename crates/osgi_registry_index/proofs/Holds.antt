-- What the index by class holds after a change at one class.
use Rattle.std.proofs.Common.{◌≡◌, ℕ, List, [], ◌∷◌, ◌++◌, ap, sym, ◌∙◌, refl, length, take, drop, arith, subst}
use Rattle.std.specs.Prelude.{Bool, true, false, cond, ◌||◌, ◌&&◌, not, Option}
use Rattle.std.specs.BTreeMap.{get, is_at}
use Rattle.std.specs.BTreeSet.{BTreeSet}
use Rattle.std.specs.List.{list_any}
use Rattle.std.specs.Cmp.Lexicographic.{slice_cmp}
use Rattle.std.specs.Option.{option_map_or}
use Rattle.std.specs.Ordering.{nat_cmp}
use Rattle.std.specs.Str.{bytes_eq}
use Rattle.std.proofs.lemmas.Map.Text.{is_eq-slice_cmp}
use Rattle.std.proofs.lemmas.Slice.Eq.{bytes_eq-Decides}
use Rattle.osgi_registry_index.specs.declared.place.Place.{Place}
use Rattle.std.proofs.lemmas.Bool.{and_parts, or_left}
use Rattle.std.proofs.lemmas.List.{take-append-drop, take_all}
use Rattle.std.proofs.lemmas.List.Folds.{list_any-append}
use Rattle.osgi_registry_index.specs.Places.{Classes, holds, HoldsSame, IsFresh, Moves, place_cmp, Puts, same_place, StandsUnder}
use Rattle.osgi_registry_index.proofs.Exact.{place_exact}
use Rattle.osgi_base.specs.Texts.{is_among}

abbrev pub at : Classes → List ℕ → Option (BTreeSet Place)
at classes class = get (slice_cmp nat_cmp) classes class

-- the place is one of these, if there are any
abbrev pub among : Option (BTreeSet Place) → Place → Bool
among places place = list_any (is_at (place_cmp place)) (option_map_or (λ (places : BTreeSet Place). places.keys) places [])

-- the class has these places afterwards, and each other class has those that it had
abbrev pub PutsAt : Classes → Classes → List ℕ → Option (BTreeSet Place) → Type 0
PutsAt old new class after = (q : List ℕ) → at new q ≡ cond (is_at (slice_cmp nat_cmp class) q) after (at old q)

here : (old new : Classes) (class c : List ℕ) (after : Option (BTreeSet Place)) → PutsAt old new class after → bytes_eq class c ≡ true → at new c ≡ after
here old new class c after puts same = puts c ∙ ap (λ b. cond b after (at old c)) (is_eq-slice_cmp class c ∙ same)

elsewhere : (old new : Classes) (class c : List ℕ) (after : Option (BTreeSet Place)) → PutsAt old new class after → bytes_eq class c ≡ false → at new c ≡ at old c
elsewhere old new class c after puts other = puts c ∙ ap (λ b. cond b after (at old c)) (is_eq-slice_cmp class c ∙ other)

old_here : (old : Classes) (class c : List ℕ) (before : Option (BTreeSet Place)) → at old class ≡ before → bytes_eq class c ≡ true → at old c ≡ before
old_here old class c before was same = ap (at old) (sym ((bytes_eq-Decides class c).0 same)) ∙ was

put_by : (old new : Classes) (class c : List ℕ) (place p : Place) (put : Bool) (before after : Option (BTreeSet Place)) (test : Bool) → bytes_eq class c ≡ test → at old class ≡ before → PutsAt old new class after →
    among after p ≡ cond (same_place place p) put (among before p) → holds new c p ≡ cond ((test || false) && same_place place p) put (holds old c p)
put_by old new class c place p put before after true same was puts is =
    ap (λ o. among o p) (here old new class c after puts same) ∙ is ∙ ap (λ o. cond (same_place place p) put (among o p)) (sym (old_here old class c before was same))
put_by old new class c place p put before after false other was puts is = ap (λ o. among o p) (elsewhere old new class c after puts other)

-- the place comes to stand under the class, or not to
pub put_at : (old new : Classes) (class : List ℕ) (place : Place) (put : Bool) (before after : Option (BTreeSet Place)) → at old class ≡ before → PutsAt old new class after →
    ((p : Place) → among after p ≡ cond (same_place place p) put (among before p)) → Puts old new (class ∷ []) place put
put_at old new class place put before after was puts is = λ c p. put_by old new class c place p put before after (bytes_eq class c) refl was puts (is p)

same_by : (old new : Classes) (class c : List ℕ) (p : Place) (before after : Option (BTreeSet Place)) (test : Bool) → bytes_eq class c ≡ test → at old class ≡ before → PutsAt old new class after → among after p ≡ among before p →
    holds new c p ≡ holds old c p
same_by old new class c p before after true same was puts is =
    ap (λ o. among o p) (here old new class c after puts same) ∙ is ∙ ap (λ o. among o p) (sym (old_here old class c before was same))
same_by old new class c p before after false other was puts is = ap (λ o. among o p) (elsewhere old new class c after puts other)

-- or keeps those that it had
pub same_at : (old new : Classes) (class : List ℕ) (before after : Option (BTreeSet Place)) → at old class ≡ before → PutsAt old new class after → ((p : Place) → among after p ≡ among before p) → HoldsSame old new
same_at old new class before after was puts is = λ c p. same_by old new class c p before after (bytes_eq class c) refl was puts (is p)

-- two changes at one class
puts_by : (class q : List ℕ) (first second after before : Option (BTreeSet Place)) (test : Bool) → second ≡ cond test after first → (first' : Option (BTreeSet Place)) → first ≡ cond test first' before → second ≡ cond test after before
puts_by class q first second after before true then first' was = then
puts_by class q first second after before false then first' was = then ∙ was

pub puts_twice : (old mid new : Classes) (class : List ℕ) (between after : Option (BTreeSet Place)) → PutsAt old mid class between → PutsAt mid new class after → PutsAt old new class after
puts_twice old mid new class between after first second = λ q. puts_by class q (at mid q) (at new q) after (at old q) (is_at (slice_cmp nat_cmp class) q) (second q) between (first q)

pub none_left : (places : List Place) → length places ≡ 0 → places ≡ []
none_left [] none = refl
none_left (p ∷ rest) none = absurd (omega (arith, none))

-- ---- a place added under some of the classes and taken out under all

restored_by : (all some same old : Bool) → (some ≡ true → all ≡ true) → (same ≡ true → old ≡ false) → cond (all && same) false (cond (some && same) true old) ≡ old
restored_by true true true old sub fresh = sym (fresh refl)
restored_by true true false old sub fresh = refl
restored_by true false true old sub fresh = sym (fresh refl)
restored_by true false false old sub fresh = refl
restored_by false true same old sub fresh = absurd (cc (sub refl))
restored_by false false true old sub fresh = refl
restored_by false false false old sub fresh = refl

among_front : (front rest : List (List ℕ)) (c : List ℕ) → is_among front c ≡ true → is_among (front ++ rest) c ≡ true
among_front front rest c some = list_any-append (λ x. bytes_eq x c) front rest ∙ or_left (is_among front c) (is_among rest c) some

among_taken : (classes : List (List ℕ)) (i : ℕ) (c : List ℕ) → is_among (take i classes) c ≡ true → is_among classes c ≡ true
among_taken classes i c some = rw (take-append-drop i classes) at (among_front (take i classes) (drop i classes) c some)

-- leaves what was held
pub restored : (old mid new : Classes) (classes : List (List ℕ)) (i : ℕ) (place : Place) → IsFresh old place → Puts old mid (take i classes) place true → Puts mid new classes place false → HoldsSame old new
restored old mid new classes i place fresh added taken = λ c p.
    taken c p ∙ ap (λ b. cond (is_among classes c && same_place place p) false b) (added c p)
    ∙ restored_by (is_among classes c) (is_among (take i classes) c) (same_place place p) (holds old c p) (among_taken classes i c) (fresh c p)

-- and so does a place added under all of them and taken out again
pub undone : (old mid new : Classes) (classes : List (List ℕ)) (place : Place) → IsFresh old place → Puts old mid classes place true → Puts mid new classes place false → HoldsSame old new
undone old mid new classes place fresh added taken =
    restored old mid new classes (length classes) place fresh (subst (λ l. Puts old mid l place true) (sym (take_all (length classes) classes (omega arith))) added) taken

-- what is held alike is put to alike
pub put_same : (old mid new : Classes) (classes : List (List ℕ)) (place : Place) (put : Bool) → Puts old mid classes place put → HoldsSame mid new → Puts old new classes place put
put_same old mid new classes place put puts same = λ c p. same c p ∙ puts c p

-- ---- a place moved

moves_by : (some to from old : Bool) → (to ≡ true → from ≡ false) → cond (some && from) false (cond (some && to) true old) ≡ cond (some && to) true (cond (some && from) false old)
moves_by true true true old apart = absurd (cc (apart refl))
moves_by true true false old apart = refl
moves_by true false true old apart = refl
moves_by true false false old apart = refl
moves_by false to from old apart = refl

-- one place added, and then another taken out
pub moves_elsewhere : (old mid new : Classes) (classes : List (List ℕ)) (from to : Place) → ((p : Place) → same_place to p ≡ true → same_place from p ≡ false) → Puts old mid classes to true → Puts mid new classes from false → Moves old new classes from to
moves_elsewhere old mid new classes from to apart added taken = λ c p.
    taken c p ∙ ap (λ b. cond (is_among classes c && same_place from p) false b) (added c p)
    ∙ moves_by (is_among classes c) (same_place to p) (same_place from p) (holds old c p) (apart p)

stays_by : (some here held : Bool) → ((some && here) ≡ true → held ≡ true) → held ≡ cond (some && here) true (cond (some && here) false held)
stays_by true true held stands = stands refl
stays_by true false held stands = refl
stays_by false here held stands = refl

-- a place in its own stead
pub moves_nowhere : (old : Classes) (classes : List (List ℕ)) (from to : Place) → StandsUnder old classes from → same_place from to ≡ true → Moves old old classes from to
moves_nowhere old classes from to stands same =
    subst (λ q. Moves old old classes from q) (place_exact from to same)
    (λ c p. stays_by (is_among classes c) (same_place from p) (holds old c p) (λ both. let parts = and_parts (is_among classes c) (same_place from p) both in stands c p parts.0 parts.1))

-- ---- which places are held

some_put : (there old : Bool) → cond there true old ≡ (there || old)
some_put true old = refl
some_put false old = refl

none_put : (there old : Bool) → cond there false old ≡ (not there && old)
none_put true old = refl
none_put false old = refl

pub added_held : (old new : Classes) (classes : List (List ℕ)) (place : Place) → Puts old new classes place true → (c : List ℕ) (p : Place) → holds new c p ≡ ((is_among classes c && same_place place p) || holds old c p)
added_held old new classes place put = λ c p. put c p ∙ some_put (is_among classes c && same_place place p) (holds old c p)

pub taken_held : (old new : Classes) (classes : List (List ℕ)) (place : Place) → Puts old new classes place false → (c : List ℕ) (p : Place) → holds new c p ≡ (not (is_among classes c && same_place place p) && holds old c p)
taken_held old new classes place put = λ c p. put c p ∙ none_put (is_among classes c && same_place place p) (holds old c p)

pub moved_held : (old new : Classes) (classes : List (List ℕ)) (from to : Place) → Moves old new classes from to → (c : List ℕ) (p : Place) →
    holds new c p ≡ ((is_among classes c && same_place to p) || (not (is_among classes c && same_place from p) && holds old c p))
moved_held old new classes from to moved = λ c p.
    moved c p ∙ some_put (is_among classes c && same_place to p) (cond (is_among classes c && same_place from p) false (holds old c p))
    ∙ ap (λ b. (is_among classes c && same_place to p) || b) (none_put (is_among classes c && same_place from p) (holds old c p))
