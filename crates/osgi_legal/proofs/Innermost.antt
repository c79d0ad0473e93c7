-- The open brackets of one sort, before and after an entry: where one opens, where the innermost of a caller goes, and where what goes is of
-- another sort.
use Rattle.std.proofs.Common.{◌≡◌, ◌⊎◌, inl, inr, ℕ, List, [], ◌∷◌, Bool, true, false, refl, sym, ap, ◌∙◌, subst}
use Rattle.std.specs.Prelude.{◌==◌, cond, filter, Option, None, Some}
use Rattle.osgi_base.specs.declared.ids.Tag.{Tag}
use Rattle.osgi_ops.specs.Brackets.{Bracket, bracket, Cause, without_innermost}
use Rattle.osgi_ops.specs.OwnBrackets.{turned}
use Rattle.osgi_legal.proofs.Owned.{of}

-- there is one at most
abbrev pub AreFew : List Bracket → Type 0
AreFew l = (l ≡ []) ⊎ ((z : Bracket) × (l ≡ z ∷ []))

rest-few : (y : Bracket) (l : List Bracket) → AreFew (y ∷ l) → l ≡ []
rest-few y l (inl e) = absurd (cc e)
rest-few y l (inr (z, e)) = cc e

-- ---- the innermost bracket of a caller goes

-- where it is of the sort there is one
pub has-one : (p : Bracket → Bool) (caller : ℕ) (opened : List Bracket) (x : Bracket) (outer : List Bracket) → of caller opened ≡ x ∷ outer → p x ≡ true → filter p opened ≡ [] → ⊥
has-one p caller [] x outer e f g = cc e
has-one p caller (y ∷ rest) x outer e f g = go (y.tag.caller == caller) (p y) refl e g (has-one p caller rest x outer)
  where
    go : (k l : Bool) → p y ≡ l → cond k (y ∷ of caller rest) (of caller rest) ≡ x ∷ outer → cond l (y ∷ filter p rest) (filter p rest) ≡ [] → (of caller rest ≡ x ∷ outer → p x ≡ true → filter p rest ≡ [] → ⊥) → ⊥
    go k true q e g ih = cc g
    go true false q e g ih = let same : y ≡ x = cc e in let bad : true ≡ false = sym f ∙ sym (ap p same) ∙ q in cc bad
    go false false q e g ih = ih e f g

-- where there was one at most, none is left
pub drop-one : (p : Bracket → Bool) (caller : ℕ) (opened : List Bracket) (x : Bracket) (outer : List Bracket) → of caller opened ≡ x ∷ outer → p x ≡ true → AreFew (filter p opened) → filter p (without_innermost caller opened) ≡ []
drop-one p caller [] x outer e f few = absurd (cc e)
drop-one p caller (y ∷ rest) x outer e f few = go (y.tag.caller == caller) (p y) refl e few (drop-one p caller rest x outer)
  where
    go : (k l : Bool) → p y ≡ l → cond k (y ∷ of caller rest) (of caller rest) ≡ x ∷ outer → AreFew (cond l (y ∷ filter p rest) (filter p rest)) →
        (of caller rest ≡ x ∷ outer → p x ≡ true → AreFew (filter p rest) → filter p (without_innermost caller rest) ≡ []) → filter p (cond k rest (y ∷ without_innermost caller rest)) ≡ []
    go true true q e w ih = rest-few y _ w
    go true false q e w ih = absurd (let same : y ≡ x = cc e in let bad : true ≡ false = sym f ∙ sym (ap p same) ∙ q in cc bad)
    go false true q e w ih = absurd (has-one p caller rest x outer e f (rest-few y _ w))
    go false false q e w ih = ap (λ k. cond k (y ∷ filter p (without_innermost caller rest)) (filter p (without_innermost caller rest))) q ∙ ih e f w

-- where it is of another sort, they stay
keep-all : (p : Bracket → Bool) (caller : ℕ) (opened : List Bracket) (x : Bracket) (outer : List Bracket) → of caller opened ≡ x ∷ outer → p x ≡ false → filter p (without_innermost caller opened) ≡ filter p opened
keep-all p caller [] x outer e f = refl
keep-all p caller (y ∷ rest) x outer e f = go (y.tag.caller == caller) e (keep-all p caller rest x outer)
  where
    go : (k : Bool) → cond k (y ∷ of caller rest) (of caller rest) ≡ x ∷ outer → (of caller rest ≡ x ∷ outer → p x ≡ false → filter p (without_innermost caller rest) ≡ filter p rest) →
        filter p (cond k rest (y ∷ without_innermost caller rest)) ≡ cond (p y) (y ∷ filter p rest) (filter p rest)
    go true e ih =
        let same : y ≡ x = cc e in
        sym (ap (λ k. cond k (y ∷ filter p rest) (filter p rest)) (ap p same ∙ f))
    go false e ih = ap (λ l. cond (p y) (y ∷ l) l) (ih e f)

-- where none was, none is left
still-none : (p : Bracket → Bool) (caller : ℕ) (opened : List Bracket) → filter p opened ≡ [] → filter p (without_innermost caller opened) ≡ []
still-none p caller [] none = refl
still-none p caller (y ∷ rest) none = go (y.tag.caller == caller) (p y) none refl (still-none p caller rest)
  where
    go : (k l : Bool) → cond l (y ∷ filter p rest) (filter p rest) ≡ [] → p y ≡ l → (filter p rest ≡ [] → filter p (without_innermost caller rest) ≡ []) → filter p (cond k rest (y ∷ without_innermost caller rest)) ≡ []
    go k true e q ih = absurd (cc e)
    go true false e q ih = e
    go false false e q ih = ap (λ c. cond c (y ∷ filter p (without_innermost caller rest)) (filter p (without_innermost caller rest))) q ∙ ih e

still-few : (p : Bracket → Bool) (caller : ℕ) (opened : List Bracket) → AreFew (filter p opened) → AreFew (filter p (without_innermost caller opened))
still-few p caller [] few = few
still-few p caller (y ∷ rest) few = go (y.tag.caller == caller) (p y) few refl (still-few p caller rest)
  where
    go : (k l : Bool) → AreFew (cond l (y ∷ filter p rest) (filter p rest)) → p y ≡ l → (AreFew (filter p rest) → AreFew (filter p (without_innermost caller rest))) → AreFew (filter p (cond k rest (y ∷ without_innermost caller rest)))
    go true true w q ih = inl (rest-few y _ w)
    go true false w q ih = w
    go false true w q ih =
        inr (y, (λ i. cond (q i) (y ∷ still-none p caller rest (rest-few y _ w) i) (still-none p caller rest (rest-few y _ w) i)))
    go false false w q ih = subst AreFew (sym (ap (λ c. cond c (y ∷ filter p (without_innermost caller rest)) (filter p (without_innermost caller rest))) q)) (ih w)

-- ---- after an entry

-- one that opens one, where none was
pub opened-one : (p : Bracket → Bool) (tag : Tag) (o : Option Cause) (closed : Bool) (before : List Bracket) (cause : Cause) → o ≡ Some cause → p (bracket tag cause) ≡ true → filter p before ≡ [] →
    filter p (turned tag o closed before) ≡ bracket tag cause ∷ []
opened-one p tag None closed before cause e f g = absurd (cc e)
opened-one p tag (Some c) closed before cause e f g =
    let same : c ≡ cause = cc e in
    ap (λ k. cond k (bracket tag c ∷ filter p before) (filter p before)) (ap (λ x. p (bracket tag x)) same ∙ f) ∙ (λ i. bracket tag (same i) ∷ g i)

-- one that ends one, where there was one at most
pub closed-one : (p : Bracket → Bool) (tag : Tag) (o : Option Cause) (closed : Bool) (before : List Bracket) (x : Bracket) (outer : List Bracket) → o ≡ None → closed ≡ true →
    of tag.caller before ≡ x ∷ outer → p x ≡ true → AreFew (filter p before) → filter p (turned tag o closed before) ≡ []
closed-one p tag (Some c) closed before x outer n c1 e f few = absurd (cc n)
closed-one p tag None false before x outer n c1 e f few = absurd (cc c1)
closed-one p tag None true before x outer n c1 e f few = drop-one p tag.caller before x outer e f few

-- one that opens none and ends none
pub left-alone : (p : Bracket → Bool) (tag : Tag) (o : Option Cause) (closed : Bool) (before : List Bracket) → ((cause : Cause) → o ≡ Some cause → p (bracket tag cause) ≡ false) →
    (closed ≡ true → (x : Bracket) × (outer : List Bracket) × (of tag.caller before ≡ x ∷ outer) × (p x ≡ false)) → filter p (turned tag o closed before) ≡ filter p before
left-alone p tag (Some cause) closed before f g = ap (λ k. cond k (bracket tag cause ∷ filter p before) (filter p before)) (f cause refl)
left-alone p tag None false before f g = refl
left-alone p tag None true before f g = let r = g refl in keep-all p tag.caller before r.0 r.1 r.2 r.3

-- any, where one opens only if there was none
pub few-turned : (p : Bracket → Bool) (tag : Tag) (o : Option Cause) (closed : Bool) (before : List Bracket) → ((cause : Cause) → o ≡ Some cause → p (bracket tag cause) ≡ true → filter p before ≡ []) → AreFew (filter p before) →
    AreFew (filter p (turned tag o closed before))
few-turned p tag (Some cause) closed before free few = go (p (bracket tag cause)) refl
  where
    go : (k : Bool) → p (bracket tag cause) ≡ k → AreFew (filter p (bracket tag cause ∷ before))
    go true e = inr (bracket tag cause, opened-one p tag (Some cause) closed before cause refl e (free cause refl e))
    go false e = subst AreFew (sym (ap (λ k. cond k (bracket tag cause ∷ filter p before) (filter p before)) e)) few
few-turned p tag None true before free few = still-few p tag.caller before few
few-turned p tag None false before free few = few
