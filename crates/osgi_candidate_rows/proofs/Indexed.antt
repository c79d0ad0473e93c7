-- The rows of requirements by their keys, and the numbers of each row's first item.
use Prim.Native.Nat.{zero, suc}
use Rattle.std.proofs.Common.{◌≡◌, ℕ, ◌+◌, ◌<◌, ◌≤◌, List, [], ◌∷◌, ◌++◌, length, drop, get_or, refl, sym, ap, ◌∙◌, append_assoc, subst, MatchOption, arith}
use Rattle.std.specs.Prelude.{Bool, true, false, cond, Option, Some, None, ◌==◌, ◌&&◌}
use Rattle.std.specs.BTreeMap.{BTreeMap, Updates, get}
use Rattle.std.specs.Map.{lookup}
use Rattle.std.specs.Ordering.{is_eq, nat_cmp, ordering_then}
use Rattle.std.specs.declared.cmp.Ordering.{Ordering}
use Rattle.std.specs.declared.cmp.Ordering.TheVariants.{Less, Equal, Greater}
use Rattle.std.proofs.lemmas.Bool.{ne_eqb}
use Rattle.std.proofs.lemmas.Cmp.{by_ranked, ranked}
use Rattle.osgi_world.specs.Candidates.{same_place}
use Rattle.osgi_world.specs.declared.problem.Choice.{Choice}
use Rattle.osgi_world.specs.declared.wiring.ReqRef.{ReqRef}
use Rattle.osgi_candidate_rows.specs.Listed.{listed}
use Rattle.osgi_candidate_rows.specs.computed.Index.{AreFirstRows, IsIndexOf, key_for, numbers_from, requirement_at, row_at}
use Rattle.osgi_candidate_rows.specs.computed.Numbers.{first_number, row_of}
use Rattle.osgi_candidate_rows.specs.contracts.index.KeyOrd.TheImpl.{cmp-value}
use Rattle.osgi_candidate_rows.specs.declared.index.Index.{Index}
use Rattle.osgi_candidate_rows.specs.declared.index.Key.{Key}
use Rattle.osgi_candidate_rows.proofs.Numbers.{drop-done, drop-step, found-go, past-go, row-nth}

-- ---- keys that tie

nat-same : (x y : ℕ) → x ≡ y → (x == y) ≡ true
nat-same x y e = grind (arith, e)

tied : (x y : ℕ) → is_eq (nat_cmp x y) ≡ (x == y)
tied x y =
    by_ranked (x < y) (x ≡ y) (y < x) (nat_cmp x y) (ranked x y (nat_cmp x y) refl)
    (λ is h. ap is_eq is ∙ sym (ne_eqb x y (λ e. omega (arith, h, e))))
    (λ is h. ap is_eq is ∙ sym (nat-same x y h))
    (λ is h. ap is_eq is ∙ sym (ne_eqb x y (λ e. omega (arith, h, e))))

both-tied : (p q : Ordering) → is_eq (ordering_then p q) ≡ (is_eq p && is_eq q)
both-tied Less q = refl
both-tied Equal q = refl
both-tied Greater q = refl

-- two keys tie exactly where they are of the same requirement
tie : (a b : Key) → is_eq (cmp-value.it a b) ≡ same_place (requirement_at a) (requirement_at b)
tie a b =
    both-tied (nat_cmp a.owner.0 b.owner.0) (nat_cmp a.index b.index)
    ∙ ap (λ x. x && is_eq (nat_cmp a.index b.index)) (tied a.owner.0 b.owner.0)
    ∙ ap (λ x. (a.owner.0 == b.owner.0) && x) (tied a.index b.index)

-- ---- first rows

-- the row at a key is that of its requirement
pub at-key : (rows : BTreeMap Key ℕ) (q : ReqRef) → get cmp-value.it rows (key_for q) ≡ row_at rows q
at-key rows q = ap (λ (is : Key → Bool). lookup is rows.entries) (λ i j. tie (key_for q) j i)

more-go : (choices : List Choice) (q : ReqRef) (row : ℕ) (c : Choice) (rest : List Choice) (old : Option ℕ) (b : Bool) → same_place c.requirement q ≡ b → row < length choices → c.candidates ≡ row_of choices row →
    MatchOption old (listed rest q ≡ []) (λ r. (r < length choices) × (listed rest q ≡ row_of choices r)) →
    MatchOption (cond b (Some row) old) (listed (c ∷ rest) q ≡ []) (λ r. (r < length choices) × (listed (c ∷ rest) q ≡ row_of choices r))
more-go choices q row c rest old true e below is m = (below, found-go q c rest (same_place c.requirement q) e ∙ is)
more-go choices q row c rest None false e below is m = past-go q c rest (same_place c.requirement q) e ∙ m
more-go choices q row c rest (Some r) false e below is m = (m.0, past-go q c rest (same_place c.requirement q) e ∙ m.1)

-- one row more
pub rows-more : (choices : List Choice) (row : ℕ) (c : Choice) (old new : BTreeMap Key ℕ) → row < length choices → c ≡ get_or choices row c → AreFirstRows choices (drop (row + 1) choices) old → Updates cmp-value.it old new (key_for c.requirement) (Some row) →
    AreFirstRows choices (drop row choices) new
rows-more choices row c old new below is are updates q =
    let value : row_at new q ≡ cond (same_place c.requirement q) (Some row) (row_at old q)
    = sym (at-key new q) ∙ updates.0 (key_for q) ∙ ap (λ b. cond b (Some row) (get cmp-value.it old (key_for q))) (tie (key_for c.requirement) (key_for q))
    ∙ ap (λ o. cond (same_place c.requirement q) (Some row) o) (at-key old q) in
    let left : c ∷ drop (row + 1) choices ≡ drop row choices = ap (λ x. x ∷ drop (row + 1) choices) is ∙ sym (drop-step choices row c below) in
    let here : c.candidates ≡ row_of choices row = ap (λ (x : Choice). x.candidates) is ∙ sym (row-nth choices row c below) in
    subst (λ among. MatchOption (row_at new q) (listed among q ≡ []) (λ r. (r < length choices) × (listed among q ≡ row_of choices r))) left
    (subst (λ o. MatchOption o (listed (c ∷ drop (row + 1) choices) q ≡ []) (λ r. (r < length choices) × (listed (c ∷ drop (row + 1) choices) q ≡ row_of choices r))) (sym value)
    (more-go choices q row c (drop (row + 1) choices) (row_at old q) (same_place c.requirement q) refl below here (are q)))

-- no row yet
pub rows-none : (choices : List Choice) (rows : BTreeMap Key ℕ) (k : ℕ) → rows.entries ≡ [] → length choices ≤ k → AreFirstRows choices (drop k choices) rows
rows-none choices rows k empty all q =
    subst (λ o. MatchOption o (listed (drop k choices) q ≡ []) (λ r. (r < length choices) × (listed (drop k choices) q ≡ row_of choices r)))
    (sym (ap (λ es. lookup (λ k. same_place q (requirement_at k)) es) empty))
    (ap (λ among. listed among q) (drop-done choices k all))

-- the row of a requirement
pub row-of : (choices : List Choice) (index : Index) (q : ReqRef) (row : ℕ) → IsIndexOf choices index → Some row ≡ row_at index.rows q → (row < length choices) × (listed choices q ≡ row_of choices row)
row-of choices index q row is e = subst (λ o. MatchOption o (listed choices q ≡ []) (λ r. (r < length choices) × (listed choices q ≡ row_of choices r))) (sym e) (is.rows q)

-- ---- the numbers of first items

-- one row more
pub numbers-next : (choices : List Choice) (k number next : ℕ) (firsts more : List ℕ) (c : Choice) → k < length choices → c ≡ get_or choices k c → firsts ++ numbers_from number (drop k choices) ≡ numbers_from 0 choices →
    more ≡ firsts ++ number ∷ [] → next ≡ number + length c.candidates → more ++ numbers_from next (drop (k + 1) choices) ≡ numbers_from 0 choices
numbers-next choices k number next firsts more c below is so more-is next-is =
    let here : drop k choices ≡ c ∷ drop (k + 1) choices = drop-step choices k c below ∙ ap (λ x. x ∷ drop (k + 1) choices) (sym is) in
    ap (λ m. m ++ numbers_from next (drop (k + 1) choices)) more-is
    ∙ append_assoc firsts (number ∷ []) (numbers_from next (drop (k + 1) choices))
    ∙ ap (λ n. firsts ++ number ∷ numbers_from n (drop (k + 1) choices)) next-is
    ∙ ap (λ rest. firsts ++ numbers_from number rest) (sym here)
    ∙ so

pub numbers-all : (choices : List Choice) (k number : ℕ) (firsts : List ℕ) → length choices ≤ k → firsts ++ numbers_from number (drop k choices) ≡ numbers_from 0 choices → firsts ++ number ∷ [] ≡ numbers_from 0 choices
numbers-all choices k number firsts all so = ap (λ rest. firsts ++ numbers_from number rest) (sym (drop-done choices k all)) ∙ so

number-at : (number : ℕ) (choices : List Choice) (row d : ℕ) → row < length choices → get_or (numbers_from number choices) row d ≡ number + first_number choices row
number-at number [] row d h = absurd (let h' : row < 0 = h in omega (arith, h'))
number-at number (c ∷ choices) zero d h = omega arith
number-at number (c ∷ choices) (suc row) d h =
    let e : number + length c.candidates + first_number choices row ≡ number + (length c.candidates + first_number choices row) = omega arith in
    number-at (number + length c.candidates) choices row d (let h' : suc row < suc (length choices) = h in omega (arith, h')) ∙ e

-- the number of a row's first item
pub first-is : (choices : List Choice) (firsts : List ℕ) (row first : ℕ) → firsts ≡ numbers_from 0 choices → row < length choices → first ≡ get_or firsts row first → first ≡ first_number choices row
first-is choices firsts row first are below is = is ∙ ap (λ xs. get_or xs row first) are ∙ number-at 0 choices row first below ∙ (let e : 0 + first_number choices row ≡ first_number choices row = omega arith in e)
