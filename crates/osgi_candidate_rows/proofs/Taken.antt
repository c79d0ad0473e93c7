-- Items that are taken out, and the candidates that they are.
use Prim.Native.Nat.{zero, suc}
use Rattle.std.proofs.Common.{◌≡◌, ℕ, ◌+◌, ◌<◌, ◌≤◌, max, ◌⊎◌, ◌||◌, ◌==◌, Bool, true, false, not, cond, inl, inr, IsTrue, List, [], ◌∷◌, length, map, drop, Some, None, refl, sym, ap, ◌∙◌, subst, arith}
use Rattle.std.specs.Prelude.{filter}
use Rattle.std.proofs.lemmas.List.{length-drop, length-map, map-append}
use Rattle.osgi_base.specs.declared.ids.RevisionId.{RevisionId}
use Rattle.osgi_links.specs.Held.{Held, count_up, has, linked}
use Rattle.osgi_world.specs.Lists.{In, item_at}
use Rattle.osgi_world.specs.declared.problem.Choice.{Choice}
use Rattle.osgi_world.specs.declared.wiring.CapRef.{CapRef}
use Rattle.osgi_world.specs.declared.wiring.ReqRef.{ReqRef}
use Rattle.osgi_candidate_rows.specs.Listed.{AreOutBetween, TakesOut, listed}
use Rattle.osgi_candidate_rows.specs.computed.Numbers.{AreGone, HoldsPlaces, IsItemOf, IsNextPlace, IsOneOut, Removes, candidate, first_number, row_of}
use Rattle.osgi_candidate_rows.proofs.Numbers.{at-within, candidate-at}
use Rattle.osgi_candidate_rows.proofs.Going.{row-items}
use Rattle.osgi_candidate_rows.proofs.Noted.{has-head, has-tail}

-- ---- lists

has-go : (x y : ℕ) (ys : List ℕ) (b : Bool) → (x == y) ≡ b → (b || has ys x) ≡ true → (has ys x ≡ true → In x ys) → In x (y ∷ ys)
has-go x y ys true e t rest = inl (grind (arith, e))
has-go x y ys false e t rest = inr (rest t)

pub has-in : (xs : List ℕ) (x : ℕ) → has xs x ≡ true → In x xs
has-in [] x t = cc
has-in (y ∷ ys) x t = has-go x y ys (x == y) refl t (has-in ys x)

pub in-map : {X Y : Type 0} (f : X → Y) (xs : List X) (x : X) → In x xs → In (f x) (map f xs)
in-map f [] x i = elim i [ ]
in-map f (y ∷ ys) x (inl e) = inl (ap f e)
in-map f (y ∷ ys) x (inr i) = inr (in-map f ys x i)

pub map-in : {X Y : Type 0} (f : X → Y) (xs : List X) (y : Y) → In y (map f xs) → (x : X) × In x xs × (y ≡ f x)
map-in f [] y i = elim i [ ]
map-in f (x ∷ xs) y (inl e) = (x, inl refl, e)
map-in f (x ∷ xs) y (inr i) = let r = map-in f xs y i in (r.0, inr r.1, r.2)

pub map-drop : {X Y : Type 0} (f : X → Y) (n : ℕ) (xs : List X) → map f (drop n xs) ≡ drop n (map f xs)
map-drop f zero xs = refl
map-drop f (suc n) [] = refl
map-drop f (suc n) (x ∷ xs) = map-drop f n xs

-- ---- one item

there-go : (p : ℕ → Bool) (a x : ℕ) (tail : List ℕ) (b : Bool) → p a ≡ b → p x ≡ true → (a ≡ x) ⊎ (a + 1 ≤ x) → (a + 1 ≤ x → has tail x ≡ true) → has (cond b (a ∷ tail) tail) x ≡ true
there-go p a x tail true e t (inl s) rest = has-head a x tail s
there-go p a x tail true e t (inr h) rest = has-tail a x tail (rest h)
there-go p a x tail false e t (inl s) rest = absurd (flip (sym e ∙ ap p s ∙ t))
  where
    flip : false ≡ true → ⊥
    flip f = cc
there-go p a x tail false e t (inr h) rest = rest h

-- a number that passes is left
filter-has : (p : ℕ → Bool) (a n x : ℕ) → a ≤ x → x < a + n → p x ≡ true → has (filter p (count_up a n)) x ≡ true
filter-has p a zero x low high t = absurd (omega (arith, low, high))
filter-has p a (suc n) x low high t = there-go p a x (filter p (count_up (a + 1) n)) (p a) refl t (grind (arith, low)) (λ h. filter-has p (a + 1) n x h (omega (arith, high)) t)

-- an item of the row that is not out
pub live : (choices : List Choice) (h : Held) (provider : RevisionId) (row item : ℕ) → HoldsPlaces choices h → IsItemOf choices provider row item → has h.removed item ≡ false → IsTrue (has (linked h row) item)
live choices h provider row item holds is left =
    ap (λ xs. has xs item) (row-items choices h holds row is.there)
    ∙ filter-has (λ x. not (has h.removed x)) (first_number choices row) (length (row_of choices row)) item is.low is.high (ap not left)

-- ---- what was taken out

pub removes-none : (choices : List Choice) (provider : RevisionId) (count : ℕ) (h : Held) → Removes choices provider count h count h
removes-none choices provider count h = record { taken = []; held = refl; number = omega arith; of_provider = λ x i. elim i [ ] }

pub holds-after : (choices : List Choice) (provider : RevisionId) (m n : ℕ) (h k : Held) → HoldsPlaces choices h → Removes choices provider m h n k → HoldsPlaces choices k
holds-after choices provider m n h k holds r = record { rows = ap (λ (x : Held). x.rows) r.held ∙ holds.rows; values = ap (λ (x : Held). x.values) r.held ∙ holds.values }

of-go : (choices : List Choice) (provider : RevisionId) (taken : List ℕ) (item x : ℕ) → (candidate choices item).provider ≡ provider → ((y : ℕ) → In y taken → (candidate choices y).provider ≡ provider) → In x (item ∷ taken) → (candidate choices x).provider ≡ provider
of-go choices provider taken item x is rest (inl e) = ap (λ n. (candidate choices n).provider) e ∙ is
of-go choices provider taken item x is rest (inr i) = rest x i

-- one more of this provider, if it is taken out
pub removes-one : (choices : List Choice) (provider : RevisionId) (m n more : ℕ) (h k l : Held) (row item : ℕ) → Removes choices provider m h n k → IsItemOf choices provider row item → IsOneOut item n k more l → Removes choices provider m h more l
removes-one choices provider m n more h k l row item r is (inl (number, same)) = subst (λ x. Removes choices provider m h x l) (sym number) (subst (Removes choices provider m h n) (sym same) r)
removes-one choices provider m n more h k l row item r is (inr (number, new)) = record {
  taken = item ∷ r.taken;
  held = new ∙ ap (λ (x : Held). record x { removed = item ∷ x.removed }) r.held;
  number = (let a = r.number in let q : length (item ∷ r.taken) ≡ length r.taken + 1 = (omega arith) in omega (arith, a, number, q));
  of_provider = λ x i. of-go choices provider r.taken item x is.of_provider r.of_provider i;
}

-- ---- as contracts see it

provider-in : (choices : List Choice) (provider : RevisionId) (taken : List ℕ) (c : CapRef) → ((x : ℕ) → In x taken → (candidate choices x).provider ≡ provider) → (x : ℕ) × In x taken × (c ≡ candidate choices x) → c.provider ≡ provider
provider-in choices provider taken c of (x, i, e) = ap (λ (k : CapRef). k.provider) e ∙ of x i

pub takes-out : (choices : List Choice) (provider : RevisionId) (m n : ℕ) (h k : Held) → Removes choices provider m h n k → TakesOut provider m (record { choices = choices; out = map (candidate choices) h.removed }) n (record { choices = choices; out = map (candidate choices) k.removed })
takes-out choices provider m n h k r = record {
  choices = refl;
  taken = map (candidate choices) r.taken;
  out = ap (λ (x : Held). map (candidate choices) x.removed) r.held ∙ map-append (candidate choices) r.taken h.removed;
  number = (let a = r.number in let b = length-map r.taken (candidate choices) in omega (arith, a, b));
  of_provider = λ c i. provider-in choices provider r.taken c r.of_provider (map-in (candidate choices) r.taken c i);
}

-- a place whose item is out
out-there : (choices : List Choice) (removed : List ℕ) (row from upto place : ℕ) (c : CapRef) → AreGone choices removed row from upto → from ≤ place → place < upto → In c (item_at (row_of choices row) place) → In c (map (candidate choices) removed)
out-there choices removed row from upto place c gone above below at =
    let x = first_number choices row + place in
    subst (λ k. In k (map (candidate choices) removed)) (candidate-at choices row place c at)
    (in-map (candidate choices) removed x (has-in removed x (gone place above below (at-within (row_of choices row) place c at))))

module _ (choices : List Choice) (removed : List ℕ) (q : ReqRef) (row from : ℕ) (is : listed choices q ≡ row_of choices row) where
  gone-out : (upto : ℕ) → AreGone choices removed row from upto → (place : ℕ) (c : CapRef) → from ≤ place → place < upto → In c (item_at (listed choices q) place) → In c (map (candidate choices) removed)
  gone-out upto gone place c above below at = out-there choices removed row from upto place c gone above below (subst (λ xs. In c (item_at xs place)) is at)

  pub out-some : (place : ℕ) → IsNextPlace choices removed row from (Some place) → AreOutBetween (record { choices = choices; out = map (candidate choices) removed }) q from place
  out-some upto next = gone-out upto next.2

  pub listed-some : (place : ℕ) → IsNextPlace choices removed row from (Some place) → (place ≤ length (listed choices q)) ⊎ (place ≡ from)
  listed-some place next = subst (λ (xs : List CapRef). (place ≤ length xs) ⊎ (place ≡ from)) (sym is) next.1

  past : (place k : ℕ) → (k ≡ from) ⊎ (k ≤ length (row_of choices row)) → from ≤ place → place < k → place < length (row_of choices row)
  past place k (inl e) above below = absurd (omega (arith, e, above, below))
  past place k (inr h) above below = omega (arith, h, below)

  pub out-none : (k : ℕ) → IsNextPlace choices removed row from None → (k ≡ from) ⊎ (k ≤ length (row_of choices row)) → AreOutBetween (record { choices = choices; out = map (candidate choices) removed }) q from k
  out-none k none cases place c above below at = gone-out (length (row_of choices row)) none place c above (past place k cases above below) at

  turn : (k : ℕ) → (k ≡ from) ⊎ (k ≤ length (row_of choices row)) → (k ≤ length (row_of choices row)) ⊎ (k ≡ from)
  turn k (inl e) = inr e
  turn k (inr h) = inl h

  pub listed-end : (k : ℕ) → (k ≡ from) ⊎ (k ≤ length (row_of choices row)) → (k ≤ length (listed choices q)) ⊎ (k ≡ from)
  listed-end k cases = subst (λ (xs : List CapRef). (k ≤ length xs) ⊎ (k ≡ from)) (sym is) (turn k cases)

pub max-cases : (a b k : ℕ) → k ≡ max a b → (k ≡ a) ⊎ (k ≤ b)
max-cases a b k e = grind (arith, e)

-- ---- putting back

pub some-left : (xs : List ℕ) (k n : ℕ) → k < n → n ≤ length xs → 0 < length (drop k xs)
some-left xs k n less within = let e = length-drop k xs in omega (arith, e, less, within)

pub drop-one : (xs : List ℕ) (k : ℕ) → drop 1 (drop k xs) ≡ drop (k + 1) xs
drop-one [] zero = refl
drop-one [] (suc k) = let e : suc (k + 1) ≡ suc k + 1 = omega arith in ap (λ n. drop n []) e
drop-one (x ∷ xs) zero = refl
drop-one (x ∷ xs) (suc k) = drop-one xs k ∙ (let e : suc (k + 1) ≡ suc k + 1 = omega arith in ap (λ n. drop n (x ∷ xs)) e)
