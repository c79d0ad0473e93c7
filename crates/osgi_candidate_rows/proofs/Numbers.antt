-- The items of a row by their numbers, their values, and the candidates of these numbers.
use Prim.Native.Nat.{zero, suc}
use Rattle.std.proofs.Common.{◌≡◌, ℕ, ◌+◌, ◌<◌, ◌≤◌, ◌==◌, Bool, true, false, cond, IsTrue, List, [], ◌∷◌, ◌++◌, length, drop, find, get_or, flat_map, Some, refl, sym, ap, ◌∙◌, subst, append_assoc, append-nil, inl, inr, arith}
use Rattle.std.specs.List.{concat}
use Rattle.std.specs.Option.{option_map_or}
use Rattle.std.specs.declared.vec.Vec.{Vec}
use Rattle.std.specs.declared.alloc.Global.{Global}
use Rattle.osgi_base.specs.declared.ids.RevisionId.{RevisionId}
use Rattle.osgi_links.specs.Held.{Held, contents, count_up, item_numbers}
use Rattle.osgi_world.specs.Candidates.{same_place}
use Rattle.osgi_world.specs.Lists.{In, item_at}
use Rattle.osgi_world.specs.declared.problem.Choice.{Choice}
use Rattle.osgi_world.specs.declared.wiring.CapRef.{CapRef}
use Rattle.osgi_world.specs.declared.wiring.ReqRef.{ReqRef}
use Rattle.osgi_candidate_rows.specs.Listed.{listed}
use Rattle.osgi_candidate_rows.specs.computed.Numbers.{HoldsPlaces, IsItemOf, candidate, first_number, no_candidate, places, row_of}

-- ---- numbers in a row

pub length-count_up : (a n : ℕ) → length (count_up a n) ≡ n
length-count_up a zero = refl
length-count_up a (suc n) = ap suc (length-count_up (a + 1) n)

pub get-count_up : (a n k : ℕ) → k < n → get_or (count_up a n) k 0 ≡ a + k
get-count_up a zero k h = absurd (omega (arith, h))
get-count_up a (suc n) zero h = omega arith
get-count_up a (suc n) (suc k) h = let e : a + 1 + k ≡ a + suc k = omega arith in get-count_up (a + 1) n k (omega (arith, h)) ∙ e

pub count_up-more : (a n : ℕ) → count_up a n ++ (a + n) ∷ [] ≡ count_up a (n + 1)
count_up-more a zero = let e : a + 0 ≡ a = omega arith in ap (λ x. x ∷ []) e
count_up-more a (suc n) =
    let e : a + suc n ≡ a + 1 + n = omega arith in
    let f : suc (n + 1) ≡ suc n + 1 = omega arith in
    ap (λ x. a ∷ (count_up (a + 1) n ++ x ∷ [])) e ∙ ap (λ xs. a ∷ xs) (count_up-more (a + 1) n) ∙ ap (count_up a) f

pub places-more : (n : ℕ) → count_up 0 n ++ n ∷ [] ≡ count_up 0 (n + 1)
places-more n = let e : n ≡ 0 + n = omega arith in ap (λ x. count_up 0 n ++ x ∷ []) e ∙ count_up-more 0 n

-- ---- the items of a row

pub length-items : (first : ℕ) (choices : List Choice) → length (item_numbers first (places choices)) ≡ length choices
length-items first [] = refl
length-items first (c ∷ choices) = ap suc (length-items (first + length (count_up 0 (length c.candidates))) choices)

pub items-at : (first : ℕ) (choices : List Choice) (row : ℕ) → row < length choices → get_or (item_numbers first (places choices)) row [] ≡ count_up (first + first_number choices row) (length (row_of choices row))
items-at first [] row h = absurd (let h' : row < 0 = h in omega (arith, h'))
items-at first (c ∷ choices) zero h = let e : first ≡ first + 0 = omega arith in ap (λ n. count_up first n) (length-count_up 0 (length c.candidates)) ∙ ap (λ x. count_up x (length c.candidates)) e
items-at first (c ∷ choices) (suc row) h =
    let n = length-count_up 0 (length c.candidates) in
    let e : first + length c.candidates + first_number choices row ≡ first + (length c.candidates + first_number choices row) = omega arith in
    ap (λ k. get_or (item_numbers (first + k) (places choices)) row []) n
    ∙ items-at (first + length c.candidates) choices row (let h' : suc row < suc (length choices) = h in omega (arith, h'))
    ∙ ap (λ x. count_up x (length (row_of choices row))) e

-- ---- the value of an item is its place

get-append_left : (xs ys : List ℕ) (k : ℕ) → k < length xs → get_or (xs ++ ys) k 0 ≡ get_or xs k 0
get-append_left [] ys k h = absurd (let h' : k < 0 = h in omega (arith, h'))
get-append_left (x ∷ xs) ys zero h = refl
get-append_left (x ∷ xs) ys (suc k) h = get-append_left xs ys k (let h' : suc k < suc (length xs) = h in omega (arith, h'))

get-append_right : {X : Type 0} (xs ys : List X) (k : ℕ) (d : X) → get_or (xs ++ ys) (length xs + k) d ≡ get_or ys k d
get-append_right [] ys k d = let e : 0 + k ≡ k = omega arith in ap (λ n. get_or ys n d) e
get-append_right (x ∷ xs) ys k d = let e : suc (length xs) + k ≡ suc (length xs + k) = omega arith in ap (λ n. get_or (x ∷ (xs ++ ys)) n d) e ∙ get-append_right xs ys k d

pub value-at : (choices : List Choice) (row place : ℕ) → row < length choices → place < length (row_of choices row) → get_or (concat (places choices)) (first_number choices row + place) 0 ≡ place
value-at [] row place h below = absurd (let h' : row < 0 = h in omega (arith, h'))
value-at (c ∷ choices) zero place h below =
    let e : 0 + place ≡ place = omega arith in
    let n = length-count_up 0 (length c.candidates) in
    ap (λ k. get_or (count_up 0 (length c.candidates) ++ concat (places choices)) k 0) e
    ∙ get-append_left (count_up 0 (length c.candidates)) (concat (places choices)) place (omega (arith, n, below))
    ∙ get-count_up 0 (length c.candidates) place below ∙ e
value-at (c ∷ choices) (suc row) place h below =
    let n = length-count_up 0 (length c.candidates) in
    let e : length c.candidates + first_number choices row + place ≡ length (count_up 0 (length c.candidates)) + (first_number choices row + place) = omega (arith, n) in
    ap (λ k. get_or (count_up 0 (length c.candidates) ++ concat (places choices)) k 0) e
    ∙ get-append_right (count_up 0 (length c.candidates)) (concat (places choices)) (first_number choices row + place) 0
    ∙ value-at choices row place (let h' : suc row < suc (length choices) = h in omega (arith, h')) below

-- ---- the candidate of a number

at-append : (xs ys : List CapRef) (n : ℕ) (c : CapRef) → In c (item_at xs n) → get_or (xs ++ ys) n no_candidate ≡ c
at-append [] ys n c i = elim i [ ]
at-append (x ∷ xs) ys zero c (inl e) = sym e
at-append (x ∷ xs) ys zero c (inr i) = elim i [ ]
at-append (x ∷ xs) ys (suc n) c i = at-append xs ys n c i

pub candidate-at : (choices : List Choice) (row place : ℕ) (c : CapRef) → In c (item_at (row_of choices row) place) → candidate choices (first_number choices row + place) ≡ c
candidate-at [] row place c i = elim i [ ]
candidate-at (k ∷ choices) zero place c i =
    let e : 0 + place ≡ place = omega arith in
    ap (λ n. candidate (k ∷ choices) n) e ∙ at-append k.candidates (flat_map (λ (c : Choice). c.candidates) choices) place c i
candidate-at (k ∷ choices) (suc row) place c i =
    let e : length k.candidates + first_number choices row + place ≡ length k.candidates + (first_number choices row + place) = omega arith in
    ap (λ n. candidate (k ∷ choices) n) e
    ∙ get-append_right k.candidates (flat_map (λ (c : Choice). c.candidates) choices) (first_number choices row + place) no_candidate
    ∙ candidate-at choices row place c i

pub at-within : (xs : List CapRef) (n : ℕ) (c : CapRef) → In c (item_at xs n) → n < length xs
at-within [] n c i = elim i [ ]
at-within (x ∷ xs) zero c i = omega arith
at-within (x ∷ xs) (suc n) c i = let h = at-within xs n c i in omega (arith, h)

pub at-some : (xs : List CapRef) (n : ℕ) → n < length xs → (c : CapRef) × In c (item_at xs n)
at-some [] n h = absurd (let h' : n < 0 = h in omega (arith, h'))
at-some (x ∷ xs) zero h = (x, inl refl)
at-some (x ∷ xs) (suc n) h = at-some xs n (let h' : suc n < suc (length xs) = h in omega (arith, h'))

-- ---- what is left of a list

pub drop-step : {X : Type 0} (xs : List X) (k : ℕ) (d : X) → k < length xs → drop k xs ≡ get_or xs k d ∷ drop (k + 1) xs
drop-step [] k d h = absurd (let h' : k < 0 = h in omega (arith, h'))
drop-step (x ∷ xs) zero d h = refl
drop-step (x ∷ xs) (suc k) d h =
    let e : suc (k + 1) ≡ suc k + 1 = omega arith in
    drop-step xs k d (let h' : suc k < suc (length xs) = h in omega (arith, h')) ∙ ap (λ n. get_or xs k d ∷ drop n (x ∷ xs)) e

pub drop-done : {X : Type 0} (xs : List X) (k : ℕ) → length xs ≤ k → drop k xs ≡ []
drop-done [] zero h = refl
drop-done [] (suc k) h = refl
drop-done (x ∷ xs) zero h = absurd (let h' : suc (length xs) ≤ 0 = h in omega (arith, h'))
drop-done (x ∷ xs) (suc k) h = drop-done xs k (let h' : suc (length xs) ≤ suc k = h in omega (arith, h'))

pub contents-more : (lists : List (Vec ℕ Global)) (v : Vec ℕ Global) → contents (lists ++ v ∷ []) ≡ contents lists ++ v.items ∷ []
contents-more [] v = refl
contents-more (w ∷ lists) v = ap (λ rest. w.items ∷ rest) (contents-more lists v)

-- one list more
pub places-next : (choices : List Choice) (k : ℕ) (lists more : List (Vec ℕ Global)) (v : Vec ℕ Global) (c : Choice) → k < length choices → contents lists ++ places (drop k choices) ≡ places choices → c ≡ get_or choices k c →
    v.items ≡ count_up 0 (length c.candidates) → more ≡ lists ++ v ∷ [] → contents more ++ places (drop (k + 1) choices) ≡ places choices
places-next choices k lists more v c below so is v-is more-is =
    let here : drop k choices ≡ c ∷ drop (k + 1) choices = drop-step choices k c below ∙ ap (λ x. x ∷ drop (k + 1) choices) (sym is) in
    ap (λ m. contents m ++ places (drop (k + 1) choices)) more-is
    ∙ ap (λ m. m ++ places (drop (k + 1) choices)) (contents-more lists v)
    ∙ append_assoc (contents lists) (v.items ∷ []) (places (drop (k + 1) choices))
    ∙ ap (λ x. contents lists ++ x ∷ places (drop (k + 1) choices)) v-is
    ∙ ap (λ rest. contents lists ++ places rest) (sym here)
    ∙ so

pub places-all : (choices : List Choice) (k : ℕ) (lists : List (Vec ℕ Global)) → length choices ≤ k → contents lists ++ places (drop k choices) ≡ places choices → contents lists ≡ places choices
places-all choices k lists all so = sym (append-nil (contents lists)) ∙ ap (λ rest. contents lists ++ places rest) (sym (drop-done choices k all)) ∙ so

-- ---- the row of a requirement

pub row-nth : (choices : List Choice) (row : ℕ) (d : Choice) → row < length choices → row_of choices row ≡ (get_or choices row d).candidates
row-nth [] row d h = absurd (let h' : row < 0 = h in omega (arith, h'))
row-nth (k ∷ choices) zero d h = refl
row-nth (k ∷ choices) (suc row) d h = row-nth choices row d (let h' : suc row < suc (length choices) = h in omega (arith, h'))

pub found-go : (q : ReqRef) (c : Choice) (rest : List Choice) (b : Bool) → b ≡ true → option_map_or (λ (x : Choice). x.candidates) (cond b (Some c) (find (λ (x : Choice). same_place x.requirement q) rest)) [] ≡ c.candidates
found-go q c rest true t = refl
found-go q c rest false t = cc

pub past-go : (q : ReqRef) (c : Choice) (rest : List Choice) (b : Bool) → b ≡ false → option_map_or (λ (x : Choice). x.candidates) (cond b (Some c) (find (λ (x : Choice). same_place x.requirement q) rest)) [] ≡ listed rest q
past-go q c rest false t = refl
past-go q c rest true t = cc

-- ---- the candidate at a place

at-default : (xs : List CapRef) (n : ℕ) (c d : CapRef) → In c (item_at xs n) → get_or xs n d ≡ c
at-default [] n c d i = elim i [ ]
at-default (x ∷ xs) zero c d (inl e) = sym e
at-default (x ∷ xs) zero c d (inr i) = elim i [ ]
at-default (x ∷ xs) (suc n) c d i = at-default xs n c d i

-- a candidate of this provider, by its row and place
pub item-of : (choices : List Choice) (row place : ℕ) (choice : Choice) (items : List CapRef) (one : CapRef) (provider : RevisionId) → row < length choices → choice ≡ get_or choices row choice → items ≡ choice.candidates →
    place < length items → one ≡ get_or items place one → IsTrue (one.provider.0 == provider.0) → IsItemOf choices provider row (first_number choices row + place)
item-of choices row place choice items one provider below is items-are inside there same =
    let list : row_of choices row ≡ items = row-nth choices row choice below ∙ ap (λ (x : Choice). x.candidates) (sym is) ∙ sym items-are in
    let within : place < length (row_of choices row) = subst (λ (xs : List CapRef). place < length xs) (sym list) inside in
    let at = at-some (row_of choices row) place within in
    let c : one ≡ at.0 = there ∙ at-default items place at.0 one (subst (λ xs. In at.0 (item_at xs place)) list at.1) in
    let number : one.provider.0 ≡ provider.0 = grind (arith, same) in
    record {
      there = below;
      low = omega arith;
      high = omega (arith, within);
      of_provider = ap (λ (x : CapRef). x.provider) (candidate-at choices row place at.0 at.1 ∙ sym c) ∙ ap (λ n. record { 0 = n }) number;
    }

-- ---- how many rows there are

pub rows-count : (choices : List Choice) (h : Held) → HoldsPlaces choices h → length h.rows ≡ length choices
rows-count choices h holds = ap length holds.rows ∙ length-items 0 choices

pub row-there : (choices : List Choice) (h : Held) (row : ℕ) → HoldsPlaces choices h → row < length choices → row < length h.rows
row-there choices h row holds below = let e = rows-count choices h holds in omega (arith, e, below)
