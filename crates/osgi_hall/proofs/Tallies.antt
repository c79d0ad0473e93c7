-- Sums over a list, facts of each element, beginnings of lists, and the entries of one caller.
use Rattle.std.proofs.Common.{◌≡◌, ℕ, zero, suc, ◌+◌, ◌<◌, ◌≤◌, ◌≢◌, ◌==◌, List, [], ◌∷◌, ◌++◌, length, map, set, sym, refl, ap, ◌∙◌, arith, inl, inr, ⊎_elim, ◌⊎◌, lt_of_not-le}
use Rattle.std.proofs.lemmas.List.{append-nil, append_assoc, length-append, nil_from_length}
use Rattle.std.proofs.lemmas.List.Elements.{filter-append}
use Rattle.std.proofs.Common.{eq-eqb, ne_eqb}
use mathlib.Core.Option.{some, some-injective, some-ne-none}
use mathlib.Core.Logic.{dite}
use native.Mathlib.Decide.{dec_le}
use Rattle.std.proofs.lemmas.Bool.{le-leb, lt-leb}
use lib.ListN.{get_elem?}
use Rattle.std.specs.List.{All, Contains}
use Rattle.osgi_hall.specs.declared.entry.Joined.{Joined}
use Rattle.osgi_hall.specs.declared.entry.Entry.{Entry}
use Rattle.osgi_hall.specs.Histories.{BeginsWith, calls_by, longer}
use Rattle.osgi_hall.specs.computed.Lists.{total, Each}

module _ {A : Type 0} where
  pub total_set : (f : A → ℕ) (xs : List A) (i : ℕ) (v w : A) → get_elem? xs i ≡ some v → total f (set xs i w) + f v ≡ total f xs + f w
  total_set f [] i v w e = absurd (some-ne-none v (sym e))
  total_set f (x ∷ xs) zero v w e = let same : f x ≡ f v = ap f (some-injective x v e) in omega arith
  total_set f (x ∷ xs) (suc i) v w e = let more : total f (set xs i w) + f v ≡ total f xs + f w = total_set f xs i v w e in omega arith

  pub total_snoc : (f : A → ℕ) (xs : List A) (v : A) → total f (xs ++ v ∷ []) ≡ total f xs + f v
  total_snoc f [] v = omega arith
  total_snoc f (x ∷ xs) v = let more : total f (xs ++ v ∷ []) ≡ total f xs + f v = total_snoc f xs v in omega arith

  pub total_few : (f : A → ℕ) → ((x : A) → f x ≤ 1) → (xs : List A) → total f xs ≤ length xs
  total_few f one [] = omega arith
  total_few f one (x ∷ xs) = let here : f x ≤ 1 = one x in let more : total f xs ≤ length xs = total_few f one xs in omega arith

  pub total_at : (f : A → ℕ) (xs : List A) (i : ℕ) (v : A) → get_elem? xs i ≡ some v → f v ≤ total f xs
  total_at f [] i v e = absurd (some-ne-none v (sym e))
  total_at f (x ∷ xs) zero v e = let same : f x ≡ f v = ap f (some-injective x v e) in omega arith
  total_at f (x ∷ xs) (suc i) v e = let more : f v ≤ total f xs = total_at f xs i v e in omega arith

  -- two at different places
  pub total_two : (f : A → ℕ) (xs : List A) (i j : ℕ) (v w : A) → i ≢ j → get_elem? xs i ≡ some v → get_elem? xs j ≡ some w → f v + f w ≤ total f xs
  total_two f [] i j v w n e d = absurd (some-ne-none v (sym e))
  total_two f (x ∷ xs) zero zero v w n e d = absurd (n refl)
  total_two f (x ∷ xs) zero (suc j) v w n e d = let same : f x ≡ f v = ap f (some-injective x v e) in let more : f w ≤ total f xs = total_at f xs j w d in omega arith
  total_two f (x ∷ xs) (suc i) zero v w n e d = let same : f x ≡ f w = ap f (some-injective x w d) in let more : f v ≤ total f xs = total_at f xs i v e in omega arith
  total_two f (x ∷ xs) (suc i) (suc j) v w n e d = let more : f v + f w ≤ total f xs = total_two f xs i j v w (λ h. n (ap suc h)) e d in omega arith

  pub at_below : (xs : List A) (i : ℕ) (v : A) → get_elem? xs i ≡ some v → i < length xs
  at_below [] i v e = absurd (some-ne-none v (sym e))
  at_below (x ∷ xs) zero v e = omega arith
  at_below (x ∷ xs) (suc i) v e = let more : i < length xs = at_below xs i v e in omega arith

  pub Each-append : (P : A → Type 0) (xs ys : List A) → Each P xs → Each P ys → Each P (xs ++ ys)
  Each-append P [] ys a b = b
  Each-append P (x ∷ xs) ys a b = (a.0, Each-append P xs ys a.1 b)

  pub Each-map : (P Q : A → Type 0) → ((x : A) → P x → Q x) → (xs : List A) → Each P xs → Each Q xs
  Each-map P Q f [] a = tt
  Each-map P Q f (x ∷ xs) a = (f x a.0, Each-map P Q f xs a.1)

  -- the library's word for a fact of each element
  pub all_at : (P : A → Type 0) (xs : List A) → ((i : ℕ) (x : A) → get_elem? xs i ≡ some x → P x) → All P xs
  all_at P [] f k d below = absurd (omega arith)
  all_at P (x ∷ xs) f zero d below = f 0 x refl
  all_at P (x ∷ xs) f (suc k) d below = all_at P xs (λ i y e. f (suc i) y e) k d (omega arith)

  pub all_each : (P : A → Type 0) (xs : List A) → Each P xs → All P xs
  all_each P [] e k d below = absurd (omega arith)
  all_each P (x ∷ xs) e zero d below = e.0
  all_each P (x ∷ xs) e (suc k) d below = all_each P xs e.1 k d (omega arith)

  pub begins_more : (long short rest : List A) → BeginsWith long short → BeginsWith (long ++ rest) short
  begins_more long short rest b = (b.0 ++ rest, ap (λ (l : List A). l ++ rest) b.1 ∙ append_assoc short b.0 rest)

  pub begins_trans : (a b c : List A) → BeginsWith a b → BeginsWith b c → BeginsWith a c
  begins_trans a b c x y = (y.0 ++ x.0, x.1 ∙ (ap (λ (l : List A). l ++ x.0) y.1 ∙ append_assoc c y.0 x.0))

  -- of two beginnings of a list the longer begins with the other
  pub begins_shorter : (all long short : List A) → BeginsWith all long → BeginsWith all short → length short ≤ length long → BeginsWith long short
  begins_shorter all long [] x y le = (long, refl)
  begins_shorter all [] (b ∷ bs) x y le = absurd (omega arith)
  begins_shorter all (a ∷ as') (b ∷ bs) x y le =
      let both : a ∷ (as' ++ x.0) ≡ b ∷ (bs ++ y.0) = sym x.1 ∙ y.1 in
      let heads : a ≡ b = cc in
      let tails : as' ++ x.0 ≡ bs ++ y.0 = cc in
      let more = begins_shorter (as' ++ x.0) as' bs (x.0, refl) (y.0, tails) (omega arith) in
      (more.0, λ i. heads i ∷ more.1 i)

  pub Each-begin : (P : A → Type 0) (xs ys : List A) → Each P (xs ++ ys) → Each P xs
  Each-begin P [] ys a = tt
  Each-begin P (x ∷ xs) ys a = (a.0, Each-begin P xs ys a.1)

  pub snoc_at : (l : List A) (a b : A) (j : ℕ) → get_elem? (l ++ a ∷ []) j ≡ some b → (get_elem? l j ≡ some b) ⊎ ((j ≡ length l) × (a ≡ b))
  snoc_at [] a b zero e = inr (refl, some-injective a b e)
  snoc_at [] a b (suc j) e = absurd (some-ne-none b (sym e))
  snoc_at (x ∷ xs) a b zero e = inl e
  snoc_at (x ∷ xs) a b (suc j) e = ⊎_elim inl (λ (t : (j ≡ length xs) × (a ≡ b)). inr (ap suc t.0, t.1)) (snoc_at xs a b j e)

  pub at_some : (l : List A) (j : ℕ) → j < length l → (a : A) × (get_elem? l j ≡ some a)
  at_some [] j h = absurd (omega arith)
  at_some (x ∷ xs) zero h = (x, refl)
  at_some (x ∷ xs) (suc j) h = at_some xs j (omega arith)

  pub begins_both : (a b : List A) → BeginsWith a b → BeginsWith b a → a ≡ b
  begins_both a b x y =
      let none_more : length x.0 ≡ 0 = let l = ap length x.1 in let m = ap length y.1 in let n = length-append b x.0 in let o = length-append a y.0 in omega arith in
      x.1 ∙ (ap (λ (l : List A). b ++ l) (nil_from_length x.0 none_more) ∙ append-nil b)

  pub longer_is : (a b : List A) → ((length a ≤ length b) × (longer a b ≡ b)) ⊎ ((length b ≤ length a) × (longer a b ≡ a))
  longer_is a b = dite (dec_le (length a) (length b))
      (λ (h : length a ≤ length b). inl (h, rw (le-leb (length a) (length b) h)))
      (λ n. let h : length b < length a = lt_of_not-le n in inr (omega arith, rw (lt-leb (length a) (length b) h)))

module _ {O R : Type 0} where
  pub by_append : (c : ℕ) (xs ys : List (Entry O R)) → calls_by c (xs ++ ys) ≡ calls_by c xs ++ calls_by c ys
  by_append c xs ys = filter-append (λ (e : Entry O R). e.tag.caller == c) xs ys

  pub by_fresh : (c n : ℕ) → n ≤ c → (xs : List (Entry O R)) → Each (λ (e : Entry O R). e.tag.caller < n) xs → calls_by c xs ≡ []
  by_fresh c n le [] a = refl
  by_fresh c n le (x ∷ xs) a = rw (ne_eqb x.tag.caller c (λ (h : x.tag.caller ≡ c). let b = a.0 in omega arith)) (by_fresh c n le xs a.1)

  -- what stands between two lists with the same calls of a caller has them too
  pub by_between : (c : ℕ) (a b d own : List (Entry O R)) → BeginsWith d b → BeginsWith b a → calls_by c a ≡ own → calls_by c d ≡ own → calls_by c b ≡ own
  by_between c a b d own x y e f =
      let first : calls_by c b ≡ own ++ calls_by c y.0 = ap (calls_by c) y.1 ∙ (by_append c a y.0 ∙ ap (λ (l : List (Entry O R)). l ++ calls_by c y.0) e) in
      let whole : own ≡ (own ++ calls_by c y.0) ++ calls_by c x.0 = sym f ∙ (ap (calls_by c) x.1 ∙ (by_append c b x.0 ∙ ap (λ (l : List (Entry O R)). l ++ calls_by c x.0) first)) in
      let none_more : length (calls_by c y.0) ≡ 0 = let l = ap length whole in let m = length-append (own ++ calls_by c y.0) (calls_by c x.0) in let n = length-append own (calls_by c y.0) in omega arith in
      first ∙ (ap (λ (l : List (Entry O R)). own ++ l) (nil_from_length (calls_by c y.0) none_more) ∙ append-nil own)

  pub by_none : (c d : ℕ) → c ≢ d → (xs : List (Entry O R)) → Each (λ (e : Entry O R). e.tag.caller ≡ d) xs → calls_by c xs ≡ []
  by_none c d n [] a = refl
  by_none c d n (x ∷ xs) a = rw (ne_eqb x.tag.caller c (λ (h : x.tag.caller ≡ c). n (sym h ∙ a.0))) (by_none c d n xs a.1)

  pub by_all : (d : ℕ) → (xs : List (Entry O R)) → Each (λ (e : Entry O R). e.tag.caller ≡ d) xs → calls_by d xs ≡ xs
  by_all d [] a = refl
  by_all d (x ∷ xs) a = rw (eq-eqb x.tag.caller d a.0) (ap (λ (l : List (Entry O R)). x ∷ l) (by_all d xs a.1))

  pub by_others : (c d : ℕ) → c ≢ d → (xs ys own : List (Entry O R)) → Each (λ (e : Entry O R). e.tag.caller ≡ d) ys → calls_by c xs ≡ own → calls_by c (xs ++ ys) ≡ own
  by_others c d n xs ys own a e = by_append c xs ys ∙ (ap (λ (l : List (Entry O R)). calls_by c xs ++ l) (by_none c d n ys a) ∙ (append-nil (calls_by c xs) ∙ e))

  -- the number of one that has joined is among theirs
  pub contains_at : (ended : List (Joined O R)) (i : ℕ) (x : Joined O R) → get_elem? ended i ≡ some x → Contains (map (λ (known : Joined O R). known.caller) ended) x.caller
  contains_at [] i x e = absurd (some-ne-none x (sym e))
  contains_at (y ∷ ys) zero x e = (0, omega arith, ap (λ (known : Joined O R). known.caller) (some-injective y x e))
  contains_at (y ∷ ys) (suc i) x e = let more = contains_at ys i x e in (suc more.0, (let below = more.1 in omega arith), more.2)
