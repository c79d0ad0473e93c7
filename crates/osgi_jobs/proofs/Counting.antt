-- What is left of a queue, of whose jobs so many of each bundle were cleaned.
use Rattle.std.proofs.Common.{◌≡◌, ◌+◌, ◌-◌, ◌≤◌, ◌<◌, ℕ, zero, suc, List, [], ◌∷◌, ◌++◌, length, map, Bool, true, false, arith, refl, sym, ap, ◌∙◌, subst}
use Rattle.std.specs.Prelude.{◌==◌, not, cond, filter}
use Rattle.std.proofs.lemmas.Bool.{eq-eqb, eqb-true, ne_eqb}
use Rattle.osgi_jobs.specs.Queue.{queued_of}
use Rattle.osgi_jobs.specs.computed.Kept.{count_of, with_less, without_cleaned}
use Rattle.osgi_jobs.specs.declared.job.QueuedJob.{QueuedJob}
use Rattle.osgi_ops.specs.Jobs.{Queued}

-- where as many as this were cleaned of one bundle
abbrev pub with_all : ℕ → ℕ → (ℕ → ℕ) → ℕ → ℕ
with_all b all cleaned n = cond (b == n) all (cleaned n)

abbrev pub stays : ℕ → QueuedJob → Bool
stays b job = not (b == job.owner.0)

-- ---- numbers

pub eqb-turn : (a b : ℕ) (k : Bool) → (a == b) ≡ k → (b == a) ≡ k
eqb-turn a b true e = eq-eqb b a (sym (eqb-true a b e))
eqb-turn a b false e = ne_eqb b a (λ same. let bad : true ≡ false = sym (eq-eqb a b (sym same)) ∙ e in cc bad)

-- functions that agree leave the same
pub without-same : (f g : ℕ → ℕ) (xs : List QueuedJob) → ((n : ℕ) → f n ≡ g n) → without_cleaned f xs ≡ without_cleaned g xs
without-same f g xs same = ap (λ (h : ℕ → ℕ). without_cleaned h xs) (λ i n. same n i)

-- ---- one more at the end

-- where the first is not dropped, so few of the bundle are left behind it as were cleaned
few-kept : (k : Bool) (fo fb c : ℕ) → (k ≡ true → fb ≡ fo) → fo ≡ 0 → fb ≤ cond k (c + 1) c → fb ≤ c
few-kept true fo fb c same none few = omega (arith, same refl, none)
few-kept false fo fb c same none few = few

few-less : (k : Bool) (fb c : ℕ) → fb ≤ cond k (c + 1) c → cond k (fb - 1) fb ≤ c
few-less true fb c few = omega (arith, few)
few-less false fb c few = few

zero-of : (n : ℕ) → (n == 0) ≡ true → n ≡ 0
zero-of n e = eqb-true n 0 e

some-of : (n : ℕ) → (n == 0) ≡ false → 0 < n
some-of zero e = absurd (cc e)
some-of (suc n) e = omega arith

-- the bundle's number in both orders
less-at : (o b fb : ℕ) (k : Bool) → (b == o) ≡ k → cond (o == b) (fb - 1) fb ≡ cond k (fb - 1) fb
less-at o b fb k e = ap (λ t. cond t (fb - 1) fb) (eqb-turn b o k e)

pub without-push : (xs : List QueuedJob) (x : QueuedJob) (f : ℕ → ℕ) → f x.owner.0 ≤ count_of x.owner.0 xs → without_cleaned f (xs ++ x ∷ []) ≡ without_cleaned f xs ++ x ∷ []
without-push [] x f few = ap (λ k. cond k (x ∷ []) []) (eq-eqb (f x.owner.0) 0 (omega (arith, few)))
without-push (y ∷ ys) x f few = go (b == o) refl (f o == 0) refl few (without-push ys x)
  where
    o : ℕ
    o = y.owner.0

    b : ℕ
    b = x.owner.0

    go : (k : Bool) → (b == o) ≡ k → (z : Bool) → (f o == 0) ≡ z → f b ≤ cond k (count_of b ys + 1) (count_of b ys) →
        ((g : ℕ → ℕ) → g b ≤ count_of b ys → without_cleaned g (ys ++ x ∷ []) ≡ without_cleaned g ys ++ x ∷ []) →
        cond z (y ∷ without_cleaned f (ys ++ x ∷ [])) (without_cleaned (with_less o f) (ys ++ x ∷ [])) ≡ cond z (y ∷ without_cleaned f ys) (without_cleaned (with_less o f) ys) ++ x ∷ []
    go k e true z few ih = ap (λ l. y ∷ l) (ih f (few-kept k (f o) (f b) (count_of b ys) (λ t. ap f (eqb-true b o (e ∙ t))) (zero-of (f o) z) few))
    go k e false z few ih = ih (with_less o f) (subst (λ n. n ≤ count_of b ys) (sym (less-at o b (f b) k e)) (few-less k (f b) (count_of b ys) few))

-- ---- all of a bundle

-- one of the bundle is dropped
all-dropped : (b o c : ℕ) (f : ℕ → ℕ) → b ≡ o → (n : ℕ) → with_less o (with_all b (c + 1) f) n ≡ with_all b c f n
all-dropped b o c f same n = ap (λ t. cond t (cond (b == n) (c + 1) (f n) - 1) (cond (b == n) (c + 1) (f n))) (ap (λ z. z == n) (sym same)) ∙ by (b == n)
  where
    by : (k : Bool) → cond k (cond k (c + 1) (f n) - 1) (cond k (c + 1) (f n)) ≡ cond k c (f n)
    by true = omega arith
    by false = refl

all-less : (b o c : ℕ) (f : ℕ → ℕ) → b ≡ o → (n : ℕ) → with_all b c f n ≡ with_all b c (with_less o f) n
all-less b o c f same n = by (b == n) (o == n) (ap (λ z. z == n) same)
  where
    by : (k l : Bool) → k ≡ l → cond k c (f n) ≡ cond k c (cond l (f n - 1) (f n))
    by true l e = refl
    by false true e = absurd (cc e)
    by false false e = refl

-- one of another bundle is
other-dropped : (b o c : ℕ) (f : ℕ → ℕ) → (b == o) ≡ false → (n : ℕ) → with_less o (with_all b c f) n ≡ with_all b c (with_less o f) n
other-dropped b o c f other n = by (o == n) refl (b == n) refl
  where
    by : (k : Bool) → (o == n) ≡ k → (l : Bool) → (b == n) ≡ l → cond k (cond l c (f n) - 1) (cond l c (f n)) ≡ cond l c (cond k (f n - 1) (f n))
    by true e true d = absurd (let bad : true ≡ false = sym (eq-eqb b o (eqb-true b n d ∙ sym (eqb-true o n e))) ∙ other in cc bad)
    by true e false d = refl
    by false e true d = refl
    by false e false d = refl

less-few : (k : Bool) (fb c : ℕ) → fb ≤ c → cond k (fb - 1) fb ≤ c
less-few true fb c few = omega (arith, few)
less-few false fb c few = few

-- where all of a bundle were cleaned, those of the others are left
pub without-clear : (b : ℕ) (xs : List QueuedJob) (f : ℕ → ℕ) → f b ≤ count_of b xs → without_cleaned (with_all b (count_of b xs) f) xs ≡ filter (stays b) (without_cleaned f xs)
without-clear b [] f few = refl
without-clear b (y ∷ ys) f few = go (b == o) refl (f o == 0) refl few (without-clear b ys)
  where
    o : ℕ
    o = y.owner.0

    c : ℕ
    c = count_of b ys

    Kept : (ℕ → ℕ) → Type 0
    Kept g = without_cleaned (with_all b c g) ys ≡ filter (stays b) (without_cleaned g ys)

    -- what is left of the whole, where of the bundle this number was cleaned of it
    left : ℕ → Bool → List QueuedJob
    left all z = cond z (y ∷ without_cleaned (with_all b all f) ys) (without_cleaned (with_less o (with_all b all f)) ys)

    own : (z : Bool) → (b == o) ≡ true → (f o == 0) ≡ z → f b ≤ c + 1 → ((g : ℕ → ℕ) → g b ≤ c → Kept g) →
        without_cleaned (with_less o (with_all b (c + 1) f)) ys ≡ filter (stays b) (cond z (y ∷ without_cleaned f ys) (without_cleaned (with_less o f) ys))
    own true e z few ih =
        without-same (with_less o (with_all b (c + 1) f)) (with_all b c f) ys (all-dropped b o c f (eqb-true b o e))
        ∙ ih f (omega (arith, ap f (eqb-true b o e), zero-of (f o) z))
        ∙ sym (ap (λ k. cond (not k) (y ∷ filter (stays b) (without_cleaned f ys)) (filter (stays b) (without_cleaned f ys))) e)
    own false e z few ih =
        without-same (with_less o (with_all b (c + 1) f)) (with_all b c f) ys (all-dropped b o c f (eqb-true b o e))
        ∙ without-same (with_all b c f) (with_all b c (with_less o f)) ys (all-less b o c f (eqb-true b o e))
        ∙ ih (with_less o f) (subst (λ n. n ≤ c) (sym (less-at o b (f b) true e)) (omega (arith, few)))

    others : (z : Bool) → (b == o) ≡ false → f b ≤ c → ((g : ℕ → ℕ) → g b ≤ c → Kept g) →
        cond z (y ∷ without_cleaned (with_all b c f) ys) (without_cleaned (with_less o (with_all b c f)) ys) ≡ filter (stays b) (cond z (y ∷ without_cleaned f ys) (without_cleaned (with_less o f) ys))
    others true e few ih =
        ap (λ l. y ∷ l) (ih f few) ∙ sym (ap (λ k. cond (not k) (y ∷ filter (stays b) (without_cleaned f ys)) (filter (stays b) (without_cleaned f ys))) e)
    others false e few ih =
        without-same (with_less o (with_all b c f)) (with_all b c (with_less o f)) ys (other-dropped b o c f e)
        ∙ ih (with_less o f) (subst (λ n. n ≤ c) (sym (less-at o b (f b) false e)) few)

    go : (k : Bool) → (b == o) ≡ k → (z : Bool) → (f o == 0) ≡ z → f b ≤ cond k (c + 1) c → ((g : ℕ → ℕ) → g b ≤ c → Kept g) →
        cond (cond (b == o) (cond k (c + 1) c) (f o) == 0) (y ∷ without_cleaned (with_all b (cond k (c + 1) c) f) ys) (without_cleaned (with_less o (with_all b (cond k (c + 1) c) f)) ys)
        ≡ filter (stays b) (cond z (y ∷ without_cleaned f ys) (without_cleaned (with_less o f) ys))
    go true e z is few ih =
        ap (λ t. cond (cond t (c + 1) (f o) == 0) (y ∷ without_cleaned (with_all b (c + 1) f) ys) (without_cleaned (with_less o (with_all b (c + 1) f)) ys)) e
        ∙ ap (λ t. cond t (y ∷ without_cleaned (with_all b (c + 1) f) ys) (without_cleaned (with_less o (with_all b (c + 1) f)) ys)) (ne_eqb (c + 1) 0 (λ same. absurd (omega (arith, same))))
        ∙ own z e is few ih
    go false e z is few ih =
        ap (λ t. cond (cond t c (f o) == 0) (y ∷ without_cleaned (with_all b c f) ys) (without_cleaned (with_less o (with_all b c f)) ys)) e
        ∙ ap (λ t. cond t (y ∷ without_cleaned (with_all b c f) ys) (without_cleaned (with_less o (with_all b c f)) ys)) is
        ∙ others z e few ih

-- ---- how many are left

-- of a bundle, all but those that were cleaned
pub count-without : (b : ℕ) (xs : List QueuedJob) (f : ℕ → ℕ) → f b ≤ count_of b xs → count_of b (without_cleaned f xs) + f b ≡ count_of b xs
count-without b [] f few = omega (arith, few)
count-without b (y ∷ ys) f few = go (b == o) refl (f o == 0) refl few (count-without b ys)
  where
    o : ℕ
    o = y.owner.0

    c : ℕ
    c = count_of b ys

    kept : (k : Bool) (n : ℕ) → (k ≡ true → f b ≡ f o) → f o ≡ 0 → f b ≤ cond k (c + 1) c → (f b ≤ c → n + f b ≡ c) → cond k (n + 1) n + f b ≡ cond k (c + 1) c
    kept true n same none few ih =
        let zero : f b ≡ 0 = same refl ∙ none in
        let all : n + f b ≡ c = ih (omega (arith, zero)) in
        omega (arith, all)
    kept false n same none few ih = ih few

    dropped : (k : Bool) (n : ℕ) → (k ≡ true → f b ≡ f o) → 0 < f o → f b ≤ cond k (c + 1) c → (cond k (f b - 1) (f b) ≤ c → n + cond k (f b - 1) (f b) ≡ c) → n + f b ≡ cond k (c + 1) c
    dropped true n same some few ih =
        let is : f b ≡ f o = same refl in
        let all : n + (f b - 1) ≡ c = ih (omega (arith, few)) in
        omega (arith, all, is, some)
    dropped false n same some few ih = ih few

    go : (k : Bool) → (b == o) ≡ k → (z : Bool) → (f o == 0) ≡ z → f b ≤ cond k (c + 1) c → ((g : ℕ → ℕ) → g b ≤ c → count_of b (without_cleaned g ys) + g b ≡ c) →
        count_of b (cond z (y ∷ without_cleaned f ys) (without_cleaned (with_less o f) ys)) + f b ≡ cond k (c + 1) c
    go k e true is few ih =
        ap (λ t. cond t (count_of b (without_cleaned f ys) + 1) (count_of b (without_cleaned f ys)) + f b) e
        ∙ kept k (count_of b (without_cleaned f ys)) (λ t. ap f (eqb-true b o (e ∙ t))) (zero-of (f o) is) few (ih f)
    go k e false is few ih =
        dropped k (count_of b (without_cleaned (with_less o f) ys)) (λ t. ap f (eqb-true b o (e ∙ t))) (some-of (f o) is) few
        (subst (λ m. m ≤ c → count_of b (without_cleaned (with_less o f) ys) + m ≡ c) (less-at o b (f b) k e) (ih (with_less o f)))

-- of one more
pub count-push : (n : ℕ) (xs : List QueuedJob) (x : QueuedJob) → count_of n (xs ++ x ∷ []) ≡ count_of n xs + cond (n == x.owner.0) 1 0
count-push n [] x = by (n == x.owner.0)
  where
    by : (k : Bool) → cond k (0 + 1) 0 ≡ 0 + cond k 1 0
    by true = refl
    by false = refl
count-push n (y ∷ ys) x = go (n == y.owner.0) (cond (n == x.owner.0) 1 0) (count-push n ys x)
  where
    go : (k : Bool) (m : ℕ) → count_of n (ys ++ x ∷ []) ≡ count_of n ys + m → cond k (count_of n (ys ++ x ∷ []) + 1) (count_of n (ys ++ x ∷ [])) ≡ cond k (count_of n ys + 1) (count_of n ys) + m
    go true m ih = omega (arith, ih)
    go false m ih = ih

pub count-within : (n : ℕ) (xs : List QueuedJob) → count_of n xs ≤ length xs
count-within n [] = omega arith
count-within n (y ∷ ys) = go (n == y.owner.0) (count-within n ys)
  where
    go : (k : Bool) → count_of n ys ≤ length ys → cond k (count_of n ys + 1) (count_of n ys) ≤ length (y ∷ ys)
    go true ih = omega (arith, ih)
    go false ih = omega (arith, ih)

-- those of the others and those of the bundle are all
pub length-stays : (b : ℕ) (xs : List QueuedJob) → length (filter (stays b) xs) + count_of b xs ≡ length xs
length-stays b [] = refl
length-stays b (y ∷ ys) = go (b == y.owner.0) (length-stays b ys)
  where
    go : (k : Bool) → length (filter (stays b) ys) + count_of b ys ≡ length ys →
        length (cond (not k) (y ∷ filter (stays b) ys) (filter (stays b) ys)) + (cond k (count_of b ys + 1) (count_of b ys)) ≡ length (y ∷ ys)
    go true ih = omega (arith, ih)
    go false ih = omega (arith, ih)

-- where none is of the bundle all stay
pub stays-all : (b : ℕ) (xs : List QueuedJob) → count_of b xs ≡ 0 → filter (stays b) xs ≡ xs
stays-all b [] none = refl
stays-all b (y ∷ ys) none = go (b == y.owner.0) none (stays-all b ys)
  where
    go : (k : Bool) → cond k (count_of b ys + 1) (count_of b ys) ≡ 0 → (count_of b ys ≡ 0 → filter (stays b) ys ≡ ys) → cond (not k) (y ∷ filter (stays b) ys) (filter (stays b) ys) ≡ y ∷ ys
    go true none ih = absurd (omega (arith, none))
    go false none ih = ap (λ l. y ∷ l) (ih none)

-- no more are left than stand there
pub length-without : (xs : List QueuedJob) (f : ℕ → ℕ) → length (without_cleaned f xs) ≤ length xs
length-without [] f = omega arith
length-without (y ∷ ys) f = go (f y.owner.0 == 0) (length-without ys)
  where
    go : (z : Bool) → ((g : ℕ → ℕ) → length (without_cleaned g ys) ≤ length ys) → length (cond z (y ∷ without_cleaned f ys) (without_cleaned (with_less y.owner.0 f) ys)) ≤ length (y ∷ ys)
    go true ih = omega (arith, ih f)
    go false ih = omega (arith, ih (with_less y.owner.0 f))

-- ---- as the history has them

pub shown-stays : (b : ℕ) (xs : List QueuedJob) → map queued_of (filter (stays b) xs) ≡ filter (λ (q : Queued). not (b == q.owner.0)) (map queued_of xs)
shown-stays b [] = refl
shown-stays b (y ∷ ys) = go (not (b == y.owner.0)) (shown-stays b ys)
  where
    go : (k : Bool) → map queued_of (filter (stays b) ys) ≡ filter (λ (q : Queued). not (b == q.owner.0)) (map queued_of ys) →
        map queued_of (cond k (y ∷ filter (stays b) ys) (filter (stays b) ys)) ≡ cond k (queued_of y ∷ filter (λ (q : Queued). not (b == q.owner.0)) (map queued_of ys)) (filter (λ (q : Queued). not (b == q.owner.0)) (map queued_of ys))
    go true ih = ap (λ l. queued_of y ∷ l) ih
    go false ih = ih
