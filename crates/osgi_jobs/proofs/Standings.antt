-- What is counted of the bundles, where one is counted anew.
use Rattle.std.proofs.Common.{◌≡◌, ◌+◌, ◌-◌, ◌≤◌, ◌<◌, ℕ, List, [], ◌∷◌, ◌++◌, length, map, length-append, Bool, true, false, arith, refl, sym, ap, ◌∙◌, subst, Option, Some}
use Rattle.std.specs.Prelude.{◌==◌, cond, filter}
use Rattle.std.specs.Option.{option_map_or}
use Rattle.std.proofs.lemmas.Bool.{eq-eqb, eqb-true, ne_eqb}
use Rattle.std.proofs.lemmas.List.{map-append}
use Rattle.osgi_base.specs.NumberMaps.{HoldsSame, Puts, value_at}
use Rattle.osgi_base.specs.declared.number_map.NumberMap.{NumberMap}
use Rattle.osgi_jobs.specs.Queue.{queued_of}
use Rattle.osgi_jobs.specs.computed.Kept.{AreCounted, count_of, counted_in, Counts, IsFrontQueued, IsKept, queued_in, with_less, without_cleaned}
use Rattle.osgi_jobs.specs.declared.counts.BundleCount.{BundleCount}
use Rattle.osgi_jobs.specs.declared.job.QueuedJob.{QueuedJob}
use Rattle.osgi_jobs.proofs.Counting.{count-push, count-within, count-without, eqb-turn, length-stays, length-without, stays, stays-all, with_all, without-clear, without-push, without-same}

-- this bundle is counted so, and each other as before
abbrev pub recounted : Counts → ℕ → BundleCount → Counts
recounted counts number so n = cond (number == n) so (counts n)

pub counts-put : (old new : NumberMap BundleCount) (number : ℕ) (so : BundleCount) → Puts old new number so → counted_in new ≡ recounted (counted_in old) number so
counts-put old new number so puts = λ i n. one n i
  where
    by : (n : ℕ) (k : Bool) → option_map_or (λ (c : BundleCount). c) (cond k (Some so) (value_at old n)) (record { standing = 0; cleaned = 0 }) ≡ cond k so (counted_in old n)
    by n true = refl
    by n false = refl

    one : (n : ℕ) → counted_in new n ≡ recounted (counted_in old) number so n
    one n = ap (λ (o : Option BundleCount). option_map_or (λ (c : BundleCount). c) o (record { standing = 0; cleaned = 0 })) (puts n) ∙ by n (number == n)

pub counts-same : (old new : NumberMap BundleCount) → HoldsSame old new → counted_in new ≡ counted_in old
counts-same old new same = λ i n. option_map_or (λ (c : BundleCount). c) (same n i) (record { standing = 0; cleaned = 0 })

-- ---- one more is queued

module _ (counts : Counts) (xs : List QueuedJob) (queued : ℕ) (kept : IsKept counts xs queued) (x : QueuedJob) where
  abbrev pub b : ℕ
  b = x.owner.0

  abbrev pub more : Counts
  more = recounted counts b (record { standing = (counts b).standing + 1; cleaned = (counts b).cleaned })

  same-cleaned : (n : ℕ) → (more n).cleaned ≡ (counts n).cleaned
  same-cleaned n = by (b == n) refl
    where
      by : (k : Bool) → (b == n) ≡ k → (cond k (record { standing = (counts b).standing + 1; cleaned = (counts b).cleaned }) (counts n)).cleaned ≡ (counts n).cleaned
      by true e = ap (λ m. (counts m).cleaned) (eqb-true b n e)
      by false e = refl

  few : (counts b).cleaned ≤ count_of b xs
  few = let some = kept.counted.some b in let all = kept.counted.all b in omega (arith, some, all)

  pub queued-more : queued_in more (xs ++ x ∷ []) ≡ queued_in counts xs ++ x ∷ []
  queued-more = without-same (λ n. (more n).cleaned) (λ n. (counts n).cleaned) (xs ++ x ∷ []) same-cleaned ∙ without-push xs x (λ n. (counts n).cleaned) few

  pub kept-more : IsKept more (xs ++ x ∷ []) (queued + 1)
  kept-more = record {
    counted = record { all = all; some = some };
    number = ap (λ n. n + 1) kept.number ∙ sym (ap length queued-more ∙ length-append (queued_in counts xs) (x ∷ []));
    front = front xs kept.front few;
  }
    where
      all : (n : ℕ) → (more n).standing ≡ count_of n (xs ++ x ∷ [])
      all n = by (b == n) refl ∙ sym (count-push n xs x)
        where
          by : (k : Bool) → (b == n) ≡ k → (cond k (record { standing = (counts b).standing + 1; cleaned = (counts b).cleaned }) (counts n)).standing ≡ count_of n xs + cond (n == b) 1 0
          by true e =
              let same : n ≡ b = sym (eqb-true b n e) in
              let mine : (counts b).standing ≡ count_of n xs = ap (λ m. (counts m).standing) (sym same) ∙ kept.counted.all n in
              ap (λ m. m + 1) mine ∙ ap (λ k. count_of n xs + cond k 1 0) (sym (eq-eqb n b same))
          by false e =
              let mine : (counts n).standing ≡ count_of n xs + 0 = (let all = kept.counted.all n in omega (arith, all)) in
              mine ∙ ap (λ k. count_of n xs + cond k 1 0) (sym (eqb-turn b n false e))

      some : (n : ℕ) → (more n).cleaned ≤ (more n).standing
      some n = by (b == n)
        where
          by : (k : Bool) → (cond k (record { standing = (counts b).standing + 1; cleaned = (counts b).cleaned }) (counts n)).cleaned ≤ (cond k (record { standing = (counts b).standing + 1; cleaned = (counts b).cleaned }) (counts n)).standing
          by true = let s = kept.counted.some b in omega (arith, s)
          by false = kept.counted.some n

      front : (ys : List QueuedJob) → IsFrontQueued counts ys → (counts b).cleaned ≤ count_of b ys → IsFrontQueued more (ys ++ x ∷ [])
      front [] f few = same-cleaned b ∙ omega (arith, few)
      front (y ∷ ys) f few = same-cleaned y.owner.0 ∙ f

-- ---- the first goes

module _ (counts : Counts) (x : QueuedJob) (rest : List QueuedJob) (counted : AreCounted counts (x ∷ rest)) where
  abbrev pub o : ℕ
  o = x.owner.0

  -- one less of its bundle stands there
  abbrev pub less_standing : ℕ → Counts
  less_standing cleaned = recounted counts o (record { standing = (counts o).standing - 1; cleaned = cleaned })

  pub stands-there : 0 < (counts o).standing
  stands-there = let all : (counts o).standing ≡ cond (o == o) (count_of o rest + 1) (count_of o rest) = counted.all o in
      let own : cond (o == o) (count_of o rest + 1) (count_of o rest) ≡ count_of o rest + 1 = ap (λ k. cond k (count_of o rest + 1) (count_of o rest)) (eq-eqb o o refl) in
      omega (arith, all, own)

  all-less : (cleaned n : ℕ) → (less_standing cleaned n).standing ≡ count_of n rest
  all-less cleaned n = by (o == n) refl
    where
      by : (k : Bool) → (o == n) ≡ k → (cond k (record { standing = (counts o).standing - 1; cleaned = cleaned }) (counts n)).standing ≡ count_of n rest
      by true e =
          let same : n ≡ o = sym (eqb-true o n e) in
          let mine : (counts o).standing ≡ cond (n == o) (count_of n rest + 1) (count_of n rest) = ap (λ m. (counts m).standing) (sym same) ∙ counted.all n in
          let own : cond (n == o) (count_of n rest + 1) (count_of n rest) ≡ count_of n rest + 1 = ap (λ k. cond k (count_of n rest + 1) (count_of n rest)) (eq-eqb n o same) in
          omega (arith, mine, own)
      by false e =
          counted.all n ∙ ap (λ k. cond k (count_of n rest + 1) (count_of n rest)) (eqb-turn o n false e)

  some-less : (cleaned : ℕ) → cleaned ≤ (counts o).standing - 1 → (n : ℕ) → (less_standing cleaned n).cleaned ≤ (less_standing cleaned n).standing
  some-less cleaned few n = by (o == n)
    where
      by : (k : Bool) → (cond k (record { standing = (counts o).standing - 1; cleaned = cleaned }) (counts n)).cleaned ≤ (cond k (record { standing = (counts o).standing - 1; cleaned = cleaned }) (counts n)).standing
      by true = few
      by false = counted.some n

  pub counted-less : (cleaned : ℕ) → cleaned ≤ (counts o).standing - 1 → AreCounted (less_standing cleaned) rest
  counted-less cleaned few = record { all = all-less cleaned; some = some-less cleaned few }

  -- where it was cleaned, the same are queued
  pub queued-less : ((counts o).cleaned == 0) ≡ false → queued_in (less_standing ((counts o).cleaned - 1)) rest ≡ queued_in counts (x ∷ rest)
  queued-less some =
      without-same (λ n. (less_standing ((counts o).cleaned - 1) n).cleaned) (with_less o (λ n. (counts n).cleaned)) rest same
      ∙ sym (ap (λ k. cond k (x ∷ queued_in counts rest) (without_cleaned (with_less o (λ n. (counts n).cleaned)) rest)) some)
    where
      same : (n : ℕ) → (less_standing ((counts o).cleaned - 1) n).cleaned ≡ with_less o (λ m. (counts m).cleaned) n
      same n = by (o == n) refl
        where
          by : (k : Bool) → (o == n) ≡ k → (cond k (record { standing = (counts o).standing - 1; cleaned = (counts o).cleaned - 1 }) (counts n)).cleaned ≡ cond k ((counts n).cleaned - 1) (counts n).cleaned
          by true e = ap (λ m. (counts m).cleaned - 1) (eqb-true o n e)
          by false e = refl

  -- where it was not, it is the oldest
  pub queued-first : (counts o).cleaned ≡ 0 → queued_in counts (x ∷ rest) ≡ x ∷ queued_in counts rest
  queued-first none = ap (λ k. cond k (x ∷ queued_in counts rest) (without_cleaned (with_less o (λ n. (counts n).cleaned)) rest)) (eq-eqb (counts o).cleaned 0 none)

  pub queued-rest : (counts o).cleaned ≡ 0 → queued_in (less_standing 0) rest ≡ queued_in counts rest
  queued-rest none = without-same (λ n. (less_standing 0 n).cleaned) (λ n. (counts n).cleaned) rest same
    where
      same : (n : ℕ) → (less_standing 0 n).cleaned ≡ (counts n).cleaned
      same n = by (o == n) refl
        where
          by : (k : Bool) → (o == n) ≡ k → (cond k (record { standing = (counts o).standing - 1; cleaned = 0 }) (counts n)).cleaned ≡ (counts n).cleaned
          by true e = sym (ap (λ m. (counts m).cleaned) (sym (eqb-true o n e)) ∙ none)
          by false e = refl

-- ---- all of a bundle are cleaned

module _ (counts : Counts) (xs : List QueuedJob) (queued : ℕ) (kept : IsKept counts xs queued) (b : ℕ) where
  abbrev pub cleared : Counts
  cleared = recounted counts b (record { standing = (counts b).standing; cleaned = (counts b).standing })

  few-cleaned : (counts b).cleaned ≤ count_of b xs
  few-cleaned = let some = kept.counted.some b in let all = kept.counted.all b in omega (arith, some, all)

  pub counted-cleared : AreCounted cleared xs
  counted-cleared = record { all = all; some = some }
    where
      all : (n : ℕ) → (cleared n).standing ≡ count_of n xs
      all n = by (b == n) refl ∙ kept.counted.all n
        where
          by : (k : Bool) → (b == n) ≡ k → (cond k (record { standing = (counts b).standing; cleaned = (counts b).standing }) (counts n)).standing ≡ (counts n).standing
          by true e = ap (λ m. (counts m).standing) (eqb-true b n e)
          by false e = refl

      some : (n : ℕ) → (cleared n).cleaned ≤ (cleared n).standing
      some n = by (b == n)
        where
          by : (k : Bool) → (cond k (record { standing = (counts b).standing; cleaned = (counts b).standing }) (counts n)).cleaned ≤ (cond k (record { standing = (counts b).standing; cleaned = (counts b).standing }) (counts n)).standing
          by true = omega arith
          by false = kept.counted.some n

  pub queued-cleared : queued_in cleared xs ≡ filter (stays b) (queued_in counts xs)
  queued-cleared =
      without-same (λ n. (cleared n).cleaned) (with_all b (count_of b xs) (λ n. (counts n).cleaned)) xs same
      ∙ without-clear b xs (λ n. (counts n).cleaned) few-cleaned
    where
      same : (n : ℕ) → (cleared n).cleaned ≡ with_all b (count_of b xs) (λ m. (counts m).cleaned) n
      same n = by (b == n)
        where
          by : (k : Bool) → (cond k (record { standing = (counts b).standing; cleaned = (counts b).standing }) (counts n)).cleaned ≡ cond k (count_of b xs) (counts n).cleaned
          by true = kept.counted.all b
          by false = refl

  -- so many of it were queued
  pub fewer-queued : (counts b).standing - (counts b).cleaned ≤ queued
  fewer-queued =
      let left = count-without b xs (λ n. (counts n).cleaned) few-cleaned in
      let stay = length-stays b (queued_in counts xs) in
      let all = kept.counted.all b in
      let number = kept.number in
      omega (arith, left, stay, all, number)

  pub number-cleared : queued - ((counts b).standing - (counts b).cleaned) ≡ length (queued_in cleared xs)
  number-cleared =
      let left = count-without b xs (λ n. (counts n).cleaned) few-cleaned in
      let stay = length-stays b (queued_in counts xs) in
      let all = kept.counted.all b in
      let number = kept.number in
      let is : queued - ((counts b).standing - (counts b).cleaned) ≡ length (filter (stays b) (queued_in counts xs)) = omega (arith, left, stay, all, number) in
      is ∙ ap length (sym queued-cleared)

  -- where none of it stands there, none of it is queued
  pub queued-none : (counts b).standing ≡ 0 → filter (stays b) (queued_in counts xs) ≡ queued_in counts xs
  queued-none none =
      let left = count-without b xs (λ n. (counts n).cleaned) few-cleaned in
      let all = kept.counted.all b in
      stays-all b (queued_in counts xs) (omega (arith, left, all, none))

-- ---- as calls write it

pub few-stand : (counts : Counts) (xs : List QueuedJob) (n : ℕ) → AreCounted counts xs → (counts n).standing ≤ length xs
few-stand counts xs n counted = let most = count-within n xs in let all = counted.all n in omega (arith, most, all)

pub few-queued : (counts : Counts) (xs : List QueuedJob) (queued : ℕ) → IsKept counts xs queued → queued ≤ length xs
few-queued counts xs queued kept = let most = length-without xs (λ n. (counts n).cleaned) in let number = kept.number in omega (arith, most, number)

pub kept-same : (old new : NumberMap BundleCount) (xs ys : List QueuedJob) (queued : ℕ) → HoldsSame old new → ys ≡ xs → IsKept (counted_in old) xs queued → IsKept (counted_in new) ys queued
kept-same old new xs ys queued same is kept = subst (λ (f : Counts). IsKept f ys queued) (sym (counts-same old new same)) (subst (λ l. IsKept (counted_in old) l queued) (sym is) kept)

pub shown-same : (old new : NumberMap BundleCount) (xs ys : List QueuedJob) → HoldsSame old new → ys ≡ xs → map queued_of (queued_in (counted_in new) ys) ≡ map queued_of (queued_in (counted_in old) xs)
shown-same old new xs ys same is = ap (λ (f : Counts). map queued_of (queued_in f ys)) (counts-same old new same) ∙ ap (λ l. map queued_of (queued_in (counted_in old) l)) is

module _ (old new : NumberMap BundleCount) (xs ys : List QueuedJob) (queued : ℕ) (x : QueuedJob) (so : BundleCount) (says : so ≡ counted_in old x.owner.0)
    (puts : Puts old new x.owner.0 (record { standing = so.standing + 1; cleaned = so.cleaned })) (is : ys ≡ xs ++ x ∷ []) (kept : IsKept (counted_in old) xs queued) where
  grown : counted_in new ≡ more (counted_in old) xs queued kept x
  grown = counts-put old new x.owner.0 (record { standing = so.standing + 1; cleaned = so.cleaned }) puts ∙ ap (λ (s : BundleCount). recounted (counted_in old) x.owner.0 (record { standing = s.standing + 1; cleaned = s.cleaned })) says

  pub kept-grown : IsKept (counted_in new) ys (queued + 1)
  kept-grown = subst (λ (f : Counts). IsKept f ys (queued + 1)) (sym grown) (subst (λ l. IsKept (more (counted_in old) xs queued kept x) l (queued + 1)) (sym is) (kept-more (counted_in old) xs queued kept x))

  pub shown-grown : map queued_of (queued_in (counted_in new) ys) ≡ map queued_of (queued_in (counted_in old) xs) ++ queued_of x ∷ []
  shown-grown =
      ap (λ (f : Counts). map queued_of (queued_in f ys)) grown
      ∙ ap (λ l. map queued_of (queued_in (more (counted_in old) xs queued kept x) l)) is
      ∙ ap (map queued_of) (queued-more (counted_in old) xs queued kept x)
      ∙ map-append queued_of (queued_in (counted_in old) xs) (x ∷ [])

module _ (old new : NumberMap BundleCount) (xs rest : List QueuedJob) (x : QueuedJob) (so : BundleCount) (is : xs ≡ x ∷ rest) (says : so ≡ counted_in old x.owner.0) (counted : AreCounted (counted_in old) xs) where
  there : AreCounted (counted_in old) (x ∷ rest)
  there = subst (AreCounted (counted_in old)) is counted

  less-so : (cleaned : ℕ) → Puts old new x.owner.0 (record { standing = so.standing - 1; cleaned = cleaned }) → counted_in new ≡ less_standing (counted_in old) x rest there cleaned
  less-so cleaned puts = counts-put old new x.owner.0 (record { standing = so.standing - 1; cleaned = cleaned }) puts ∙ ap (λ (s : BundleCount). recounted (counted_in old) x.owner.0 (record { standing = s.standing - 1; cleaned = cleaned })) says

  -- one that was cleaned is dropped
  pub dropped-same : 0 < so.cleaned → Puts old new x.owner.0 (record { standing = so.standing - 1; cleaned = so.cleaned - 1 }) → queued_in (counted_in new) rest ≡ queued_in (counted_in old) xs
  dropped-same some puts =
      ap (λ (f : Counts). queued_in f rest) (less-so (so.cleaned - 1) puts ∙ ap (λ (s : BundleCount). less_standing (counted_in old) x rest there (s.cleaned - 1)) says)
      ∙ queued-less (counted_in old) x rest there (ne_eqb (counted_in old x.owner.0).cleaned 0 (λ none. let mine = ap (λ (s : BundleCount). s.cleaned) says in absurd (omega (arith, none, some, mine))))
      ∙ ap (queued_in (counted_in old)) (sym is)

  -- the oldest is taken
  module _ (front : (counted_in old x.owner.0).cleaned ≡ 0) (puts : Puts old new x.owner.0 (record { standing = so.standing - 1; cleaned = 0 })) where
    pub taken-counted : AreCounted (counted_in new) rest
    taken-counted = subst (λ (f : Counts). AreCounted f rest) (sym (less-so 0 puts)) (counted-less (counted_in old) x rest there 0 (omega arith))

    pub taken-queued : queued_in (counted_in old) xs ≡ x ∷ queued_in (counted_in new) rest
    taken-queued =
        ap (queued_in (counted_in old)) is ∙ queued-first (counted_in old) x rest there front
        ∙ ap (λ l. x ∷ l) (sym (ap (λ (f : Counts). queued_in f rest) (less-so 0 puts) ∙ queued-rest (counted_in old) x rest there front))

module _ (old new : NumberMap BundleCount) (xs : List QueuedJob) (queued b : ℕ) (so : BundleCount) (says : so ≡ counted_in old b) (kept : IsKept (counted_in old) xs queued)
    (puts : Puts old new b (record { standing = so.standing; cleaned = so.standing })) where
  cleared-so : counted_in new ≡ cleared (counted_in old) xs queued kept b
  cleared-so = counts-put old new b (record { standing = so.standing; cleaned = so.standing }) puts ∙ ap (λ (s : BundleCount). recounted (counted_in old) b (record { standing = s.standing; cleaned = s.standing })) says

  pub cleared-counted : AreCounted (counted_in new) xs
  cleared-counted = subst (λ (f : Counts). AreCounted f xs) (sym cleared-so) (counted-cleared (counted_in old) xs queued kept b)

  pub cleared-queued : queued_in (counted_in new) xs ≡ filter (stays b) (queued_in (counted_in old) xs)
  cleared-queued = ap (λ (f : Counts). queued_in f xs) cleared-so ∙ queued-cleared (counted_in old) xs queued kept b

  pub cleared-number : queued - (so.standing - so.cleaned) ≡ length (queued_in (counted_in new) xs)
  cleared-number = ap (λ (s : BundleCount). queued - (s.standing - s.cleaned)) says ∙ number-cleared (counted_in old) xs queued kept b ∙ ap (λ (f : Counts). length (queued_in f xs)) (sym cleared-so)

-- what is kept, once those at the front that were cleaned are dropped
pub kept-after : (counts : Counts) (ys : List QueuedJob) (queued : ℕ) (list : List QueuedJob) → AreCounted counts ys → queued_in counts ys ≡ list → IsFrontQueued counts ys → queued ≡ length list → IsKept counts ys queued
kept-after counts ys queued list counted is front number = record { counted = counted; number = number ∙ ap length (sym is); front = front }

pub front-cleaned : (counts : Counts) (xs : List QueuedJob) (x : QueuedJob) (rest : List QueuedJob) → xs ≡ x ∷ rest → IsFrontQueued counts xs → (counts x.owner.0).cleaned ≡ 0
front-cleaned counts xs x rest is front = subst (IsFrontQueued counts) is front
