-- What a search over all words knows before and after each move, and what it may answer.
use Rattle.std.proofs.Common.{◌≡◌, ℕ, ◌+◌, ◌<◌, ◌≤◌, ◌⊎◌, inl, inr, Bool, true, false, List, [], ◌∷◌, ◌++◌, Option, MatchOption, refl, sym, ◌∙◌, subst, arith}
use Rattle.std.specs.Bool.{Decides}
use Rattle.osgi_world.specs.Candidates.{IsProblem}
use Rattle.osgi_world.specs.Consistency.{Extends}
use Rattle.osgi_world.specs.ChoiceWords.{IsComplete, IsWord, made_by, width}
use Rattle.osgi_world.specs.Effort.{IsBefore, IsCounted, IsEffort, IsEffortAbove, IsEffortWithin, IsFirst}
use Rattle.osgi_world.specs.Hopeless.{IsHopeless}
use Rattle.osgi_world.specs.Lists.{In}
use Rattle.osgi_world.specs.declared.problem.Problem.{Problem}
use Rattle.osgi_world.specs.declared.wiring.Wiring.{Wiring}
use Rattle.osgi_resolver_theory.proofs.Ends.{open_count}
use Rattle.osgi_resolver_theory.proofs.Depth.{step-falls}
use Rattle.osgi_resolver_theory.proofs.Order.{before-longer, before-total, before-trans, below-zero}
use Rattle.osgi_resolver_theory.proofs.Search.{found-effort, found-first, none-extends, spent-above}
use Rattle.osgi_resolver_theory.proofs.Walk.{back, begun, ended, visit}
use Rattle.osgi_resolver_theory.proofs.Words.{good-hopeful, word-more}
use Rattle.osgi_resolver_theory.specs.Search.{IsAt}
use Rattle.osgi_resolver_search.proofs.Midway.{popped}
use Rattle.osgi_resolver_search.specs.Outcomes.{IsOutcome}
use Rattle.osgi_resolver_search.specs.declared.depth_first.Outcome.{Outcome}
use Rattle.cases_slow_search.specs.Seen.{HasPassed, IsSeen, StaysAt, after}
use Rattle.cases_slow_search.specs.declared.seen.Seen.{Seen}
use Rattle.cases_slow_search.specs.declared.seen.Seen.TheVariants.{Passed, Ended}

-- ---- at one word

-- nothing is before the empty word
pub start : (P : Problem) (w : List ℕ) → IsProblem P → w ≡ [] → HasPassed P w 0
start P w L e = subst (λ u. HasPassed P u 0) (sym e) (record { earlier = []; upto = begun P L; number = refl })

hopeless-not : (P : Problem) (x u : List ℕ) → IsHopeless P x → ¬ IsHopeless P u → IsBefore u x ⊎ (u ≡ x) → IsBefore u x
hopeless-not P x u h not (inl b) = b
hopeless-not P x u h not (inr same) = absurd (not (subst (IsHopeless P) (sym same) h))

-- a hopeless word is not counted
pub passed-hopeless : (P : Problem) (x : List ℕ) (n : ℕ) (b : Bool) → HasPassed P x n → b ≡ true → Decides b (IsHopeless P x) → HasPassed P (x ++ 0 ∷ []) n
passed-hopeless P x n b p t d =
    let h = d.0 t in
    let I = p.upto in
    record {
      earlier = p.earlier;
      upto = record {
        listed = λ u i. let l = I.listed u i in (l.0, l.1, before-longer u x (0 ∷ []) l.2);
        whole = λ u word not below. I.whole u word not (hopeless-not P x u h not (below-zero x u below));
        none = λ u good below. I.none u good (hopeless-not P x u h good.2 (below-zero x u below));
        falling = I.falling;
      };
      number = p.number;
    }

not-of : (X : Type 0) (b : Bool) → b ≡ false → Decides b X → ¬ X
not-of X b f d x = let t = d.1 x in cc

-- a word that is not hopeless is one at which a search without hopeless words would stand
pub at-hopeful : (P : Problem) (x : List ℕ) (n : ℕ) (b : Bool) → IsWord P x → HasPassed P x n → b ≡ false → Decides b (IsHopeless P x) → IsAt P x n
at-hopeful P x n b word p f d = record { word = word; hopeful = not-of (IsHopeless P x) b f d; earlier = p.earlier; upto = p.upto; number = p.number }

-- it is counted, unless it is complete
pub passed-visited : (P : Problem) (x : List ℕ) (n : ℕ) (b : Bool) → IsProblem P → IsAt P x n → b ≡ false → Decides b (IsComplete P x) → HasPassed P (x ++ 0 ∷ []) (n + 1)
passed-visited P x n b L a f d = record {
  earlier = x ∷ a.earlier;
  upto = visit P L x a.earlier a.word a.hopeful (not-of (IsComplete P x) b f d) a.upto;
  number = let e = a.number in omega (arith, e);
}

-- and where it is complete, it is the first good word
pub found-here : (P : Problem) (x : List ℕ) (n budget : ℕ) (b : Bool) → IsProblem P → IsAt P x n → n ≤ budget → b ≡ true → Decides b (IsComplete P x) → IsFirst P x × IsEffortWithin P budget
found-here P x n budget b L a h t d = (found-first P L x n a (d.0 t), (n, h, found-effort P L x n a (d.0 t)))

pub spent-here : (P : Problem) (x : List ℕ) (n budget : ℕ) (b : Bool) → IsProblem P → IsAt P x n → n ≡ budget → b ≡ false → Decides b (IsComplete P x) → IsEffortAbove P budget
spent-here P x n budget b L a e f d = subst (λ m. IsEffortAbove P m) e (spent-above P L x n a (not-of (IsComplete P x) b f d))

-- ---- from word to word

-- the walker, whose problem is Q, stands at y, which is w; the values of w below v are tried
pub record IsTrying (P Q : Problem) (w y : List ℕ) (v n budget : ℕ) : Type 0 where
  pub same : Q ≡ P
  pub there : y ≡ w
  pub within : n ≤ budget
  pub passed : HasPassed P (w ++ v ∷ []) n

-- the walker, whose problem is R, stands at x, which is w with the value v
pub record IsLonger (P R : Problem) (w x : List ℕ) (v : ℕ) : Type 0 where
  pub same : R ≡ P
  pub word : IsWord P w
  pub there : x ≡ w ++ v ∷ []
  pub fits : v < width P (made_by P w)

pub longer : (P Q R : Problem) (w y x : List ℕ) (v k n budget : ℕ) → IsWord P w → IsTrying P Q w y v n budget → v < k → k ≡ width P (made_by P w) → R ≡ Q → x ≡ y ++ v ∷ [] → IsLonger P R w x v
longer P Q R w y x v k n budget word t less k-is same x-is = record {
  same = same ∙ t.same;
  word = word;
  there = subst (λ u. x ≡ u ++ v ∷ []) t.there x-is;
  fits = subst (λ j. v < j) k-is less;
}

pub longer-problem : (P R : Problem) (w x : List ℕ) (v : ℕ) → IsLonger P R w x v → IsProblem P → IsProblem R
longer-problem P R w x v l L = subst IsProblem (sym l.same) L

pub longer-word : (P R : Problem) (w x : List ℕ) (v : ℕ) → IsLonger P R w x v → IsWord R x
longer-word P R w x v l = subst (λ (X : Problem). IsWord X x) (sym l.same) (subst (IsWord P) (sym l.there) (word-more P w v l.word l.fits))

pub longer-passed : (P R : Problem) (w x : List ℕ) (v n : ℕ) → IsLonger P R w x v → HasPassed P (w ++ v ∷ []) n → HasPassed R x n
longer-passed P R w x v n l p = subst (λ (X : Problem). HasPassed X x n) (sym l.same) (subst (λ u. HasPassed P u n) (sym l.there) p)

-- fewer decisions are open
pub longer-falls : (P R : Problem) (w x : List ℕ) (v t : ℕ) → IsProblem P → IsLonger P R w x v → open_count P (made_by P w) ≡ t → open_count R (made_by R x) < t
longer-falls P R w x v t L l e =
    subst (λ m. open_count R (made_by R x) < m) e
    (subst (λ (X : Problem). open_count X (made_by X x) < open_count P (made_by P w)) (sym l.same)
    (subst (λ u. open_count P (made_by P u) < open_count P (made_by P w)) (sym l.there) (step-falls P L w v l.word l.fits)))

-- where the search ends below it, it ends
pub longer-ended : (P R : Problem) (w x y : List ℕ) (v budget : ℕ) (seen : Seen) (o : Outcome) → IsLonger P R w x v → IsSeen R budget (after R x) y seen → seen ≡ Ended o → IsOutcome P budget y o
longer-ended P R w x y v budget seen o l s e = subst (λ (X : Problem). IsOutcome X budget y o) l.same (subst (IsSeen R budget (after R x) y) e s)

-- and after all that extend it, the next value is tried
pub longer-next : (P R S T : Problem) (w x y z : List ℕ) (v n budget : ℕ) (seen : Seen) (r : Option ℕ) → IsProblem P → IsLonger P R w x v → S ≡ R → IsSeen R budget (after R x) y seen → StaysAt x y seen → seen ≡ Passed n →
    T ≡ S → MatchOption r ((y ≡ []) × (z ≡ [])) (λ u. y ≡ z ++ u ∷ []) → IsTrying P T w z (v + 1) n budget
longer-next P R S T w x y z v n budget seen r L l s-same s stays e t-same out =
    let there : y ≡ x = subst (StaysAt x y) e stays in
    let p : (n ≤ budget) × HasPassed R (after R x) n = subst (IsSeen R budget (after R x) y) e s in
    let q : HasPassed P (after P (w ++ v ∷ [])) n = subst (λ u. HasPassed P (after P u) n) l.there (subst (λ (X : Problem). HasPassed X (after X x) n) l.same p.1) in
    record {
      same = t-same ∙ s-same ∙ l.same;
      there = popped y z w v r (there ∙ l.there) out;
      within = p.0;
      passed = record { earlier = q.earlier; upto = back P L w v q.earlier (word-more P w v l.word l.fits) q.upto; number = q.number };
    }

-- ---- all words

within-width : (P : Problem) (w : List ℕ) → IsWord P w → IsBefore w (after P [])
within-width P [] f = tt
within-width P (v ∷ w) f = inl f.0

-- what is before a place is before a good word that is not
before-good : (f u w : List ℕ) → ¬ IsBefore u f → IsBefore u f ⊎ ((u ≡ f) ⊎ IsBefore f u) → IsBefore w f → IsBefore w u
before-good f u w never (inl b) a = absurd (never b)
before-good f u w never (inr (inl e)) a = subst (IsBefore w) (sym e) a
before-good f u w never (inr (inr b)) a = before-trans w f u a b

after-counted : (P : Problem) (w : List ℕ) (n : ℕ) → IsProblem P → (p : HasPassed P (after P []) n) → In w p.earlier → IsCounted P w
after-counted P w n L p i =
    let l = p.upto.listed w i in
    record { word = l.0; hopeful = l.1; before = λ u g. before-good (after P []) u w (p.upto.none u (g.0, g.1, good-hopeful P L u g)) (before-total u (after P [])) l.2 }

after-effort : (P : Problem) (n : ℕ) → IsProblem P → HasPassed P (after P []) n → IsEffort P n
after-effort P n L p = (
  p.earlier,
  p.upto.falling,
  (λ w. (after-counted P w n L p, λ c. p.upto.whole w c.word c.hopeful (within-width P w c.word))),
  p.number,
)

-- after all words, there is no good one
pub none-after : (P : Problem) (w x : List ℕ) (n budget : ℕ) (seen : Seen) → IsProblem P → w ≡ [] → IsSeen P budget (after P w) x seen → seen ≡ Passed n →
    ((V : List Wiring) → Extends P.world.known P.world.wirings V P.root → ⊥) × IsEffortWithin P budget
none-after P w x n budget seen L empty s e =
    let p : (n ≤ budget) × HasPassed P (after P w) n = subst (IsSeen P budget (after P w) x) e s in
    let q : HasPassed P (after P []) n = subst (λ u. HasPassed P (after P u) n) empty p.1 in
    (none-extends P L (λ u g. ended P L q.earlier q.upto u (g.0, g.1, good-hopeful P L u g)), (n, p.0, after-effort P n L q))
