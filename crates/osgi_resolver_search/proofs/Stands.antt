-- A search that stands at a word that is not hopeless: how it goes on, and what it answers.
use Rattle.std.proofs.Common.{◌≡◌, ℕ, ◌+◌, ◌<◌, ◌≤◌, Bool, true, false, Option, None, Some, MatchOption, List, [], refl, sym, ◌∙◌, subst, arith}
use Rattle.std.specs.Bool.{Decides}
use Rattle.osgi_world.specs.declared.wiring.Wiring.{Wiring}
use Rattle.osgi_world.specs.Consistency.{Extends}
use Rattle.osgi_world.specs.Candidates.{IsProblem}
use Rattle.osgi_world.specs.declared.problem.Problem.{Problem}
use Rattle.osgi_world.specs.ChoiceWords.{IsComplete, IsGood}
use Rattle.osgi_world.specs.Hopeless.{IsHopeless}
use Rattle.osgi_world.specs.Effort.{IsFirst, IsEffort, IsEffortWithin, IsEffortAbove}
use Rattle.osgi_resolver_theory.specs.Search.{IsAt}
use Rattle.osgi_resolver_theory.proofs.Search.{at-start, found-first, found-effort, hopeless-none, hopeless-effort, spent-above, none-extends}

-- the walker, whose problem is Q, stands at w, after n words
pub record IsStanding (P Q : Problem) (w : List ℕ) (n : ℕ) : Type 0 where
  pub same : Q ≡ P
  pub there : IsAt P w n

pub standing-init : (P : Problem) (w : List ℕ) (b : Bool) → IsProblem P → w ≡ [] → b ≡ false → Decides b (IsHopeless P w) → IsStanding P P w 0
standing-init P w b L e f d = record { same = refl; there = subst (λ u. IsAt P u 0) (sym e) (at-start P L (λ h. not-hopeless (d.1 (subst (IsHopeless P) (sym e) h)))) }
  where
    not-hopeless : b ≡ true → ⊥
    not-hopeless t = cc

pub hopeless-answer : (P : Problem) (w : List ℕ) (b : Bool) (budget : ℕ) → IsProblem P → w ≡ [] → b ≡ true → Decides b (IsHopeless P w) → ((V : List Wiring) → Extends P.world.known P.world.wirings V P.root → ⊥) × IsEffortWithin P budget
hopeless-answer P w b budget L e t d =
    let h : IsHopeless P [] = subst (IsHopeless P) e (d.0 t) in
    (none-extends P L (hopeless-none P L h), (0, omega arith, hopeless-effort P L h))

pub standing-hopeful : (P Q : Problem) (w : List ℕ) (n : ℕ) → IsStanding P Q w n → ¬ IsHopeless Q w
standing-hopeful P Q w n s h = s.there.hopeful (subst (λ (X : Problem). IsHopeless X w) s.same h)

complete-of : (P Q : Problem) (w : List ℕ) (n : ℕ) (b : Bool) → IsStanding P Q w n → b ≡ true → Decides b (IsComplete Q w) → IsComplete P w
complete-of P Q w n b s t d = subst (λ (X : Problem). IsComplete X w) s.same (d.0 t)

partial-of : (P Q : Problem) (w : List ℕ) (n : ℕ) (b : Bool) → IsStanding P Q w n → b ≡ false → Decides b (IsComplete Q w) → IsComplete P w → ⊥
partial-of P Q w n b s f d c = let t = d.1 (subst (λ (X : Problem). IsComplete X w) (sym s.same) c) in cc

pub found-answer : (P Q : Problem) (w : List ℕ) (n budget : ℕ) (b : Bool) → IsProblem P → IsStanding P Q w n → n ≤ budget → b ≡ true → Decides b (IsComplete Q w) → IsFirst P w × IsEffortWithin P budget
found-answer P Q w n budget b L s h t d =
    let c = complete-of P Q w n b s t d in
    (found-first P L w n s.there c, (n, h, found-effort P L w n s.there c))

-- what going on from w to x answers
abbrev pub GoesOn : Problem → List ℕ → List ℕ → Option ℕ → Type 0
GoesOn P w x r = (n : ℕ) → IsAt P w n → ¬ IsComplete P w → MatchOption r (((u : List ℕ) → ¬ IsGood P u) × IsEffort P (n + 1)) (λ k. IsAt P x (n + k))

gone : (P Q : Problem) (w x : List ℕ) (n : ℕ) (b : Bool) (r : Option ℕ) → IsStanding P Q w n → b ≡ false → Decides b (IsComplete Q w) → GoesOn Q w x r → MatchOption r (((u : List ℕ) → ¬ IsGood P u) × IsEffort P (n + 1)) (λ k. IsAt P x (n + k))
gone P Q w x n b r s f d go =
    subst (λ (X : Problem). MatchOption r (((u : List ℕ) → ¬ IsGood X u) × IsEffort X (n + 1)) (λ k. IsAt X x (n + k))) s.same
    (go n (subst (λ (X : Problem). IsAt X w n) (sym s.same) s.there) (λ c. let t = d.1 c in cc))

pub standing-next : (P Q R : Problem) (w x : List ℕ) (n k : ℕ) (b : Bool) (r : Option ℕ) → IsStanding P Q w n → b ≡ false → Decides b (IsComplete Q w) → R ≡ Q → r ≡ Some k → GoesOn Q w x r → IsStanding P R x (n + k)
standing-next P Q R w x n k b r s f d same is go = record {
  same = same ∙ s.same;
  there = subst (λ o. MatchOption o (((u : List ℕ) → ¬ IsGood P u) × IsEffort P (n + 1)) (λ k. IsAt P x (n + k))) is (gone P Q w x n b r s f d go);
}

pub none-answer : (P Q : Problem) (w x : List ℕ) (n budget : ℕ) (b : Bool) (r : Option ℕ) → IsProblem P → IsStanding P Q w n → n < budget → b ≡ false → Decides b (IsComplete Q w) → r ≡ None → GoesOn Q w x r →
    ((V : List Wiring) → Extends P.world.known P.world.wirings V P.root → ⊥) × IsEffortWithin P budget
none-answer P Q w x n budget b r L s h f d is go =
    let e = subst (λ o. MatchOption o (((u : List ℕ) → ¬ IsGood P u) × IsEffort P (n + 1)) (λ k. IsAt P x (n + k))) is (gone P Q w x n b r s f d go) in
    (none-extends P L e.0, (n + 1, omega (arith, h), e.1))

-- by how many words it goes on, at most
pub gone-most : (r : Option ℕ) (most k : ℕ) → r ≡ Some k → MatchOption r (Unit {0}) (λ k. (0 < k) × (k ≤ most)) → k ≤ most
gone-most r most k is h = (subst (λ o. MatchOption o (Unit {0}) (λ k. (0 < k) × (k ≤ most))) is h).1

pub spent-answer : (P Q : Problem) (w : List ℕ) (n budget : ℕ) (b : Bool) → IsProblem P → IsStanding P Q w n → n ≡ budget → b ≡ false → Decides b (IsComplete Q w) → IsEffortAbove P budget
spent-answer P Q w n budget b L s e f d = subst (λ m. IsEffortAbove P m) e (spent-above P L w n s.there (partial-of P Q w n b s f d))
