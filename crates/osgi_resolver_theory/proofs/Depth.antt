-- A search from the empty word comes to an end: there is a first good word or none, and the effort is a number.
use Rattle.std.proofs.Common.{◌≡◌, ℕ, zero, suc, ◌+◌, ◌<◌, ◌≤◌, ◌⊎◌, inl, inr, List, [], ◌∷◌, ◌++◌, Option, None, Some, refl, sym, subst, arith}
use Rattle.osgi_world.specs.Candidates.{IsProblem}
use Rattle.osgi_world.specs.Decisions.{Decision, Made}
use Rattle.osgi_world.specs.DueDecisions.{next_decision}
use Rattle.osgi_world.specs.Hopeless.{IsHopeless}
use Rattle.osgi_world.specs.ChoiceWords.{IsComplete, IsWord, arity_of, made_by, make, width}
use Rattle.osgi_world.specs.declared.problem.Problem.{Problem}
use Rattle.osgi_resolver_theory.proofs.Decide.{hopeless-dec}
use Rattle.osgi_resolver_theory.proofs.Ends.{open-falls, open_count}
use Rattle.osgi_resolver_theory.proofs.Search.{at-start, at-value, ended-effort, ended-none, found-effort, found-first, hopeless-effort, hopeless-none, tried-all, tried-hopeless, tried-none}
use Rattle.osgi_resolver_theory.proofs.Words.{made-more, word-state}
use Rattle.osgi_resolver_theory.specs.Facts.{HasOutcome, has_first, has_none}
use Rattle.osgi_resolver_theory.specs.Search.{HasTried, IsAt}

-- it is decided whether a word is hopeless
abbrev pub AreDecided : Problem → Type 0
AreDecided P = (w : List ℕ) → IsWord P w → IsHopeless P w ⊎ ¬ IsHopeless P w

-- the search stands at a complete word
pub record IsFound (P : Problem) : Type 0 where
  pub at : List ℕ
  pub number : ℕ
  pub there : IsAt P at number
  pub complete : IsComplete P at

-- the search has tried all values of w
pub record IsDone (P : Problem) (w : List ℕ) : Type 0 where
  pub number : ℕ
  pub tried : HasTried P w (width P (made_by P w)) number

-- what the search comes to below a word
abbrev Below : Problem → List ℕ → Type 0
Below P w = IsFound P ⊎ IsDone P w

step-falls_go : (P : Problem) → IsProblem P → (D : Made) (v : ℕ) → Rattle.osgi_resolver_theory.specs.States.State P D → (o : Option Decision) → next_decision P D ≡ o → v < arity_of P o → open_count P (make o D v) < open_count P D
step-falls_go P L D v s None e h = absurd (omega (arith, h))
step-falls_go P L D v s (Some d) e h = open-falls P L D s d v e

-- a number more leaves fewer decisions open
pub step-falls : (P : Problem) → IsProblem P → (w : List ℕ) (v : ℕ) → IsWord P w → v < width P (made_by P w) → open_count P (made_by P (w ++ v ∷ [])) < open_count P (made_by P w)
step-falls P L w v f h = subst (λ D. open_count P D < open_count P (made_by P w)) (sym (made-more P w v)) (step-falls_go P L (made_by P w) v (word-state P w f) (next_decision P (made_by P w)) refl h)

child-done : (P : Problem) → IsProblem P → (w : List ℕ) (v : ℕ) → Below P (w ++ v ∷ []) → (IsFound P) ⊎ ((n : ℕ) × HasTried P w (v + 1) n)
child-done P L w v (inl f) = inl f
child-done P L w v (inr d) = inr (d.number, tried-all P L w v (width P (made_by P (w ++ v ∷ []))) d.number d.tried refl)

try-value : (P : Problem) → IsProblem P → (w : List ℕ) (v n : ℕ) → HasTried P w v n → v < width P (made_by P w) → IsHopeless P (w ++ v ∷ []) ⊎ ¬ IsHopeless P (w ++ v ∷ []) →
    ((m : ℕ) → IsAt P (w ++ v ∷ []) m → Below P (w ++ v ∷ [])) → (IsFound P) ⊎ ((m : ℕ) × HasTried P w (v + 1) m)
try-value P L w v n t h (inl k) rec = inr (n, tried-hopeless P L w v n t k)
try-value P L w v n t h (inr k) rec = child-done P L w v (rec n (at-value P L w v n t h k))

-- the values from v on, of which there are k
values-from : (P : Problem) → IsProblem P → AreDecided P → (w : List ℕ) → ((v : ℕ) → v < width P (made_by P w) → (m : ℕ) → IsAt P (w ++ v ∷ []) m → Below P (w ++ v ∷ [])) → (k v n : ℕ) → v + k ≡ width P (made_by P w) → HasTried P w v n → Below P w
values-from P L dec w rec zero v n e t = inr (record { number = n; tried = subst (λ u. HasTried P w u n) (let s = e in omega (arith, s)) t })
values-from P L dec w rec (suc k) v n e t =
    let less : v < width P (made_by P w) = (let s = e in omega (arith, s)) in
    elim (try-value P L w v n t less (dec (w ++ v ∷ []) (Rattle.osgi_resolver_theory.proofs.Words.word-more P w v t.word less)) (rec v less)) [
      | inl f ↦ inl f
      | inr m ↦ values-from P L dec w rec k (v + 1) m.0 (let s = e in omega (arith, s)) m.1
    ]

none-or-some : (P : Problem) (o : Option Decision) → (o ≡ None) ⊎ ¬ (o ≡ None)
none-or-some P None = inl refl
none-or-some P (Some d) = inr (λ e. cc)

at-word : (P : Problem) → IsProblem P → AreDecided P → (w : List ℕ) (n : ℕ) → IsAt P w n → (IsComplete P w) ⊎ ¬ IsComplete P w → ((v : ℕ) → v < width P (made_by P w) → (m : ℕ) → IsAt P (w ++ v ∷ []) m → Below P (w ++ v ∷ [])) → Below P w
at-word P L dec w n a (inl c) rec = inl (record { at = w; number = n; there = a; complete = c })
at-word P L dec w n a (inr c) rec = values-from P L dec w rec (width P (made_by P w)) 0 (n + 1) (omega arith) (tried-none P L w n a c)

-- below a word with at most so many open decisions
pub search-below : (P : Problem) → IsProblem P → AreDecided P → (depth : ℕ) (w : List ℕ) (n : ℕ) → open_count P (made_by P w) ≤ depth → IsAt P w n → Below P w
search-below P L dec zero w n h a = at-word P L dec w n a (none-or-some P (next_decision P (made_by P w))) (λ v less m b. let f = step-falls P L w v a.word less in absurd (omega (arith, f, h)))
search-below P L dec (suc depth) w n h a = at-word P L dec w n a (none-or-some P (next_decision P (made_by P w))) (λ v less m b. search-below P L dec depth (w ++ v ∷ []) m (let f = step-falls P L w v a.word less in omega (arith, f, h)) b)

outcome-of : (P : Problem) → IsProblem P → Below P [] → HasOutcome P
outcome-of P L (inl f) = (has_first f.at (found-first P L f.at f.number f.there f.complete), (f.number, found-effort P L f.at f.number f.there f.complete))
outcome-of P L (inr d) = (has_none (ended-none P L (width P (made_by P [])) d.number d.tried refl), (d.number, ended-effort P L (width P (made_by P [])) d.number d.tried refl))

from-start : (P : Problem) → IsProblem P → AreDecided P → IsHopeless P [] ⊎ ¬ IsHopeless P [] → HasOutcome P
from-start P L dec (inl h) = (has_none (hopeless-none P L h), (0, hopeless-effort P L h))
from-start P L dec (inr h) = outcome-of P L (search-below P L dec (open_count P (made_by P [])) [] 0 (omega arith) (at-start P L h))

-- there is a first good word or none, and the effort is a number
pub outcome : (P : Problem) → IsProblem P → HasOutcome P
outcome P L = let dec : AreDecided P = λ w f. hopeless-dec P L w in from-start P L dec (dec [] tt)
