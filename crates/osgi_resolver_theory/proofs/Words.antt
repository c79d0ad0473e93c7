-- Words and the states that they come to.
use Rattle.std.proofs.Common.{◌≡◌, ℕ, ◌<◌, List, [], ◌∷◌, ◌++◌, Option, None, Some, refl, sym, ◌∙◌, ap, subst, arith}
use Rattle.osgi_world.specs.Candidates.{IsProblem}
use Rattle.osgi_world.specs.Consistency.{Extends}
use Rattle.osgi_world.specs.Decisions.{Decision, Made, arity}
use Rattle.osgi_world.specs.DueDecisions.{next_decision}
use Rattle.osgi_world.specs.Partial.{partial}
use Rattle.osgi_world.specs.Hopeless.{Hopeless, IsHopeless}
use Rattle.osgi_world.specs.ChoiceWords.{FitsFrom, IsComplete, IsGood, IsWord, made_after, decide, arity_of, made_by, make, partial_of, width}
use Rattle.osgi_world.specs.declared.problem.Problem.{Problem}
use Rattle.osgi_world.specs.declared.wiring.Wiring.{Wiring}
use Rattle.osgi_resolver_theory.proofs.Complete.{consistent-hopeful, hopeful-extends}
use Rattle.osgi_resolver_theory.proofs.Ends.{followed}
use Rattle.osgi_resolver_theory.proofs.Follow.{end-extends}
use Rattle.osgi_resolver_theory.proofs.Growth.{hopeless-kept}
use Rattle.osgi_resolver_theory.specs.States.{State, start, step}

-- ---- one number more

pub after-append : (P : Problem) (D : Made) (w u : List ℕ) → made_after P D (w ++ u) ≡ made_after P (made_after P D w) u
after-append P D [] u = refl
after-append P D (v ∷ w) u = after-append P (decide P D v) w u

pub fits-append : (P : Problem) (D : Made) (w u : List ℕ) → FitsFrom P D w → FitsFrom P (made_after P D w) u → FitsFrom P D (w ++ u)
fits-append P D [] u f g = g
fits-append P D (v ∷ w) u f g = (f.0, fits-append P (decide P D v) w u f.1 g)

pub append-fits : (P : Problem) (D : Made) (w u : List ℕ) → FitsFrom P D (w ++ u) → FitsFrom P D w × FitsFrom P (made_after P D w) u
append-fits P D [] u f = (tt, f)
append-fits P D (v ∷ w) u f = let r = append-fits P (decide P D v) w u f.1 in ((f.0, r.0), r.1)

-- what begins a word is a word
pub word-prefix : (P : Problem) (w u : List ℕ) → IsWord P (w ++ u) → IsWord P w
word-prefix P w u f = (append-fits P [] w u f).0

pub word-next : (P : Problem) (w : List ℕ) (v : ℕ) → IsWord P (w ++ v ∷ []) → v < width P (made_by P w)
word-next P w v f = (append-fits P [] w (v ∷ []) f).1.0

pub word-more : (P : Problem) (w : List ℕ) (v : ℕ) → IsWord P w → v < width P (made_by P w) → IsWord P (w ++ v ∷ [])
word-more P w v f h = fits-append P [] w (v ∷ []) f (h, tt)

pub made-more : (P : Problem) (w : List ℕ) (v : ℕ) → made_by P (w ++ v ∷ []) ≡ decide P (made_by P w) v
made-more P w v = after-append P [] w (v ∷ [])

-- ---- states

answer-go : (P : Problem) (D : Made) (v : ℕ) → State P D → (o : Option Decision) → next_decision P D ≡ o → v < arity_of P o → State P (make o D v)
answer-go P D v s None e h = s
answer-go P D v s (Some d) e h = step s e h

pub answer-state : (P : Problem) (D : Made) (v : ℕ) → State P D → v < width P D → State P (decide P D v)
answer-state P D v s h = answer-go P D v s (next_decision P D) refl h

after-state : (P : Problem) (D : Made) (w : List ℕ) → State P D → FitsFrom P D w → State P (made_after P D w)
after-state P D [] s f = s
after-state P D (v ∷ w) s f = after-state P (decide P D v) w (answer-state P D v s f.0) f.1

-- a word comes to a state
pub word-state : (P : Problem) (w : List ℕ) → IsWord P w → State P (made_by P w)
word-state P w f = after-state P [] w start f

answer-made : (P : Problem) (D : Made) (d : Decision) (v : ℕ) → next_decision P D ≡ Some d → decide P D v ≡ ((d, v) ∷ D)
answer-made P D d v e = ap (λ o. make o D v) e

width-made : (P : Problem) (D : Made) (d : Decision) → next_decision P D ≡ Some d → width P D ≡ arity P d
width-made P D d e = ap (arity_of P) e

-- and a state is that of a word
pub state-word : (P : Problem) (D : Made) → State P D → (w : List ℕ) × IsWord P w × (made_by P w ≡ D)
state-word P _ start = ([], tt, refl)
state-word P _ (step {D = D} {d = d} {v = v} s n r) =
    let w = state-word P D s in
    let here : next_decision P (made_by P w.0) ≡ Some d = ap (next_decision P) w.2 ∙ n in (
      w.0 ++ v ∷ [],
      word-more P w.0 v w.1 (subst (λ k. v < k) (sym (width-made P (made_by P w.0) d here)) r),
      made-more P w.0 v ∙ answer-made P (made_by P w.0) d v here ∙ ap (λ E. (d, v) ∷ E) w.2,
    )

-- ---- complete and hopeless words

none-wide : (P : Problem) (o : Option Decision) (v : ℕ) → o ≡ None → v < arity_of P o → ⊥
none-wide P None v e h = omega (arith, h)
none-wide P (Some d) v e h = cc

-- a complete word has no extension
pub complete-ends : (P : Problem) (w : List ℕ) (v : ℕ) → IsWord P (w ++ v ∷ []) → ¬ IsComplete P w
complete-ends P w v f c = none-wide P (next_decision P (made_by P w)) v c (word-next P w v f)

hopeless-go : (P : Problem) → IsProblem P → (D : Made) (v : ℕ) → State P D → (o : Option Decision) → next_decision P D ≡ o → v < arity_of P o → Hopeless P D → Hopeless P (make o D v)
hopeless-go P L D v s None e r h = h
hopeless-go P L D v s (Some d) e r h = hopeless-kept P L D d v s e r h

-- one number more makes no hopeless word hopeful
pub hopeless-more : (P : Problem) → IsProblem P → (w : List ℕ) (v : ℕ) → IsWord P (w ++ v ∷ []) → IsHopeless P w → IsHopeless P (w ++ v ∷ [])
hopeless-more P L w v f h =
    subst (Hopeless P) (sym (made-more P w v))
    (hopeless-go P L (made_by P w) v (word-state P w (word-prefix P w (v ∷ []) f)) (next_decision P (made_by P w)) refl (word-next P w v f) h)

-- a complete word is good exactly where it is not hopeless
pub good-hopeful : (P : Problem) → IsProblem P → (w : List ℕ) → IsGood P w → ¬ IsHopeless P w
good-hopeful P L w g = consistent-hopeful P L (made_by P w) (word-state P w g.0) g.2.consistent

pub hopeful-good : (P : Problem) → IsProblem P → (w : List ℕ) → IsWord P w → IsComplete P w → ¬ IsHopeless P w → IsGood P w
hopeful-good P L w f c h = (f, c, hopeful-extends P L (made_by P w) (word-state P w f) c h)

-- there is a good word exactly where there are wirings that extend the present ones
pub good-of_extends : (P : Problem) → IsProblem P → (V : List Wiring) → Extends P.world.known P.world.wirings V P.root → (w : List ℕ) × IsGood P w
good-of_extends P L V x =
    let e = followed P L V x in
    let w = state-word P e.made e.state in
    (w.0, (w.1, ap (next_decision P) w.2 ∙ e.complete, subst (λ D. Extends P.world.known P.world.wirings (partial P D) P.root) (sym w.2) (end-extends P L V x e.made e.state e.follows e.complete)))

pub extends-of_good : (P : Problem) (w : List ℕ) → IsGood P w → Extends P.world.known P.world.wirings (partial_of P w) P.root
extends-of_good P w g = g.2
