-- What a search that has come so far knows, and what it may answer.
use Rattle.std.proofs.Common.{◌≡◌, ◌≢◌, ℕ, suc, ◌+◌, ◌<◌, ◌≤◌, ◌⊎◌, inl, inr, List, [], ◌∷◌, ◌++◌, length, refl, sym, ◌∙◌, subst, IsTrue, arith}
use Rattle.osgi_world.specs.Candidates.{IsProblem, candidates}
use Rattle.osgi_world.specs.Consistency.{Extends}
use Rattle.osgi_world.specs.Effort.{IsBefore, IsCounted, IsEffort, IsEffortAbove, IsEffortWithin, IsFalling, IsFirst}
use Rattle.osgi_world.specs.Hopeless.{IsHopeless, no_candidate}
use Rattle.osgi_world.specs.Lists.{In}
use Rattle.osgi_world.specs.Lookups.{is_effective, is_optional, requirement_count}
use Rattle.osgi_world.specs.ChoiceWords.{IsComplete, IsGood, IsWord, made_by, width}
use Rattle.osgi_world.specs.declared.problem.Problem.{Problem}
use Rattle.osgi_world.specs.declared.wiring.ReqRef.{ReqRef}
use Rattle.osgi_world.specs.declared.wiring.Wiring.{Wiring}
use Rattle.osgi_resolver_theory.proofs.Order.{before-not_same, before-total, before-trans}
use Rattle.osgi_resolver_theory.proofs.States.{in-payload}
use Rattle.osgi_resolver_theory.proofs.Walk.{back, begins-hopeless, begun, ended, skip, visit}
use Rattle.osgi_resolver_theory.proofs.Words.{good-hopeful, good-of_extends, hopeful-good, hopeless-more, word-more, word-prefix}
use Rattle.osgi_resolver_theory.specs.Search.{HasTried, IsAt, IsHopefulEnd, Upto}

good-here : (P : Problem) (L : IsProblem P) (w : List ℕ) → IsGood P w → IsHopefulEnd P w
good-here P L w g = (g.0, g.1, good-hopeful P L w g)

-- ---- the moves

-- at the start
pub at-start : (P : Problem) (L : IsProblem P) → ¬ IsHopeless P [] → IsAt P [] 0
at-start P L h = record { word = tt; hopeful = h; earlier = []; upto = begun P L; number = refl }

-- a word that is not complete is counted, and its values are tried from 0
pub tried-none : (P : Problem) (L : IsProblem P) (x : List ℕ) (n : ℕ) → IsAt P x n → ¬ IsComplete P x → HasTried P x 0 (n + 1)
tried-none P L x n a c = record {
  word = a.word;
  hopeful = a.hopeful;
  earlier = x ∷ a.earlier;
  upto = visit P L x a.earlier a.word a.hopeful c a.upto;
  number = let e = a.number in omega (arith, e);
}

-- a value whose word is hopeless is tried
pub tried-hopeless : (P : Problem) (L : IsProblem P) (w : List ℕ) (v n : ℕ) → HasTried P w v n → IsHopeless P (w ++ v ∷ []) → HasTried P w (v + 1) n
tried-hopeless P L w v n t h = record {
  word = t.word;
  hopeful = t.hopeful;
  earlier = t.earlier;
  upto = skip P L w v t.earlier h t.upto;
  number = t.number;
}

-- a value whose word is not hopeless is where it goes on
pub at-value : (P : Problem) (L : IsProblem P) (w : List ℕ) (v n : ℕ) → HasTried P w v n → v < width P (made_by P w) → ¬ IsHopeless P (w ++ v ∷ []) → IsAt P (w ++ v ∷ []) n
at-value P L w v n t r h = record {
  word = word-more P w v t.word r;
  hopeful = h;
  earlier = t.earlier;
  upto = t.upto;
  number = t.number;
}

hopeful-prefix : (P : Problem) (L : IsProblem P) (w : List ℕ) (v : ℕ) → IsWord P (w ++ v ∷ []) → ¬ IsHopeless P (w ++ v ∷ []) → ¬ IsHopeless P w
hopeful-prefix P L w v f h k = h (hopeless-more P L w v f k)

-- where all values of w with v are tried, v is tried
pub tried-all : (P : Problem) (L : IsProblem P) (w : List ℕ) (v k n : ℕ) → HasTried P (w ++ v ∷ []) k n → k ≡ width P (made_by P (w ++ v ∷ [])) → HasTried P w (v + 1) n
tried-all P L w v k n t e = record {
  word = word-prefix P w (v ∷ []) t.word;
  hopeful = hopeful-prefix P L w v t.word t.hopeful;
  earlier = t.earlier;
  upto = back P L w v t.earlier t.word (subst (λ k. Upto P ((w ++ v ∷ []) ++ k ∷ []) t.earlier) e t.upto);
  number = t.number;
}

-- ---- lists of words

in-tail_go : (y u : List ℕ) (M : List (List ℕ)) → (u ≡ y) ⊎ In u M → u ≢ y → In u M
in-tail_go y u M (inl e) d = absurd (d e)
in-tail_go y u M (inr i) d = i

not-same : (u v : List ℕ) → IsBefore u v → u ≢ v
not-same u v b e = before-not_same v (subst (λ w. IsBefore w v) e b)

falling-head : (x y : List ℕ) (K M : List (List ℕ)) → ((u : List ℕ) → In u K → IsBefore u x) → IsFalling K → ((u : List ℕ) → In u M → IsBefore u y) → ((u : List ℕ) → (u ≡ x) ⊎ In u K → (u ≡ y) ⊎ In u M) → (x ≡ y) ⊎ In x M →
    (((u : List ℕ) → In u K → In u M) → length K ≤ length M) → (((u : List ℕ) → (u ≡ x) ⊎ In u K → In u M) → suc (length K) ≤ length M) → suc (length K) ≤ suc (length M)
falling-head x y K M first fk top sub (inl e) tails whole = let h = tails (λ u i. in-tail_go y u M (sub u (inr i)) (λ f. not-same u x (first u i) (f ∙ sym e))) in omega (arith, h)
falling-head x y K M first fk top sub (inr j) tails whole =
    let h = whole (λ u i. in-tail_go y u M (sub u i) (λ f. elim i [
      | inl e ↦ not-same x y (top x j) (sym e ∙ f)
      | inr k ↦ not-same u y (before-trans u x y (first u k) (top x j)) f
    ])) in
    omega (arith, h)

-- a falling list is no longer than one that has all of its words
pub falling-length : (K M : List (List ℕ)) → IsFalling K → IsFalling M → ((u : List ℕ) → In u K → In u M) → length K ≤ length M
falling-length [] M fk fm sub = omega arith
falling-length (x ∷ K) [] fk fm sub = absurd (sub x (inl refl))
falling-length (x ∷ K) (y ∷ M) fk fm sub = falling-head x y K M fk.0 fk.1 fm.0 sub (sub x (inl refl)) (λ s. falling-length K M fk.1 fm.1 s) (λ s. falling-length (x ∷ K) M fk fm.1 s)

-- the effort is one number
pub effort-once : (P : Problem) (m n : ℕ) → IsEffort P m → IsEffort P n → m ≡ n
effort-once P m n a b =
    let to = falling-length a.0 b.0 a.1 b.1 (λ u i. (b.2 u).1 ((a.2 u).0 i)) in
    let from = falling-length b.0 a.0 b.1 a.1 (λ u i. (a.2 u).1 ((b.2 u).0 i)) in
    let x = a.3 in let y = b.3 in
    omega (arith, to, from, x, y)

-- so many counted words are at most the effort
pub effort-least : (P : Problem) (n : ℕ) (K : List (List ℕ)) → IsEffort P n → IsFalling K → ((u : List ℕ) → In u K → IsCounted P u) → length K ≤ n
effort-least P n K e f c =
    let h = falling-length K e.0 f e.1 (λ u i. (e.2 u).1 (c u i)) in
    let x = e.3 in
    omega (arith, h, x)

-- the first good word is one
pub first-once : (P : Problem) (u w : List ℕ) → IsFirst P u → IsFirst P w → u ≡ w
first-once P u w a b = elim (before-total u w) [
  | inl x ↦ absurd (b.least u a.good x)
  | inr (inl e) ↦ e
  | inr (inr x) ↦ absurd (a.least w b.good x)
]

-- ---- answers

first-at : (P : Problem) (L : IsProblem P) (x u : List ℕ) → ¬ IsBefore u x → IsBefore u x ⊎ ((u ≡ x) ⊎ IsBefore x u) → (w : List ℕ) → IsBefore w x → IsBefore w u
first-at P L x u never (inl b) w a = absurd (never b)
first-at P L x u never (inr (inl e)) w a = subst (λ y. IsBefore w y) (sym e) a
first-at P L x u never (inr (inr b)) w a = before-trans w x u a b

-- what stands before a place with no good word before it is counted
counted-before : (P : Problem) (L : IsProblem P) (x : List ℕ) (K : List (List ℕ)) → Upto P x K → (w : List ℕ) → In w K → IsCounted P w
counted-before P L x K t w i =
    let l = t.listed w i in
    record { word = l.0; hopeful = l.1; before = λ u g. first-at P L x u (t.none u (good-here P L u g)) (before-total u x) w l.2 }

-- a complete word at which the search stands is the first good one, and the number is the effort
pub found-first : (P : Problem) (L : IsProblem P) (x : List ℕ) (n : ℕ) → IsAt P x n → IsComplete P x → IsFirst P x
found-first P L x n a c = record { good = hopeful-good P L x a.word c a.hopeful; least = λ u g. a.upto.none u (good-here P L u g) }

pub found-effort : (P : Problem) (L : IsProblem P) (x : List ℕ) (n : ℕ) → IsAt P x n → IsComplete P x → IsEffort P n
found-effort P L x n a c = (
  a.earlier,
  a.upto.falling,
  (λ w. (counted-before P L x a.earlier a.upto w, λ k. a.upto.whole w k.word k.hopeful (k.before x (hopeful-good P L x a.word c a.hopeful)))),
  a.number,
)

-- where the values of the empty word are all tried, there is no good word, and the number is the effort
pub ended-none : (P : Problem) (L : IsProblem P) (k n : ℕ) → HasTried P [] k n → k ≡ width P (made_by P []) → (w : List ℕ) → ¬ IsGood P w
ended-none P L k n t e w g = ended P L t.earlier (subst (λ k. Upto P (k ∷ []) t.earlier) e t.upto) w (good-here P L w g)

within-width : (P : Problem) (L : IsProblem P) (w : List ℕ) → IsWord P w → IsBefore w (width P (made_by P []) ∷ [])
within-width P L [] f = tt
within-width P L (v ∷ w) f = inl f.0

pub ended-effort : (P : Problem) (L : IsProblem P) (k n : ℕ) → HasTried P [] k n → k ≡ width P (made_by P []) → IsEffort P n
ended-effort P L k n t e = (
  t.earlier,
  t.upto.falling,
  (λ w. (counted-before P L (k ∷ []) t.earlier t.upto w, λ c. t.upto.whole w c.word c.hopeful (subst (λ k. IsBefore w (k ∷ [])) (sym e) (within-width P L w c.word)))),
  t.number,
)

-- where the empty word is hopeless, there is no good word, and none is counted
pub hopeless-none : (P : Problem) (L : IsProblem P) → IsHopeless P [] → (w : List ℕ) → ¬ IsGood P w
hopeless-none P L h w g = good-hopeful P L w g (begins-hopeless P L [] w h g.0 tt)

pub hopeless-effort : (P : Problem) (L : IsProblem P) → IsHopeless P [] → IsEffort P 0
hopeless-effort P L h = ([], tt, (λ w. ((λ i. elim i [ ]), λ c. absurd (c.hopeful (begins-hopeless P L [] w h c.word tt)))), refl)

counted-at : (P : Problem) (L : IsProblem P) (x : List ℕ) (n : ℕ) → IsAt P x n → ¬ IsComplete P x → IsCounted P x
counted-at P L x n a c = record { word = a.word; hopeful = a.hopeful; before = λ u g. go u g (before-total u x) }
  where
    go : (u : List ℕ) → IsGood P u → IsBefore u x ⊎ ((u ≡ x) ⊎ IsBefore x u) → IsBefore x u
    go u g (inl b) = absurd (a.upto.none u (good-here P L u g) b)
    go u g (inr (inl e)) = absurd (c (subst (IsComplete P) e g.1))
    go u g (inr (inr b)) = b

in-cons : (P : Problem) (x u : List ℕ) (K : List (List ℕ)) → IsCounted P x → ((w : List ℕ) → In w K → IsCounted P w) → (u ≡ x) ⊎ In u K → IsCounted P u
in-cons P x u K c rest (inl e) = subst (IsCounted P) (sym e) c
in-cons P x u K c rest (inr i) = rest u i

-- at a word that is not complete, with as many before it as the budget, the effort is above the budget
pub spent-above : (P : Problem) (L : IsProblem P) (x : List ℕ) (n : ℕ) → IsAt P x n → ¬ IsComplete P x → IsEffortAbove P n
spent-above P L x n a c = (
  x ∷ a.earlier,
  ((λ u i. (a.upto.listed u i).2), a.upto.falling),
  (λ u i. in-cons P x u a.earlier (counted-at P L x n a c) (counted-before P L x a.earlier a.upto) i),
  (let y = a.number in omega (arith, y)),
)

-- the effort is not both
pub within-not_above : (P : Problem) (n : ℕ) → IsEffortWithin P n → ¬ IsEffortAbove P n
within-not_above P n w a =
    let h = effort-least P w.0 a.0 w.2 a.1 a.2 in
    let x = w.1 in let y = a.3 in
    omega (arith, h, x, y)

-- there is no good word exactly where no wirings extend the present ones
pub none-extends : (P : Problem) → IsProblem P → ((w : List ℕ) → ¬ IsGood P w) → (V : List Wiring) → ¬ Extends P.world.known P.world.wirings V P.root
none-extends P L none V x = let w = good-of_extends P L V x in none w.0 w.1

-- a mandatory requirement of the root's own without candidate makes the empty word hopeless
pub root-missing : (P : Problem) (q : ReqRef) → q.owner ≡ P.root → q.index < requirement_count P.world.known P.root → IsTrue (is_effective P.world.known q) → ¬ IsTrue (is_optional P.world.known q) → candidates P q ≡ [] → IsHopeless P []
root-missing P q o i e m none = no_candidate P.root q (inl refl) (in-payload P [] P.root q (inl o) (subst (λ r. q.index < requirement_count P.world.known r) (sym o) i)) (record { effective = e; mandatory = m }) none
