-- How much a search has left: the values that the decisions of a word still have.
use Rattle.std.proofs.Common.{◌≡◌, ℕ, ◌+◌, ◌-◌, ◌<◌, List, [], ◌∷◌, ◌++◌, refl, sym, arith}
use Rattle.osgi_world.specs.Decisions.{Made}
use Rattle.osgi_world.specs.ChoiceWords.{IsWord, made_after, decide, made_by, width}
use Rattle.osgi_world.specs.declared.problem.Problem.{Problem}
use Rattle.osgi_resolver_theory.proofs.Words.{word-next}

-- for each number of a word, the values from it on
abbrev pub left_from : Problem → Made → List ℕ → ℕ
left_from P D [] = 0
left_from P D (v ∷ w) = (width P D + 1 - v) + left_from P (decide P D v) w

-- with the values from v on that come next
abbrev pub left : Problem → List ℕ → ℕ → ℕ
left P w v = left_from P [] w + (width P (made_by P w) + 1 - v)

left-append : (P : Problem) (D : Made) (w : List ℕ) (v : ℕ) → left_from P D (w ++ v ∷ []) ≡ left_from P D w + (width P (made_after P D w) + 1 - v)
left-append P D [] v = omega arith
left-append P D (u ∷ w) v = let e = left-append P (decide P D u) w v in omega (arith, e)

-- one value more is tried
pub left-less : (P : Problem) (w : List ℕ) (v : ℕ) → v < width P (made_by P w) → left P w (v + 1) < left P w v
left-less P w v h = omega (arith, h)

-- all values are tried: the number before is
pub left-shorter : (P : Problem) (w : List ℕ) (v k : ℕ) → IsWord P (w ++ v ∷ []) → k ≡ width P (made_by P (w ++ v ∷ [])) → left P w (v + 1) < left P (w ++ v ∷ []) k
left-shorter P w v k f e = let h = word-next P w v f in let s = left-append P [] w v in omega (arith, h, s, e)

-- ---- the last number of a word

cons-inj_head : (x y : ℕ) (u w : List ℕ) → (x ∷ u) ≡ (y ∷ w) → x ≡ y
cons-inj_head x y u w e = cc

cons-inj_tail : (x y : ℕ) (u w : List ℕ) → (x ∷ u) ≡ (y ∷ w) → u ≡ w
cons-inj_tail x y u w e = cc

not-nil : (x : ℕ) (w : List ℕ) (v : ℕ) → (w ++ v ∷ []) ≡ [] → ⊥
not-nil x [] v e = cc
not-nil x (y ∷ w) v e = cc

pub front-same : (u w : List ℕ) (v k : ℕ) → (u ++ v ∷ []) ≡ (w ++ k ∷ []) → u ≡ w
front-same [] [] v k e = refl
front-same [] (y ∷ w) v k e = absurd (not-nil y w k (sym (cons-inj_tail v y [] (w ++ k ∷ []) e)))
front-same (x ∷ u) [] v k e = absurd (not-nil x u v (cons-inj_tail x k (u ++ v ∷ []) [] e))
front-same (x ∷ u) (y ∷ w) v k e =
    let h = cons-inj_head x y (u ++ v ∷ []) (w ++ k ∷ []) e in
    let t = front-same u w v k (cons-inj_tail x y (u ++ v ∷ []) (w ++ k ∷ []) e) in
    rw (h, t) refl
