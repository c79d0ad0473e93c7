-- The order of candidates: it is strict, so that a requirement has one list of them.
use Rattle.std.proofs.Common.{◌≡◌, ◌⊎◌, ◌↔◌, inl, inr, List, [], ◌∷◌, refl, sym, ◌∙◌, ap, subst, arith}
use Rattle.osgi_base.specs.declared.ids.RevisionId.{RevisionId}
use Rattle.osgi_world.specs.Candidates.{CanBeAsked, IsCandidate, IsPreferred, IsProblem, candidates}
use Rattle.osgi_world.specs.Lists.{In, Two}
use Rattle.osgi_world.specs.Lookups.{bundle_of}
use Rattle.osgi_world.specs.declared.problem.Problem.{Problem}
use Rattle.osgi_world.specs.declared.wiring.CapRef.{CapRef}
use Rattle.osgi_world.specs.declared.wiring.ReqRef.{ReqRef}
use Rattle.osgi_resolver_theory.proofs.Laws.{laws}

-- at most one of two is preferred to the other
pub preferred-once : (P : Problem) → IsProblem P → (c d : CapRef) → IsPreferred P c d → IsPreferred P d c → ⊥
preferred-once P L c d (inl a) (inl b) = a.1 b.0
preferred-once P L c d (inl a) (inr (same, b)) = a.1 (same.1 a.0)
preferred-once P L c d (inr (same, a)) (inl b) = b.1 (same.1 b.0)
preferred-once P L c d (inr (same, inl a)) (inr (back, inl b)) = (laws P L).higher_once c d a b
preferred-once P L c d (inr (same, inl a)) (inr (back, inr b)) = b.0 a
preferred-once P L c d (inr (same, inr a)) (inr (back, inl b)) = a.0 b
preferred-once P L c d (inr (same, inr (n, inl a))) (inr (back, inr (m, inl b))) = omega (arith, a, b)
preferred-once P L c d (inr (same, inr (n, inl a))) (inr (back, inr (m, inr (e, b)))) = let x = ap (bundle_of P.world.known) e in omega (arith, a, x)
preferred-once P L c d (inr (same, inr (n, inr (e, a)))) (inr (back, inr (m, inl b))) = let x = ap (bundle_of P.world.known) e in omega (arith, b, x)
preferred-once P L c d (inr (same, inr (n, inr (e, inl a)))) (inr (back, inr (m, inr (f, inl b)))) = omega (arith, a, b)
preferred-once P L c d (inr (same, inr (n, inr (e, inl a)))) (inr (back, inr (m, inr (f, inr b)))) = let x = ap (λ (r : RevisionId). r.0) b.0 in omega (arith, a, x)
preferred-once P L c d (inr (same, inr (n, inr (e, inr a)))) (inr (back, inr (m, inr (f, inl b)))) = let x = ap (λ (r : RevisionId). r.0) a.0 in omega (arith, b, x)
preferred-once P L c d (inr (same, inr (n, inr (e, inr a)))) (inr (back, inr (m, inr (f, inr b)))) = let x = a.1 in let y = b.1 in omega (arith, x, y)

pub preferred-other : (P : Problem) → IsProblem P → (c d : CapRef) → c ≡ d → IsPreferred P c d → ⊥
preferred-other P L c d e p = preferred-once P L c d p (subst (λ x. IsPreferred P x c) e (subst (λ x. IsPreferred P c x) (sym e) p))

abbrev IsOrdered : Problem → List CapRef → Type 0
IsOrdered P cs = ¬ Two (λ c d. ¬ IsPreferred P c d) cs

-- what stands first is preferred to what stands later
first-go : (P : Problem) → IsProblem P → (c d : CapRef) (cs ds : List CapRef) → IsOrdered P (c ∷ cs) → IsOrdered P (d ∷ ds) → (c ≡ d) ⊎ In c ds → (d ≡ c) ⊎ In d cs → c ≡ d
first-go P L c d cs ds o p (inl e) j = e
first-go P L c d cs ds o p (inr i) (inl e) = sym e
first-go P L c d cs ds o p (inr i) (inr j) = absurd (o (inl (d, j, λ x. p (inl (c, i, λ y. preferred-once P L c d x y)))))

not-later : (P : Problem) → IsProblem P → (c : CapRef) (cs : List CapRef) → IsOrdered P (c ∷ cs) → In c cs → ⊥
not-later P L c cs o i = o (inl (c, i, λ x. preferred-other P L c c refl x))

tail-go : (x c d : CapRef) (ds : List CapRef) → c ≡ d → (x ≡ c → ⊥) → (x ≡ d) ⊎ In x ds → In x ds
tail-go x c d ds e n (inl f) = absurd (n (f ∙ sym e))
tail-go x c d ds e n (inr i) = i

cons-same : (c d : CapRef) (cs ds : List CapRef) → c ≡ d → cs ≡ ds → (c ∷ cs) ≡ (d ∷ ds)
cons-same c d cs ds e f = rw (e, f) refl

-- two ordered lists of the same capabilities are one
pub ordered-once : (P : Problem) → IsProblem P → (cs ds : List CapRef) → IsOrdered P cs → IsOrdered P ds → ((c : CapRef) → In c cs ↔ In c ds) → cs ≡ ds
ordered-once P L [] [] o p same = refl
ordered-once P L [] (d ∷ ds) o p same = absurd ((same d).1 (inl refl))
ordered-once P L (c ∷ cs) [] o p same = absurd ((same c).0 (inl refl))
ordered-once P L (c ∷ cs) (d ∷ ds) o p same =
    let e = first-go P L c d cs ds o p ((same c).0 (inl refl)) ((same d).1 (inl refl)) in
    cons-same c d cs ds e (ordered-once P L cs ds (λ t. o (inr t)) (λ t. p (inr t)) (λ x. (
      λ i. tail-go x c d ds e (λ f. not-later P L c cs o (subst (λ y. In y cs) f i)) ((same x).0 (inr i)),
      λ j. tail-go x d c cs (sym e) (λ f. not-later P L d ds p (subst (λ y. In y ds) f j)) ((same x).1 (inr j)),
    )))

-- so a problem has one list of candidates for what can be asked
pub candidates-one : (P : Problem) → IsProblem P → (q : ReqRef) → CanBeAsked P.world.known q → (cs : List CapRef) → ((c : CapRef) → In c cs ↔ IsCandidate P q c) → IsOrdered P cs → cs ≡ candidates P q
candidates-one P L q a cs is o = ordered-once P L cs (candidates P q) o (L.candidates_ordered q) (λ c. (λ i. (L.candidates_are q c a).1 ((is c).0 i), λ i. (is c).1 ((L.candidates_are q c a).0 i)))
