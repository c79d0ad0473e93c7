-- The layers of candidates that are out, when a decision is made and when it is taken back.
use Rattle.std.proofs.Common.{◌≡◌, ℕ, ◌<◌, ◌≤◌, inl, inr, List, [], ◌∷◌, ◌++◌, length, drop, reverse, Bool, true, false, if◌then◌else◌, Result, Ok, Err, is_ok, is_err, Option, None, Some, MatchOption, refl, sym, ◌∙◌, ap, subst, arith}
use Rattle.std.proofs.lemmas.List.{length-append, reverse-append, reverse-reverse}
use Rattle.std.proofs.Math.Seq.{drop-append_seam}
use Rattle.osgi_base.specs.declared.ids.RevisionId.{RevisionId}
use Rattle.osgi_candidate_rows.specs.Listed.{Listed}
use Rattle.osgi_resolver_path.specs.Standing.{Standing}
use Rattle.osgi_resolver_search.proofs.Midway.{popped}
use Rattle.osgi_resolver_theory.proofs.Lists.{in-append_cases}
use Rattle.osgi_resolver_theory.proofs.States.{member-kept, root-member}
use Rattle.osgi_resolver_theory.proofs.Words.{made-more}
use Rattle.osgi_world.specs.Candidates.{IsProblem}
use Rattle.osgi_world.specs.ChoiceWords.{make, made_by}
use Rattle.osgi_world.specs.Decisions.{Decision, Made}
use Rattle.osgi_world.specs.DueDecisions.{next_decision}
use Rattle.osgi_world.specs.Lists.{In}
use Rattle.osgi_world.specs.declared.problem.Choice.{Choice}
use Rattle.osgi_world.specs.declared.problem.Problem.{Problem}
use Rattle.osgi_world.specs.declared.wiring.CapRef.{CapRef}
use Rattle.osgi_resolver_solve.specs.computed.Layers.{AreDoomed, AreLayers, IsDoomed, IsInRows, Place, TakesDoomed, TakesRivals, problem_at}

-- ---- lists

snoc-reverse : (w : List ℕ) (v : ℕ) → reverse (w ++ v ∷ []) ≡ v ∷ reverse w
snoc-reverse w v = reverse-append w (v ∷ [])

reverse-snoc : (w : List ℕ) (v : ℕ) → reverse (v ∷ reverse w) ≡ w ++ v ∷ []
reverse-snoc w v = ap reverse (sym (snoc-reverse w v)) ∙ reverse-reverse (w ++ v ∷ [])

-- ---- what is out stays ruled out

kept-go : (P : Problem) (D : Made) (v : ℕ) (o : Option Decision) (r : RevisionId) → IsDoomed P D r → IsDoomed P (make o D v) r
kept-go P D v None r d = d
kept-go P D v (Some t) r d = record { member = d.member; is_member = member-kept P D t v d.member d.is_member; rivals = d.rivals }

doomed-more : (P : Problem) (w : List ℕ) (v : ℕ) (out : List CapRef) → AreDoomed P (made_by P w) out → AreDoomed P (made_by P (w ++ v ∷ [])) out
doomed-more P w v out d c i = subst (λ D. IsDoomed P D c.provider) (sym (made-more P w v)) (kept-go P (made_by P w) v (next_decision P (made_by P w)) c.provider (d c i))

doomed-both : (P : Problem) (D : Made) (xs ys : List CapRef) → AreDoomed P D xs → AreDoomed P D ys → AreDoomed P D (xs ++ ys)
doomed-both P D xs ys d e c i = elim (in-append_cases xs ys c i) [ inl j ↦ d c j | inr j ↦ e c j ]

layers-doomed : (P : Problem) (w counts : List ℕ) (out : List CapRef) → AreLayers P w counts out → AreDoomed P (made_by P (reverse w)) out
layers-doomed P [] [] out l = l
layers-doomed P (v ∷ w) (n ∷ counts) out l = l.0
layers-doomed P [] (n ∷ counts) out l = absurd l
layers-doomed P (v ∷ w) [] out l = absurd l

pub doomed-at : (P : Problem) (w counts : List ℕ) (out : List CapRef) → AreLayers P (reverse w) (reverse counts) out → AreDoomed P (made_by P w) out
doomed-at P w counts out l = subst (λ u. AreDoomed P (made_by P u) out) (reverse-reverse w) (layers-doomed P (reverse w) (reverse counts) out l)

-- ---- a layer more, and a layer less

layers-longer : (P : Problem) (w counts : List ℕ) (v n : ℕ) (taken out : List CapRef) → AreLayers P (reverse w) (reverse counts) out → n ≡ length taken → AreDoomed P (made_by P (w ++ v ∷ [])) taken →
    AreLayers P (reverse (w ++ v ∷ [])) (reverse (counts ++ n ∷ [])) (taken ++ out)
layers-longer P w counts v n taken out l is new =
    let all : AreDoomed P (made_by P (w ++ v ∷ [])) (taken ++ out) = doomed-both P (made_by P (w ++ v ∷ [])) taken out new (doomed-more P w v out (doomed-at P w counts out l)) in
    let here : AreDoomed P (made_by P (reverse (v ∷ reverse w))) (taken ++ out) = subst (λ u. AreDoomed P (made_by P u) (taken ++ out)) (sym (reverse-snoc w v)) all in
    let size = length-append taken out in
    let left : drop n (taken ++ out) ≡ out = ap (λ k. drop k (taken ++ out)) is ∙ drop-append_seam taken out in
    subst (λ u. AreLayers P u (reverse (counts ++ n ∷ [])) (taken ++ out)) (sym (snoc-reverse w v))
    (subst (λ u. AreLayers P (v ∷ reverse w) u (taken ++ out)) (sym (snoc-reverse counts n))
    (here, omega (arith, is, size), subst (AreLayers P (reverse w) (reverse counts)) (sym left) l))

layers-shorter : (P : Problem) (w counts : List ℕ) (v n : ℕ) (out : List CapRef) → AreLayers P (reverse (w ++ v ∷ [])) (reverse (counts ++ n ∷ [])) out → (n ≤ length out) × AreLayers P (reverse w) (reverse counts) (drop n out)
layers-shorter P w counts v n out l =
    let m : AreLayers P (v ∷ reverse w) (n ∷ reverse counts) out = subst (λ u. AreLayers P (v ∷ reverse w) u out) (snoc-reverse counts n) (subst (λ u. AreLayers P u (reverse (counts ++ n ∷ [])) out) (snoc-reverse w v) l) in
    (m.1, m.2)

some-go : (P : Problem) (w counts : List ℕ) (v : ℕ) (out : List CapRef) → AreLayers P (v ∷ w) (reverse counts) out → 0 < length counts
some-go P w [] v out l = absurd l
some-go P w (n ∷ counts) v out l = omega arith

-- ---- where the walk stands

abbrev Longer : Standing → ℕ → Standing
Longer s v = record s { word = s.word ++ v ∷ [] }

standing-eq : (s t : Standing) → s.world ≡ t.world → s.root ≡ t.root → s.word ≡ t.word → s ≡ t
standing-eq s t e f g = λ i. record { world = e i; root = f i; word = g i }

listed-eq : (a b : Listed) → a.choices ≡ b.choices → a.out ≡ b.out → a ≡ b
listed-eq a b e f = λ i. record { choices = e i; out = f i }

pub problem-eq : (s t : Standing) (l m : Listed) → s.world ≡ t.world → s.root ≡ t.root → l.choices ≡ m.choices → problem_at s l ≡ problem_at t m
problem-eq s t l m e f g = λ i. record { world = e i; root = f i; choices = g i }

-- the path is at the beginning of the problem, and the rows are its choices
pub at-problem : (P : Problem) (s : Standing) (l : Listed) (choices : List Choice) → s ≡ record { world = P.world; root = P.root; word = [] } → l ≡ record { choices = choices; out = [] } → choices ≡ P.choices → problem_at s l ≡ P
at-problem P s l choices e f g = λ i. record { world = ap (λ (x : Standing). x.world) e i; root = ap (λ (x : Standing). x.root) e i; choices = (ap (λ (x : Listed). x.choices) f ∙ g) i }

-- the word is empty
pub first-place : (s : Standing) (l m : Listed) (n : ℕ) → s.word ≡ [] → TakesRivals s.world.known s.root l n m → Path Place (record { problem = problem_at s m; word = s.word }) (record { problem = problem_at s l; word = [] })
first-place s l m n empty t = λ i. record { problem = problem-eq s s m l refl refl t.choices i; word = empty i }

pub in_rows-first : (s : Standing) (l m : Listed) (n : ℕ) → IsProblem (problem_at s l) → s.word ≡ [] → l.out ≡ [] → TakesRivals s.world.known s.root l n m → IsInRows s m []
in_rows-first s l m n problem empty all t = record {
  problem = subst (λ choices. IsProblem (record { world = s.world; root = s.root; choices = choices })) (sym t.choices) problem;
  layers =
      subst (λ w. AreLayers (problem_at s m) (reverse w) [] m.out) (sym empty)
      (λ c i. record { member = s.root; is_member = root-member (problem_at s m) []; rivals = t.rivals c (out-taken c i) });
}
  where
    out-taken : (c : CapRef) → In c m.out → In c t.taken
    out-taken c i = elim (in-append_cases t.taken l.out c (subst (In c) t.out i)) [ inl j ↦ j | inr j ↦ absurd (subst (In c) all j) ]

longer-problem : (s : Standing) (l m : Listed) (v n : ℕ) → TakesDoomed (Longer s v) l n m → problem_at (Longer s v) m ≡ problem_at s l
longer-problem s l m v n t = λ i. record { world = s.world; root = s.root; choices = t.choices i }

rows-longer : (s : Standing) (l m : Listed) (counts : List ℕ) (v n : ℕ) → IsInRows s l counts → TakesDoomed (Longer s v) l n m → IsInRows (Longer s v) m (counts ++ n ∷ [])
rows-longer s l m counts v n r t =
    let same = longer-problem s l m v n t in
    let problem : IsProblem (problem_at (Longer s v) m) = subst IsProblem (sym same) r.problem in
    let P = problem_at (Longer s v) m in
    let layers : AreLayers P (reverse s.word) (reverse counts) l.out = subst (λ (Q : Problem). AreLayers Q (reverse s.word) (reverse counts) l.out) (sym same) r.layers in
    let new : AreDoomed P (made_by P (s.word ++ v ∷ [])) t.taken = t.doomed P (record { world = refl; root_is = refl; is = problem }) in
    record {
      problem = problem;
      layers = subst (AreLayers P (reverse (s.word ++ v ∷ [])) (reverse (counts ++ n ∷ []))) (sym t.out) (layers-longer P s.word counts v n t.taken l.out layers t.number new);
    }

pub in_rows-longer : (s t : Standing) (l m : Listed) (counts more : List ℕ) (v n : ℕ) → IsInRows s l counts → t ≡ Longer s v → TakesDoomed t l n m → more ≡ counts ++ n ∷ [] → IsInRows t m more
in_rows-longer s t l m counts more v n r e takes more-is =
    subst (λ x. IsInRows x m more) (sym e) (subst (IsInRows (Longer s v) m) (sym more-is) (rows-longer s l m counts v n r (subst (λ x. TakesDoomed x l n m) e takes)))

-- the candidates that a decision took out are put back, and it is taken back
pub put-back : (t : Standing) (l m k : Listed) (n : ℕ) → TakesDoomed t l n m → k ≡ record m { out = drop n m.out } → k ≡ l
put-back t l m k n takes e =
    listed-eq k l (ap (λ (x : Listed). x.choices) e ∙ takes.choices)
    (ap (λ (x : Listed). x.out) e ∙ ap (drop n) takes.out ∙ ap (λ j. drop j (takes.taken ++ l.out)) takes.number ∙ drop-append_seam takes.taken l.out)

pub out-least : (t : Standing) (l m : Listed) (n : ℕ) → TakesDoomed t l n m → n ≤ length m.out
out-least t l m n takes = let e = takes.number in let f = ap length takes.out ∙ length-append takes.taken l.out in omega (arith, e, f)

back-go : (s t u : Standing) (v : ℕ) (r : Option ℕ) → t ≡ Longer s v → MatchOption r ((t.word ≡ []) × (u ≡ t)) (λ x. t ≡ record u { word = u.word ++ x ∷ [] }) → (u.world ≡ t.world) × (u.root ≡ t.root) × MatchOption r ((t.word ≡ []) × (u.word ≡ [])) (λ x. t.word ≡ u.word ++ x ∷ [])
back-go s t u v None e m = (ap (λ (x : Standing). x.world) m.1, ap (λ (x : Standing). x.root) m.1, (m.0, ap (λ (x : Standing). x.word) m.1 ∙ m.0))
back-go s t u v (Some x) e m = (sym (ap (λ (y : Standing). y.world) m), sym (ap (λ (y : Standing). y.root) m), ap (λ (y : Standing). y.word) m)

pub back-there : (s t u : Standing) (v : ℕ) (r : Option ℕ) → t ≡ Longer s v → MatchOption r ((t.word ≡ []) × (u ≡ t)) (λ x. t ≡ record u { word = u.word ++ x ∷ [] }) → u ≡ s
back-there s t u v r e m =
    let b = back-go s t u v r e m in
    standing-eq u s (b.0 ∙ ap (λ (x : Standing). x.world) e) (b.1 ∙ ap (λ (x : Standing). x.root) e) (popped t.word u.word s.word v r (ap (λ (x : Standing). x.word) e) b.2)

pub in_rows-same : (s u : Standing) (l k : Listed) (counts : List ℕ) → IsInRows s l counts → u ≡ s → k ≡ l → IsInRows u k counts
in_rows-same s u l k counts r e f = subst (λ x. IsInRows x k counts) (sym e) (subst (λ x. IsInRows s x counts) (sym f) r)

-- ---- the counts, where one more is kept and where memory runs out

pub counts-kept : {A E : Type 0} (r : Result A E) (failed : Bool) (counts more : List ℕ) (n : ℕ) → more ≡ (if is_ok r then counts ++ n ∷ [] else counts) → failed ≡ is_err r → failed ≡ true → more ≡ counts
counts-kept (Ok x) failed counts more n e f t = absurd (flip (sym f ∙ t))
  where
    flip : false ≡ true → ⊥
    flip g = cc
counts-kept (Err x) failed counts more n e f t = e

pub counts-more : {A E : Type 0} (r : Result A E) (failed : Bool) (counts more : List ℕ) (n : ℕ) → more ≡ (if is_ok r then counts ++ n ∷ [] else counts) → failed ≡ is_err r → failed ≡ false → more ≡ counts ++ n ∷ []
counts-more (Ok x) failed counts more n e f t = e
counts-more (Err x) failed counts more n e f t = absurd (flip (sym f ∙ t))
  where
    flip : true ≡ false → ⊥
    flip g = cc

-- ---- a decision less

-- a decision is taken back, and what it took out is put back
shorter-layers : (t : Standing) (l : Listed) (counts less : List ℕ) (v n : ℕ) → IsInRows (Longer t v) l counts → counts ≡ less ++ n ∷ [] → (n ≤ length l.out) × AreLayers (problem_at t l) (reverse t.word) (reverse less) (drop n l.out)
shorter-layers t l counts less v n r e = layers-shorter (problem_at t l) t.word less v n l.out (subst (λ x. AreLayers (problem_at t l) (reverse (t.word ++ v ∷ [])) (reverse x) l.out) e r.layers)

pub out-last : (s t : Standing) (l : Listed) (counts less : List ℕ) (v n : ℕ) → IsInRows s l counts → s ≡ Longer t v → counts ≡ less ++ n ∷ [] → n ≤ length l.out
out-last s t l counts less v n r e f = (shorter-layers t l counts less v n (subst (λ x. IsInRows x l counts) e r) f).0

pub in_rows-shorter : (s t : Standing) (l m : Listed) (counts less : List ℕ) (v n : ℕ) → IsInRows s l counts → s ≡ Longer t v → counts ≡ less ++ n ∷ [] → m ≡ record l { out = drop n l.out } → IsInRows t m less
in_rows-shorter s t l m counts less v n r e f g =
    let there = subst (λ x. IsInRows x l counts) e r in
    subst (λ x. IsInRows t x less) (sym g) (record { problem = there.problem; layers = (shorter-layers t l counts less v n there f).1 })

-- where a decision is made, it has a layer
pub counts-some : (s t : Standing) (l : Listed) (counts : List ℕ) (v : ℕ) → IsInRows s l counts → s ≡ Longer t v → 0 < length counts
counts-some s t l counts v r e =
    let there = subst (λ x. IsInRows x l counts) e r in
    some-go (problem_at t l) (reverse t.word) counts v l.out (subst (λ u. AreLayers (problem_at t l) u (reverse counts) l.out) (snoc-reverse t.word v) there.layers)
