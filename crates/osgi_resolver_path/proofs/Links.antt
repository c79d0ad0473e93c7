-- The revisions that are wired to one, by the steps of a search and by what is kept of them.
use Rattle.std.proofs.Common.{◌≡◌, ◌==◌, ◌↔◌, ◌-◌, ◌<◌, inl, inr, ℕ, Bool, true, false, cond, length, take, List, [], ◌∷◌, ◌++◌, append-nil, length-append, Option, refl, sym, ◌∙◌, ap, subst, rules, arith}
use Rattle.std.proofs.lemmas.Bool.{eq-eqb, eqb-true}
use Rattle.std.proofs.Math.Seq.{take-append_seam}
use Rattle.std.specs.BTreeMap.{is_at}
use Rattle.std.specs.Ordering.{nat_cmp}
use Rattle.osgi_base.specs.declared.ids.RevisionId.{RevisionId}
use Rattle.osgi_resolver_path.proofs.Next.{right-state}
use Rattle.osgi_resolver_path.proofs.Viewing.{steps-all, wires-from, wires-to}
use Rattle.osgi_resolver_path.specs.Wires.{IsWiredTo}
use Rattle.osgi_resolver_path.specs.computed.Courses.{CourseLists, IsRight, made_of, steps_of}
use Rattle.osgi_resolver_path.specs.computed.Links.{AreLinks, TakesOff, holder_by, holders_of, provider_by, providers_of}
use Rattle.osgi_resolver_path.specs.declared.course.Mark.{Mark}
use Rattle.osgi_resolver_theory.proofs.Lists.{in-append_cases, in-append_left, in-append_right}
use Rattle.osgi_space_rows.specs.Agree.{id}
use Rattle.osgi_space_rows.specs.computed.Groups.{front, values_of}
use Rattle.osgi_space_rows.specs.declared.grouped.Grouped.{Grouped}
use Rattle.osgi_world.specs.Candidates.{IsProblem}
use Rattle.osgi_world.specs.Decisions.{Step, attached, wired}
use Rattle.osgi_world.specs.Lists.{In}
use Rattle.osgi_world.specs.declared.problem.Problem.{Problem}
use Rattle.osgi_world.specs.declared.wiring.Wire.{Wire}

-- ---- what was put at the end

is_at-nat : (x y : ℕ) → is_at (nat_cmp x) y ≡ (x == y)
is_at-nat x y = search rules

front-last : {V : Type 0} (xs : List V) (x : V) → front (xs ++ x ∷ []) ≡ xs
front-last xs x =
    let count : length (xs ++ x ∷ []) - 1 ≡ length xs = (let n = length-append xs (x ∷ []) in omega (arith, n)) in
    ap (λ n. take n (xs ++ x ∷ [])) count ∙ take-append_seam xs (x ∷ [])

-- what is put at the end and taken off again
put-back : {V : Type 0} (b : Bool) (xs : List V) (v : V) → cond b (front (xs ++ cond b (v ∷ []) [])) (xs ++ cond b (v ∷ []) []) ≡ xs
put-back true xs v = front-last xs v
put-back false xs v = append-nil xs

-- ---- the last step is taken back

last-is : {X : Type 0} (xs ys : List X) (x y : X) → xs ++ x ∷ [] ≡ ys ++ y ∷ [] → (xs ≡ ys) × (x ≡ y)
last-is [] [] x y e = (refl, cc)
last-is [] (b ∷ ys) x y e = absurd (let n = ap length e in let m = length-append ys (y ∷ []) in omega (arith, n, m))
last-is (a ∷ xs) [] x y e = absurd (let n = ap length e in let m = length-append xs (x ∷ []) in omega (arith, n, m))
last-is (a ∷ xs) (b ∷ ys) x y e =
    let tails : xs ++ x ∷ [] ≡ ys ++ y ∷ [] = cc in
    let heads : a ≡ b = cc in
    let rest = last-is xs ys x y tails in
    (λ i. heads i ∷ rest.0 i, rest.1)

pub some-trail : (holders : Grouped ℕ ℕ) (trail : List (Option ℕ)) (steps : List Step) → AreLinks holders trail steps → 0 < length steps → 0 < length trail
some-trail holders trail [] are some = absurd (omega (arith, some))
some-trail holders trail (s ∷ steps) are some = let n = ap length are.trail_is in let m = length-append (providers_of steps) (provider_by s ∷ []) in omega (arith, n, m)

module _ (holders new : Grouped ℕ ℕ) (rest : List (Option ℕ)) (steps : List Step) where
  off-last : (s : Step) → TakesOff holders new (provider_by s) → AreLinks holders (rest ++ provider_by s ∷ []) (s ∷ steps) → rest ≡ providers_of steps → AreLinks new rest steps
  off-last (attached h f) same are is = record { wired_to = λ n. same n ∙ are.wired_to n ∙ append-nil (holders_of n steps); trail_is = is }
  off-last (wired r w) takes are is = record {
    wired_to = λ n.
        takes n
        ∙ ap (λ b. cond b (front (values_of nat_cmp holders n)) (values_of nat_cmp holders n)) (is_at-nat w.capability.provider.0 n)
        ∙ ap (λ xs. cond (w.capability.provider.0 == n) (front xs) xs) (are.wired_to n)
        ∙ put-back (w.capability.provider.0 == n) (holders_of n steps) r.0;
    trail_is = is;
  }

  pub links-shorter : (trail : List (Option ℕ)) (last : Option ℕ) (s : Step) → trail ≡ rest ++ last ∷ [] → TakesOff holders new last → AreLinks holders trail (s ∷ steps) → AreLinks new rest steps
  links-shorter trail last s is takes are =
      let both = last-is rest (providers_of steps) last (provider_by s) (sym is ∙ are.trail_is) in
      off-last s (subst (TakesOff holders new) both.1 takes) (subst (λ (t : List (Option ℕ)). AreLinks holders t (s ∷ steps)) (is ∙ ap (λ (o : Option ℕ). rest ++ o ∷ []) both.1) are) both.0

pub links-undone : (holders new : Grouped ℕ ℕ) (trail rest : List (Option ℕ)) (last : Option ℕ) (old after : List Step) → 0 < length old → ((s : Step) (steps : List Step) → old ≡ s ∷ steps → after ≡ steps) → trail ≡ rest ++ last ∷ [] → TakesOff holders new last →
    AreLinks holders trail old → AreLinks new rest after
links-undone holders new trail rest last [] after some taken is takes are = absurd (omega (arith, some))
links-undone holders new trail rest last (s ∷ steps) after some taken is takes are = subst (AreLinks new rest) (sym (taken s steps refl)) (links-shorter holders new rest steps trail last s is takes are)

-- ---- what they say

cond-in : (here : Bool) (v n : ℕ) → In n (cond here (v ∷ []) []) → (here ≡ true) × (n ≡ v)
cond-in true v n (inl e) = (refl, e)
cond-in true v n (inr i) = elim i [ ]
cond-in false v n i = elim i [ ]

in-cond : (here : Bool) (v : ℕ) → here ≡ true → In v (cond here (v ∷ []) [])
in-cond true v e = inl refl
in-cond false v e = absurd (cc e)

-- a step wires n to p
abbrev Wires : ℕ → ℕ → List Step → Type 0
Wires p n steps = (w : Wire) × In (wired (id n) w) steps × (w.capability.provider.0 ≡ p)

holder-wires : (p n : ℕ) (steps : List Step) → In n (holders_of p steps) → Wires p n steps
holder-wires p n [] i = elim i [ ]
holder-wires p n (attached h f ∷ steps) i = elim (in-append_cases (holders_of p steps) [] n i) [
  | inl old ↦ let w = holder-wires p n steps old in (w.0, inr w.1, w.2)
  | inr none ↦ elim none [ ]
]
holder-wires p n (wired r x ∷ steps) i = elim (in-append_cases (holders_of p steps) (holder_by p (wired r x)) n i) [
  | inl old ↦ let w = holder-wires p n steps old in (w.0, inr w.1, w.2)
  | inr new ↦ let is = cond-in (x.capability.provider.0 == p) r.0 n new in (x, inl (ap (λ k. wired (id k) x) is.1), eqb-true x.capability.provider.0 p is.0)
]

wires-holder : (p n : ℕ) (steps : List Step) → Wires p n steps → In n (holders_of p steps)
wires-holder p n [] w = elim w.1 [ ]
wires-holder p n (s ∷ steps) w = elim w.1 [
  | inr old ↦ in-append_left (holders_of p steps) (holder_by p s) n (wires-holder p n steps (w.0, old, w.2))
  | inl new ↦ in-append_right (holders_of p steps) (holder_by p s) n (subst (λ (x : Step). In n (holder_by p x)) new (in-cond (w.0.capability.provider.0 == p) n (eq-eqb w.0.capability.provider.0 p w.2)))
]

-- of the steps of marks it is what members have
pub wired_to-seen : (P : Problem) → IsProblem P → (ms : List Mark) (F : CourseLists) → IsRight P ms F → (x : RevisionId) (n : ℕ) → In n (holders_of x.0 (steps_of ms)) ↔ IsWiredTo P (made_of ms) x n
wired_to-seen P L ms F r x n =
    let D = made_of ms in
    let all = steps-all P ms r.steps in (
      λ i.
          let w = holder-wires x.0 n (steps_of ms) i in
          let there = wires-to P D (right-state P ms F r) (id n) w.0 (subst (In (wired (id n) w.0)) all w.1) in
          (there.0, (w.0, there.1, ap id w.2)),
      λ h. wires-holder x.0 n (steps_of ms) (h.1.0, subst (In (wired (id n) h.1.0)) (sym all) (wires-from P L D (id n) h.1.0 h.0 h.1.1), ap (λ (y : RevisionId). y.0) h.1.2),
    )
