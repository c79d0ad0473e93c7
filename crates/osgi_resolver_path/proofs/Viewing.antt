-- The wires of marks are those that the members have.
use Rattle.std.proofs.Common.{◌≡◌, ◌↔◌, inl, inr, List, [], ◌∷◌, ◌++◌, Option, Some, None, reverse, refl, sym, ap, ap₂, subst}
use Rattle.std.proofs.lemmas.List.{reverse-append, reverse-reverse}
use Rattle.osgi_base.specs.declared.ids.RevisionId.{RevisionId}
use Rattle.osgi_world.specs.Candidates.{IsProblem}
use Rattle.osgi_world.specs.Decisions as decisions
use Rattle.osgi_world.specs.Decisions.{Made, wired}
use Rattle.osgi_world.specs.DueDecisions.{members}
use Rattle.osgi_world.specs.Lists.{In}
use Rattle.osgi_world.specs.Partial.{partial}
use Rattle.osgi_world.specs.Wirings.{HasWire}
use Rattle.osgi_world.specs.declared.problem.Problem.{Problem}
use Rattle.osgi_world.specs.declared.wiring.Wire.{Wire}
use Rattle.osgi_resolver_theory.proofs.Lists.{flat_map-in, in-append_cases, in-append_left, in-append_right, in-flat_map}
use Rattle.osgi_resolver_theory.proofs.States.{member-new}
use Rattle.osgi_resolver_theory.proofs.Steps.{made-step, step-made}
use Rattle.osgi_resolver_theory.proofs.Views.{Got, got-stands, wire-cases, wire-got}
use Rattle.osgi_resolver_theory.specs.States.{State}
use Rattle.osgi_resolver_theory.specs.Steps.{all_steps}
use Rattle.osgi_resolver_path.proofs.Next.{right-state}
use Rattle.osgi_resolver_path.specs.computed.Courses.{AreSteps, CourseLists, IsRight, made_of, steps_of}
use Rattle.osgi_resolver_path.specs.computed.Steps.{steps_in}
use Rattle.osgi_resolver_path.specs.Wires.{wired_by, wired_in}
use Rattle.osgi_resolver_path.specs.declared.course.Mark.{Mark}
use Rattle.osgi_resolver_path.specs.declared.step.Step.{Step}
use Rattle.osgi_resolver_path.specs.declared.step.Step.TheVariants.{Attached, Wired as WiredStep}
use Rattle.osgi_resolver_path.specs.declared.wired.Wired.{Wired}

-- ---- lists

pub in-reverse : {X : Type 0} (xs : List X) (x : X) → In x xs → In x (reverse xs)
in-reverse [] x i = elim i [ ]
in-reverse (y ∷ ys) x (inl e) = subst (In x) (sym (reverse-append (y ∷ []) ys)) (in-append_right (reverse ys) (y ∷ []) x (inl e))
in-reverse (y ∷ ys) x (inr i) = subst (In x) (sym (reverse-append (y ∷ []) ys)) (in-append_left (reverse ys) (y ∷ []) x (in-reverse ys x i))

pub reverse-in : {X : Type 0} (xs : List X) (x : X) → In x (reverse xs) → In x xs
reverse-in xs x i = subst (In x) (reverse-reverse xs) (in-reverse (reverse xs) x i)

-- ---- steps

-- the steps of marks are those of their decisions
pub steps-all : (P : Problem) (ms : List Mark) → AreSteps P ms → steps_of ms ≡ all_steps P (made_of ms)
steps-all P [] a = refl
steps-all P (m ∷ ms) a = ap₂ (λ x y. x ++ y) a.0 (steps-all P ms a.1)

steps-in : (ms : List Mark) (m : Mark) (x : decisions.Step) → In m ms → In x (steps_in m.step) → In x (steps_of ms)
steps-in [] m x i j = elim i [ ]
steps-in (n ∷ ms) m x (inl e) j = in-append_left (steps_in n.step) (steps_of ms) x (subst (λ (k : Mark). In x (steps_in k.step)) e j)
steps-in (n ∷ ms) m x (inr i) j = in-append_right (steps_in n.step) (steps_of ms) x (steps-in ms m x i j)

in-steps : (ms : List Mark) (x : decisions.Step) → In x (steps_of ms) → (m : Mark) × In m ms × In x (steps_in m.step)
in-steps [] x i = elim i [ ]
in-steps (n ∷ ms) x i = elim (in-append_cases (steps_in n.step) (steps_of ms) x i) [
  | inl a ↦ (n, inl refl, a)
  | inr b ↦ let m = in-steps ms x b in (m.0, inr m.1, m.2)
]

-- ---- wires

pub wired-step : (s : Option Step) (w : Wired) → In w (wired_by s) → In (wired w.revision w.wire) (steps_in s)
wired-step None w i = elim i [ ]
wired-step (Some (Attached h f)) w i = elim i [ ]
wired-step (Some (WiredStep r x)) w (inl e) = inl (ap (λ (v : Wired). wired v.revision v.wire) e)
wired-step (Some (WiredStep r x)) w (inr i) = elim i [ ]

same-wired : (w : Wired) (r : RevisionId) (x : Wire) → w.revision ≡ r → w.wire ≡ x → w ≡ record { revision = r; wire = x }
same-wired w r x e f = ap₂ (λ (a : RevisionId) (b : Wire). let v : Wired = record { revision = a; wire = b } in v) e f

pub step-wired : (s : Option Step) (w : Wired) → In (wired w.revision w.wire) (steps_in s) → In w (wired_by s)
step-wired None w i = elim i [ ]
step-wired (Some (Attached h f)) w (inl e) = cc
step-wired (Some (Attached h f)) w (inr i) = elim i [ ]
step-wired (Some (WiredStep r x)) w (inl e) =
    let a : w.revision ≡ r = cc in
    let b : w.wire ≡ x = cc in
    inl (same-wired w r x a b)
step-wired (Some (WiredStep r x)) w (inr i) = elim i [ ]

pub wires-to : (P : Problem) (D : Made) → State P D → (r : RevisionId) (w : Wire) → In (wired r w) (all_steps P D) → In r (members P D) × HasWire (partial P D) r w
wires-to P D s r w i =
    let m = step-made P D s (wired r w) i in
    let g : Got P D r w = record { decision = m.decision; chosen = m.chosen; made = m.made; added = m.added } in
    ((got-stands P D s r w g).member, wire-got P D s r w g)

pub wires-from : (P : Problem) → IsProblem P → (D : Made) (r : RevisionId) (w : Wire) → In r (members P D) → HasWire (partial P D) r w → In (wired r w) (all_steps P D)
wires-from P L D r w i h = elim (wire-cases P D r w h) [
  | inl old ↦ absurd (member-new P L.root_is.not_in_force D r i (record { wiring = old.wiring; stands = old.stands; revision = old.revision }))
  | inr new ↦ made-step P D (wired r w) new.1.decision new.1.chosen new.1.made new.1.added
]

-- the wires of all marks, whichever first
pub wires-seen : (P : Problem) → IsProblem P → (marks : List Mark) (F : CourseLists) → IsRight P (reverse marks) F → (w : Wired) → In w (wired_in marks) ↔ In w.revision (members P (made_of (reverse marks))) × HasWire (partial P (made_of (reverse marks))) w.revision w.wire
wires-seen P L marks F r w =
    let ms = reverse marks in
    let D = made_of ms in
    let s = right-state P ms F r in
    let all = steps-all P ms r.steps in (
      λ i. let m = flat_map-in (λ (m : Mark). wired_by m.step) marks w i in
          wires-to P D s w.revision w.wire (subst (In (wired w.revision w.wire)) all (steps-in ms m.0 (wired w.revision w.wire) (in-reverse marks m.0 m.1) (wired-step m.0.step w m.2))),
      λ h. let m = in-steps ms (wired w.revision w.wire) (subst (In (wired w.revision w.wire)) (sym all) (wires-from P L D w.revision w.wire h.0 h.1)) in
          in-flat_map (λ (m : Mark). wired_by m.step) marks m.0 w (reverse-in marks m.0 m.1) (step-wired m.0.step w m.2),
    )
