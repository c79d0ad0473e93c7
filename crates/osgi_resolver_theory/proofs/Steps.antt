-- The wirings of a state hold what the present ones hold with the steps of its decisions: so both say the same of sources and clashes.
use Rattle.std.proofs.Common.{◌≡◌, ℕ, ◌⊎◌, ◌↔◌, inl, inr, List, [], ◌∷◌, map, Some, refl, sym, ◌∙◌, ap, subst}
use Rattle.osgi_base.specs.declared.ids.RevisionId.{RevisionId}
use Rattle.osgi_world.specs.Decisions.{Decision, Made, Step, adds, attaching, attached, value_made, wired}
use Rattle.osgi_world.specs.Partial.{partial}
use Rattle.osgi_world.specs.Hopeless.{IsSettled}
use Rattle.osgi_world.specs.Lists.{In}
use Rattle.osgi_world.specs.Sources.{Sources}
use Rattle.osgi_world.specs.Wirings.{Attached, HasWire}
use Rattle.osgi_world.specs.declared.problem.Problem.{Problem}
use Rattle.osgi_world.specs.declared.wiring.Wire.{Wire}
use Rattle.osgi_world.specs.declared.wiring.Wiring.{Wiring}
use Rattle.osgi_world.specs.declared.world.Known.{Known}
use Rattle.osgi_resolver_theory.proofs.Agree.{Part, implied-same, sources-same, uses-part}
use Rattle.osgi_resolver_theory.proofs.Lists.{in-append_cases, in-append_left, in-append_right, in-map, map-in}
use Rattle.osgi_resolver_theory.proofs.States.{next-due}
use Rattle.osgi_resolver_theory.proofs.Values.{value-cases, value-head, value-kept}
use Rattle.osgi_resolver_theory.proofs.Views.{Got, adds-attached, attached-cases, attached-made, attached-old, wire-cases, wire-got, wire-old}
use Rattle.osgi_resolver_theory.specs.States.{State, start, step}
use Rattle.osgi_resolver_theory.specs.Steps.{HasClash, all_steps, wiring_of, with_steps}

-- ---- what steps hold

step-attached : (s : Step) (r f : RevisionId) → (wiring_of s).revision ≡ r → In f (wiring_of s).fragments → s ≡ attached r f
step-attached (attached h g) r f e (inl i) = ap (λ x. attached x g) e ∙ ap (attached r) (sym i)
step-attached (attached h g) r f e (inr i) = elim i [ ]
step-attached (wired h w) r f e i = elim i [ ]

step-wired : (s : Step) (r : RevisionId) (w : Wire) → (wiring_of s).revision ≡ r → In w (wiring_of s).wires → s ≡ wired r w
step-wired (attached h g) r w e i = elim i [ ]
step-wired (wired h x) r w e (inl i) = ap (λ y. wired y x) e ∙ ap (wired r) (sym i)
step-wired (wired h x) r w e (inr i) = elim i [ ]

pub steps-attached_cases : (W : List Wiring) (steps : List Step) (r f : RevisionId) → Attached (with_steps W steps) r f → Attached W r f ⊎ In (attached r f) steps
steps-attached_cases W steps r f h = elim (in-append_cases W (map wiring_of steps) h.wiring h.stands) [
  | inl i ↦ inl (record { wiring = h.wiring; stands = i; revision = h.revision; has = h.has })
  | inr i ↦ let m = map-in wiring_of steps h.wiring i in
      inr (subst (λ s. In s steps) (step-attached m.0 r f (ap (λ (g : Wiring). g.revision) (sym m.2) ∙ h.revision) (subst (λ (g : Wiring). In f g.fragments) m.2 h.has)) m.1)
]

pub steps-wire_cases : (W : List Wiring) (steps : List Step) (r : RevisionId) (w : Wire) → HasWire (with_steps W steps) r w → HasWire W r w ⊎ In (wired r w) steps
steps-wire_cases W steps r w h = elim (in-append_cases W (map wiring_of steps) h.wiring h.stands) [
  | inl i ↦ inl (record { wiring = h.wiring; stands = i; revision = h.revision; has = h.has })
  | inr i ↦ let m = map-in wiring_of steps h.wiring i in
      inr (subst (λ s. In s steps) (step-wired m.0 r w (ap (λ (g : Wiring). g.revision) (sym m.2) ∙ h.revision) (subst (λ (g : Wiring). In w g.wires) m.2 h.has)) m.1)
]

pub steps-attached : (W : List Wiring) (steps : List Step) (r f : RevisionId) → In (attached r f) steps → Attached (with_steps W steps) r f
steps-attached W steps r f i = record { wiring = wiring_of (attached r f); stands = in-append_right W (map wiring_of steps) (wiring_of (attached r f)) (in-map wiring_of steps (attached r f) i); revision = refl; has = inl refl }

pub steps-wire : (W : List Wiring) (steps : List Step) (r : RevisionId) (w : Wire) → In (wired r w) steps → HasWire (with_steps W steps) r w
steps-wire W steps r w i = record { wiring = wiring_of (wired r w); stands = in-append_right W (map wiring_of steps) (wiring_of (wired r w)) (in-map wiring_of steps (wired r w) i); revision = refl; has = inl refl }

pub steps-attached_old : (W : List Wiring) (steps : List Step) (r f : RevisionId) → Attached W r f → Attached (with_steps W steps) r f
steps-attached_old W steps r f h = record { wiring = h.wiring; stands = in-append_left W (map wiring_of steps) h.wiring h.stands; revision = h.revision; has = h.has }

pub steps-wire_old : (W : List Wiring) (steps : List Step) (r : RevisionId) (w : Wire) → HasWire W r w → HasWire (with_steps W steps) r w
steps-wire_old W steps r w h = record { wiring = h.wiring; stands = in-append_left W (map wiring_of steps) h.wiring h.stands; revision = h.revision; has = h.has }

-- ---- the steps of decisions

-- a step is of a decision that is made
pub record MadeStep (P : Problem) (D : Made) (x : Step) : Type 0 where
  pub decision : Decision
  pub chosen : ℕ
  pub made : value_made D decision ≡ Some chosen
  pub added : In x (adds P decision chosen)

pub step-made : (P : Problem) (D : Made) → State P D → (x : Step) → In x (all_steps P D) → MadeStep P D x
step-made P _ start x i = elim i [ ]
step-made P _ (step {D = D} {d = d} {v = v} s n h) x i = elim (in-append_cases (adds P d v) (all_steps P D) x i) [
  | inl a ↦ record { decision = d; chosen = v; made = value-head D d v; added = a }
  | inr b ↦ let m = step-made P D s x b in record { decision = m.decision; chosen = m.chosen; made = value-kept D d v m.decision m.chosen (next-due P D d n).3 m.made; added = m.added }
]

-- and a decision that is made has its steps
pub made-step : (P : Problem) (D : Made) (x : Step) (d : Decision) (v : ℕ) → value_made D d ≡ Some v → In x (adds P d v) → In x (all_steps P D)
made-step P [] x d v e i = cc
made-step P (t ∷ D) x d v e i = elim (value-cases D t.0 t.1 d v e) [
  | inl same ↦ in-append_left (adds P t.0 t.1) (all_steps P D) x (subst (λ y. In x (adds P y t.1)) same.0 (subst (λ u. In x (adds P d u)) same.1 i))
  | inr old ↦ in-append_right (adds P t.0 t.1) (all_steps P D) x (made-step P D x d v old i)
]

made-attached : (P : Problem) (D : Made) → (r f : RevisionId) → MadeStep P D (attached r f) → value_made D (attaching r f) ≡ Some 0
made-attached P D r f m =
    let a = adds-attached P m.decision m.chosen r f m.added in
    subst (λ d. value_made D d ≡ Some 0) (sym a.0) (subst (λ v. value_made D m.decision ≡ Some v) a.1 m.made)

made-wired : (P : Problem) (D : Made) → (r : RevisionId) (w : Wire) → MadeStep P D (wired r w) → Got P D r w
made-wired P D r w m = record { decision = m.decision; chosen = m.chosen; made = m.made; added = m.added }

-- ---- both hold the same

pub steps-to : (P : Problem) (D : Made) → State P D → (r : RevisionId) → Part P.world.known (with_steps P.world.wirings (all_steps P D)) (partial P D) r
steps-to P D s r = record {
  attached = λ f h. elim (steps-attached_cases P.world.wirings (all_steps P D) r f h) [ inl o ↦ attached-old P D r f o | inr i ↦ attached-made P D s r f (made-attached P D r f (step-made P D s (attached r f) i)) ];
  wires = λ w h t. elim (steps-wire_cases P.world.wirings (all_steps P D) r w h) [ inl o ↦ wire-old P D r w o | inr i ↦ wire-got P D s r w (made-wired P D r w (step-made P D s (wired r w) i)) ];
}

pub steps-from : (P : Problem) (D : Made) (r : RevisionId) → Part P.world.known (partial P D) (with_steps P.world.wirings (all_steps P D)) r
steps-from P D r = record {
  attached = λ f h. elim (attached-cases P D r f h) [ inl o ↦ steps-attached_old P.world.wirings (all_steps P D) r f o | inr m ↦ steps-attached P.world.wirings (all_steps P D) r f (made-step P D (attached r f) (attaching r f) 0 m.2 (inl refl)) ];
  wires = λ w h t. elim (wire-cases P D r w h) [ inl o ↦ steps-wire_old P.world.wirings (all_steps P D) r w o | inr m ↦ steps-wire P.world.wirings (all_steps P D) r w (made-step P D (wired r w) m.1.decision m.1.chosen m.1.made m.1.added) ];
}

-- where two lists of wirings hold the same of each revision, so are sources and clashes
pub same-sources : {K : List Known} {W V : List Wiring} → ((r : RevisionId) → Part K W V r) → ((r : RevisionId) → Part K V W r) → {r x : RevisionId} {p : List ℕ} → Sources K W r p x → Sources K V r p x
same-sources to from {r = r} s = sources-same (λ c. Unit {0}) (λ c u. to c) (λ c u. from c) (λ c d u w. tt) (to r) (from r) (λ c w. tt) s

pub same-clash : {K : List Known} {W V : List Wiring} → ((r : RevisionId) → Part K W V r) → ((r : RevisionId) → Part K V W r) → {A : RevisionId → Type 0} {r e : RevisionId} {u : List ℕ} → HasClash K W A r e u → HasClash K V A r e u
same-clash to from h = record {
  pair = (implied-same (λ x a. a) (λ x p y a s. same-sources to from s) (λ x p v a s. uses-part (to x) s) h.pair).1;
  clash = record {
    ours = h.clash.ours;
    ours_in = same-sources to from h.clash.ours_in;
    ours_out = λ s. h.clash.ours_out (same-sources from to s);
    theirs = h.clash.theirs;
    theirs_in = same-sources to from h.clash.theirs_in;
    theirs_out = λ s. h.clash.theirs_out (same-sources from to s);
  };
}

-- the clashes of a state are those of the present wirings with its steps
pub steps-clash : (P : Problem) (D : Made) → State P D → (A : RevisionId → Type 0) (r e : RevisionId) (u : List ℕ) → HasClash P.world.known (partial P D) A r e u ↔ HasClash P.world.known (with_steps P.world.wirings (all_steps P D)) A r e u
steps-clash P D s A r e u = (same-clash (steps-from P D) (steps-to P D s), same-clash (steps-to P D s) (steps-from P D))

-- the clashes among the settled revisions, where these are listed
pub clash-list : (P : Problem) (D : Made) → State P D → (settled : List RevisionId) → ((x : RevisionId) → In x settled ↔ IsSettled P D x) → (r e : RevisionId) (u : List ℕ) →
    HasClash P.world.known (with_steps P.world.wirings (all_steps P D)) (λ x. In x settled) r e u ↔ HasClash P.world.known (partial P D) (IsSettled P D) r e u
clash-list P D s settled is r e u = (
  λ h. let b = (steps-clash P D s (λ x. In x settled) r e u).1 h in record { pair = (implied-same (λ x i. (is x).0 i) (λ x p y i s. s) (λ x p v i h. h) b.pair).1; clash = b.clash },
  λ h. (steps-clash P D s (λ x. In x settled) r e u).0 (record { pair = (implied-same (λ x i. (is x).1 i) (λ x p y i s. s) (λ x p v i h. h) h.pair).1; clash = h.clash }),
)
