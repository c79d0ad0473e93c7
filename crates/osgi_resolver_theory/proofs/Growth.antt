-- One decision more: what is closed keeps its part and stays closed, what is settled stays settled, and what is hopeless stays so.
use Rattle.std.proofs.Common.{◌≡◌, ℕ, ◌<◌, ◌⊎◌, inl, inr, Bool, true, false, ◌||◌, cond, IsTrue, List, [], ◌∷◌, map, filter, Option, None, Some, refl, sym, ◌∙◌, ap, subst}
use Rattle.osgi_base.specs.declared.ids.RevisionId.{RevisionId}
use Rattle.osgi_world.specs.Candidates.{IsProblem, matching}
use Rattle.osgi_world.specs.Decisions.{Decision, IsMade, Made, arity, attaching, host, is_yes, pick, value_made}
use Rattle.osgi_world.specs.DueDecisions.{due_decisions, fragments_of, members, next_decision, payload}
use Rattle.osgi_world.specs.Partial.{partial, wiring}
use Rattle.osgi_world.specs.Hopeless.{Hopeless, IsDecided, IsSpatial, all_refused, clashes, no_candidate, not_offered, two_providers, two_singletons, two_versions}
use Rattle.osgi_world.specs.Lists.{In, Two}
use Rattle.osgi_world.specs.Lookups.{capability_namespace, symbolic_name, requirement_namespace}
use Rattle.osgi_world.specs.Satisfaction.{is_bundle, is_package}
use Rattle.osgi_world.specs.Wirings.{Attached, HasWire, InForce, InUse}
use Rattle.osgi_world.specs.declared.problem.Problem.{Problem}
use Rattle.osgi_world.specs.declared.wiring.ReqRef.{ReqRef}
use Rattle.osgi_world.specs.declared.wiring.Wire.{Wire}
use Rattle.osgi_world.specs.declared.wiring.Wiring.{Wiring}
use Rattle.osgi_resolver_theory.proofs.Agree.{Part, offer-same, package-part}
use Rattle.osgi_resolver_theory.proofs.Laws.{laws}
use Rattle.osgi_resolver_theory.proofs.Lists.{filter-in, in-append_cases, in-append_left, in-append_right, in-filter, in-map, map-in}
use Rattle.osgi_resolver_theory.proofs.Settled.{Grew, settled-clash, settled-implied, settled-stays}
use Rattle.osgi_resolver_theory.proofs.States.{AllAttached, IsDue, attaches, chooses, due-host, due-in, fragments-in, in-due_attach, in-fragments, in-payload, is_due-in, member-kept, member-new, next-due, payload-in, payload-kept, picks}
use Rattle.osgi_resolver_theory.proofs.Values.{made-kept, some-yes, value-cases, value-kept, yes-some}
use Rattle.osgi_resolver_theory.proofs.Views.{Got, adder, adder-host, attached-cases, attached-made, attached-old, by_choice, by_pick, got-candidate, in_force-cases, in_force-member, in_force-old, wire-cases, wire-got, wire-old}
use Rattle.osgi_resolver_theory.specs.States.{State, step}

none-some : {X : Type 0} {x : X} (o : Option X) → o ≡ None → o ≡ Some x → ⊥
none-some o e f = cc

got-kept : (P : Problem) (D : Made) (d : Decision) (v : ℕ) → value_made D d ≡ None → (r : RevisionId) (w : Wire) → Got P D r w → Got P ((d, v) ∷ D) r w
got-kept P D d v n r w g = record { decision = g.decision; chosen = g.chosen; made = value-kept D d v g.decision g.chosen n g.made; added = g.added }

-- ---- nothing is taken away

pub attached-kept : (P : Problem) (D : Made) (d : Decision) (v : ℕ) → State P ((d, v) ∷ D) → value_made D d ≡ None → (r f : RevisionId) → Attached (partial P D) r f → Attached (partial P ((d, v) ∷ D)) r f
attached-kept P D d v s n r f h = elim (attached-cases P D r f h) [
  | inl o ↦ attached-old P ((d, v) ∷ D) r f o
  | inr m ↦ attached-made P ((d, v) ∷ D) s r f (value-kept D d v (attaching r f) 0 n m.2)
]

pub wire-kept : (P : Problem) (D : Made) (d : Decision) (v : ℕ) → State P ((d, v) ∷ D) → value_made D d ≡ None → (r : RevisionId) (w : Wire) → HasWire (partial P D) r w → HasWire (partial P ((d, v) ∷ D)) r w
wire-kept P D d v s n r w h = elim (wire-cases P D r w h) [
  | inl o ↦ wire-old P ((d, v) ∷ D) r w o
  | inr m ↦ wire-got P ((d, v) ∷ D) s r w (got-kept P D d v n r w m.1)
]

pub in_force-kept : (P : Problem) (D : Made) (d : Decision) (v : ℕ) → (r : RevisionId) → InForce (partial P D) r → InForce (partial P ((d, v) ∷ D)) r
in_force-kept P D d v r h = elim (in_force-cases P D r h) [
  | inl o ↦ in_force-old P ((d, v) ∷ D) r o
  | inr m ↦ in_force-member P ((d, v) ∷ D) r (member-kept P D d v r m)
]

-- ---- what is closed

-- the next decision is none of a closed revision's that count
closed-not_next : (P : Problem) → IsProblem P → (D : Made) (d : Decision) → next_decision P D ≡ Some d → IsDecided P D (host d) → IsSpatial P d → ⊥
closed-not_next P L D d n (inl o) s =
    let x = next-due P D d n in
    member-new P L.root_is.not_in_force D (host d) (subst (λ m. In m (members P D)) (sym (due-host P D x.0 d x.2)) x.1) o
closed-not_next P L D d n (inr c) s =
    let x = next-due P D d n in
    let here : IsDue P D (host d) d = subst (λ m. IsDue P D m d) (sym (due-host P D x.0 d x.2)) x.2 in
    none-some (value_made D d) x.3 (c.1 d (is_due-in P D (host d) d here) s).1

-- a wire of the space is decided by what counts
spatial-wire : (P : Problem) → IsProblem P → (D : Made) → State P D → (r : RevisionId) (w : Wire) (g : Got P D r w) → IsTrue (is_bundle (capability_namespace P.world.known w.capability.owner w.capability.index) || is_package (capability_namespace P.world.known w.capability.owner w.capability.index)) → IsSpatial P g.decision
spatial-wire P L D s r w g t =
    let same = (laws P L).satisfied w.requirement w.capability (got-candidate P L D s r w g).satisfies in
    let here : IsTrue (is_bundle (requirement_namespace P.world.known w.requirement) || is_package (requirement_namespace P.world.known w.requirement)) = subst (λ k. IsTrue (is_bundle k || is_package k)) (sym same) t in
    elim (adder P g.decision g.chosen r w g.added) [ by_choice e c ↦ subst (IsSpatial P) e here | by_pick e z ↦ subst (IsSpatial P) e here ]

attached-back : (P : Problem) → IsProblem P → (D : Made) (d : Decision) (v : ℕ) → State P D → next_decision P D ≡ Some d → (c : RevisionId) → IsDecided P D c → (f : RevisionId) → (e : (attaching c f ≡ d) × (0 ≡ v) ⊎ (value_made D (attaching c f) ≡ Some 0)) → Attached (partial P D) c f
attached-back P L D d v s n c k f (inl same) = absurd (closed-not_next P L D d n (subst (λ x. IsDecided P D (host x)) same.0 k) (subst (IsSpatial P) same.0 tt))
attached-back P L D d v s n c k f (inr old) = attached-made P D s c f old

wire-back : (P : Problem) → IsProblem P → (D : Made) (d : Decision) (v : ℕ) → State P D → next_decision P D ≡ Some d → (c : RevisionId) → IsDecided P D c → (w : Wire) (g : Got P ((d, v) ∷ D) c w) → IsSpatial P g.decision → (g.decision ≡ d) × (g.chosen ≡ v) ⊎ (value_made D g.decision ≡ Some g.chosen) → HasWire (partial P D) c w
wire-back P L D d v s n c k w g t (inl same) = absurd (closed-not_next P L D d n (subst (IsDecided P D) (sym (adder-host P g.decision g.chosen c w g.added) ∙ ap host same.0) k) (subst (IsSpatial P) same.0 t))
wire-back P L D d v s n c k w g t (inr old) = wire-got P D s c w (record { decision = g.decision; chosen = g.chosen; made = old; added = g.added })

closed-part : (P : Problem) → IsProblem P → (D : Made) (d : Decision) (v : ℕ) → State P D → next_decision P D ≡ Some d → v < arity P d → (c : RevisionId) → IsDecided P D c → Part P.world.known (partial P ((d, v) ∷ D)) (partial P D) c
closed-part P L D d v s n r c k = record {
  attached = λ f h. elim (attached-cases P ((d, v) ∷ D) c f h) [
    | inl o ↦ attached-old P D c f o
    | inr m ↦ attached-back P L D d v s n c k f (value-cases D d v (attaching c f) 0 m.2)
  ];
  wires = λ w h t. elim (wire-cases P ((d, v) ∷ D) c w h) [
    | inl o ↦ wire-old P D c w o
    | inr m ↦ wire-back P L D d v s n c k w m.1 (spatial-wire P L ((d, v) ∷ D) (step s n r) c w m.1 t) (value-cases D d v m.1.decision m.1.chosen m.1.made)
  ];
}

closed-attached : (P : Problem) (D : Made) (c : RevisionId) → ((d : Decision) → In d (due_decisions P D c) → IsSpatial P d → IsMade D d) → AllAttached P D c
closed-attached P D c all f i = all (attaching c f) (in-due_attach P D c f i) tt

attached-fixed : (D : Made) (d : Decision) (v : ℕ) (c f : RevisionId) → value_made D d ≡ None → IsMade D (attaching c f) → (attaching c f ≡ d) × (0 ≡ v) ⊎ (value_made D (attaching c f) ≡ Some 0) → value_made D (attaching c f) ≡ Some 0
attached-fixed D d v c f n m (inl same) = absurd (none-some (value_made D d) n (subst (λ x. value_made D x ≡ Some m.0) same.0 m.1))
attached-fixed D d v c f n m (inr old) = old

owner-fixed : (P : Problem) (D : Made) (d : Decision) (v : ℕ) → value_made D d ≡ None → (c : RevisionId) → AllAttached P D c → (o : RevisionId) → (o ≡ c) ⊎ In o (fragments_of P ((d, v) ∷ D) c) → (o ≡ c) ⊎ In o (fragments_of P D c)
owner-fixed P D d v n c all o (inl e) = inl e
owner-fixed P D d v n c all o (inr i) =
    let f = fragments-in P ((d, v) ∷ D) c o i in
    inr (in-fragments P D c o f.0 (attached-fixed D d v c o n (all o f.0) (value-cases D d v (attaching c o) 0 f.1)))

-- where all attachments are made, the payload is what it was
pub payload-fixed : (P : Problem) (D : Made) (d : Decision) (v : ℕ) → value_made D d ≡ None → (c : RevisionId) → AllAttached P D c → (q : ReqRef) → In q (payload P ((d, v) ∷ D) c) → In q (payload P D c)
payload-fixed P D d v n c all q i = let r = payload-in P ((d, v) ∷ D) c q i in in-payload P D c q (owner-fixed P D d v n c all q.owner r.0) r.1

due-fixed : (P : Problem) (D : Made) (d : Decision) (v : ℕ) → value_made D d ≡ None → (c : RevisionId) → AllAttached P D c → (e : Decision) → IsDue P ((d, v) ∷ D) c e → IsDue P D c e
due-fixed P D d v n c all e (attaches f i s) = attaches f i s
due-fixed P D d v n c all e (chooses q i eff more m s) = chooses q (payload-fixed P D d v n c all q i) eff all m s
due-fixed P D d v n c all e (picks q x i eff more m j s) = picks q x (payload-fixed P D d v n c all q i) eff all m j s

pub closed-still : (P : Problem) (D : Made) (d : Decision) (v : ℕ) → value_made D d ≡ None → (c : RevisionId) → IsDecided P D c → IsDecided P ((d, v) ∷ D) c
closed-still P D d v n c (inl o) = inl o
closed-still P D d v n c (inr k) = inr (member-kept P D d v c k.0, λ e i t. made-kept D d v e n (k.1 e (is_due-in P D c e (due-fixed P D d v n c (closed-attached P D c k.1) e (due-in P ((d, v) ∷ D) c e i))) t))

pub grew : (P : Problem) → IsProblem P → (D : Made) (d : Decision) (v : ℕ) → State P D → next_decision P D ≡ Some d → v < arity P d →
    Grew P.world.known (partial P D) (partial P ((d, v) ∷ D)) (IsDecided P D) (IsDecided P ((d, v) ∷ D))
grew P L D d v s n r =
    let open' = (next-due P D d n).3 in
    let s' : State P ((d, v) ∷ D) = step s n r in
    record {
      up = λ c. record { attached = attached-kept P D d v s' open' c; wires = λ w h t. wire-kept P D d v s' open' c w h };
      kept = closed-part P L D d v s n r;
      still = closed-still P D d v open';
    }

-- ---- what is hopeless

two-cons : {X : Type 0} (R : X → X → Type 0) (x : X) (xs ys : List X) → ((y : X) → In y xs → In y ys) → (Two R xs → Two R ys) → Two R (x ∷ xs) → Two R (x ∷ ys)
two-cons R x xs ys more rest (inl h) = inl (h.0, more h.0 h.1, h.2)
two-cons R x xs ys more rest (inr t) = inr (rest t)

two-head : {X : Type 0} (R : X → X → Type 0) (z : X) (xs ys : List X) (b c : Bool) → (IsTrue b → IsTrue c) → ((y : X) → In y xs → In y ys) → (Two R xs → Two R ys) → Two R (cond b (z ∷ xs) xs) → Two R (cond c (z ∷ ys) ys)
two-head R z xs ys true true up more rest t = two-cons R z xs ys more rest t
two-head R z xs ys true false up more rest t = let f : false ≡ true = up refl in cc
two-head R z xs ys false true up more rest t = inr (rest t)
two-head R z xs ys false false up more rest t = rest t

-- two places of a filtered list are two of one that keeps more
pub two-filter : {X : Type 0} (R : X → X → Type 0) (p q : X → Bool) → ((x : X) → IsTrue (p x) → IsTrue (q x)) → (xs : List X) → Two R (filter p xs) → Two R (filter q xs)
two-filter R p q up [] t = elim t [ ]
two-filter R p q up (z ∷ xs) t = two-head R z (filter p xs) (filter q xs) (p z) (q z) (up z) (λ y i. let r = filter-in p xs y i in in-filter q xs y r.0 (up y r.1)) (two-filter R p q up xs) t

versions-kept : (P : Problem) (D : Made) (d : Decision) (v : ℕ) → value_made D d ≡ None → (g : Wiring) → In g (partial P D) → Two (λ e f. symbolic_name P.world.known e ≡ symbolic_name P.world.known f) g.fragments → Hopeless P ((d, v) ∷ D)
versions-kept P D d v n g i t = elim (in-append_cases P.world.wirings (map (wiring P D) (members P D)) g i) [
  | inl o ↦ two_versions g (in-append_left P.world.wirings (map (wiring P ((d, v) ∷ D)) (members P ((d, v) ∷ D))) g o) t
  | inr j ↦ let m = map-in (wiring P D) (members P D) g j in
      two_versions (wiring P ((d, v) ∷ D) m.0)
      (in-append_right P.world.wirings (map (wiring P ((d, v) ∷ D)) (members P ((d, v) ∷ D))) (wiring P ((d, v) ∷ D) m.0)
      (in-map (wiring P ((d, v) ∷ D)) (members P ((d, v) ∷ D)) m.0 (member-kept P D d v m.0 m.1)))
      (two-filter (λ e f. symbolic_name P.world.known e ≡ symbolic_name P.world.known f) (λ f. is_yes (value_made D (attaching m.0 f))) (λ f. is_yes (value_made ((d, v) ∷ D) (attaching m.0 f)))
      (λ f y. some-yes _ (value-kept D d v (attaching m.0 f) 0 n (yes-some _ y))) (matching P m.0)
      (subst (λ (g : Wiring). Two (λ e f. symbolic_name P.world.known e ≡ symbolic_name P.world.known f) g.fragments) m.2 t))
]

present-kept : (P : Problem) (D : Made) (d : Decision) (v : ℕ) → State P ((d, v) ∷ D) → value_made D d ≡ None → (r : RevisionId) → InUse (partial P D) r → InUse (partial P ((d, v) ∷ D)) r
present-kept P D d v s n r (inl f) = inl (in_force-kept P D d v r f)
present-kept P D d v s n r (inr h) = inr (h.0, attached-kept P D d v s n h.0 r h.1)

pub hopeless-kept : (P : Problem) → IsProblem P → (D : Made) (d : Decision) (v : ℕ) → State P D → next_decision P D ≡ Some d → v < arity P d → Hopeless P D → Hopeless P ((d, v) ∷ D)
hopeless-kept P L D d v s n r (no_candidate m q i j o c) = no_candidate m q (member-kept P D d v m i) (payload-kept P D d v (next-due P D d n).3 m q j) o c
hopeless-kept P L D d v s n r (all_refused m q i j o k all) =
    let open' = (next-due P D d n).3 in
    all_refused m q (member-kept P D d v m i) (payload-kept P D d v open' m q j) o k (λ c x. value-kept D d v (pick m q c) 1 open' (all c x))
hopeless-kept P L D d v s n r (two_providers a x y p i j e) = let g = grew P L D d v s n r in two_providers a x y p (package-part (g.up a) i) (package-part (g.up a) j) e
hopeless-kept P L D d v s n r (two_versions g i t) = versions-kept P D d v (next-due P D d n).3 g i t
hopeless-kept P L D d v s n r (two_singletons a b i j e) =
    two_singletons a b (present-kept P D d v (step s n r) (next-due P D d n).3 a i) (present-kept P D d v (step s n r) (next-due P D d n).3 b j) e
hopeless-kept P L D d v s n r (not_offered m w i h t o) =
    let g = grew P L D d v s n r in
    not_offered m w (member-kept P D d v m i) (wire-kept P D d v (step s n r) (next-due P D d n).3 m w h) (settled-stays g t)
    (λ x. o (offer-same w.capability (g.kept w.capability.provider t.own) (g.up w.capability.provider) x))
hopeless-kept P L D d v s n r (clashes a e u i c) =
    let g = grew P L D d v s n r in
    let x = settled-implied g i in
    clashes a e u x.1 (settled-clash g (Rattle.osgi_resolver_theory.proofs.Agree.implied-starts i) x.0 c)
