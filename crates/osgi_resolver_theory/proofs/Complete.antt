-- Where no decision is left: every revision in force is settled, and the word is not hopeless exactly where its wirings extend.
use Rattle.std.proofs.Common.{◌≡◌, ◌≢◌, ℕ, zero, suc, ◌<◌, ◌≤◌, ◌==◌, ◌⊎◌, ◌↔◌, inl, inr, Bool, true, false, ◌||◌, IsTrue, if◌then◌else◌, List, [], ◌∷◌, ◌++◌, length, map, filter, Option, None, Some, refl, sym, ◌∙◌, ap, subst, arith}
use Rattle.std.specs.List.{list_any}
use Rattle.std.specs.Prelude.{IsSome}
use Rattle.std.specs.Option.{option_map_or}
use Rattle.osgi_base.specs.declared.ids.RevisionId.{RevisionId}
use Rattle.osgi_world.specs.Candidates.{IsPreferred, IsProblem, candidates, matching}
use Rattle.osgi_world.specs.Consistency.{AreDouble, Consistent, Extends, MayJoin}
use Rattle.osgi_world.specs.Decisions.{Made, Step, attaching, choose, is_yes, pick, value_made, wired_to}
use Rattle.osgi_world.specs.DueDecisions.{fragments_of, is_in_force, members, next_decision, payload, pull_in, pulled}
use Rattle.osgi_world.specs.Partial.{chosen_for, chosen_by, partial, wires_for, wiring}
use Rattle.osgi_world.specs.Hopeless.{Hopeless, IsDecided, IsSettled, ReachedFrom, all_refused, clashes, first, more, no_candidate, not_offered, two_providers, two_singletons, two_versions}
use Rattle.osgi_world.specs.Lists.{In, Two, item_at, below}
use Rattle.osgi_world.specs.Lookups.{bundle_of, capability_count, is_effective, is_fragment, is_host_of, is_multiple, is_optional, requirement_count, is_current, known_at, IsKnown}
use Rattle.osgi_world.specs.Payloads.{current_fragments, own_requirements}
use Rattle.osgi_world.specs.Wirings.{Attached, HasRequirement, HasWire, InForce, IsWorld, OnOffer, Owns}
use Rattle.osgi_world.specs.declared.problem.Problem.{Problem}
use Rattle.osgi_world.specs.declared.world.Known.{Known}
use Rattle.osgi_world.specs.declared.wiring.CapRef.{CapRef}
use Rattle.osgi_world.specs.declared.wiring.ReqRef.{ReqRef}
use Rattle.osgi_world.specs.declared.wiring.Wire.{Wire}
use Rattle.osgi_world.specs.declared.wiring.Wiring.{Wiring}
use Rattle.osgi_resolver_theory.proofs.Agree.{Part, implied-same, implied-starts, offer-same}
use Rattle.osgi_resolver_theory.proofs.Inside.{bundle-inside, implied-inside, reexport-inside}
use Rattle.osgi_resolver_theory.proofs.Laws.{laws}
use Rattle.osgi_resolver_theory.proofs.Lists.{at-some, filter-in, flat_map-in, in-any, in-append_cases, in-append_left, length-append, length-map, map-in, or-right, true-or-false}
use Rattle.osgi_resolver_theory.proofs.States.{AllAttached, fragments-in, in-due_attach, in-due_choose, in-due_pick, in-fragments, in-payload, made-candidate, member-current, member-new, none-left, own-in, payload-in, provider-in, root-member, sound}
use Rattle.osgi_resolver_theory.proofs.Twos.{any-dec, attached-dec, below-once, stable, two-append, two-flat_map, two-map, two-unfilter, two-weaker}
use Rattle.osgi_resolver_theory.proofs.Values.{rev-dec, rev-same, some-inj}
use Rattle.osgi_resolver_theory.proofs.Views.{Adder, Got, adder, adds-chosen, attached-cases, attached-member, attached-old, by_choice, by_pick, due-picked, due-asked, got-candidate, got-stands, in_force-cases, in_force-in, in_force-member, in_force-old, wire-cases, wire-got, wire-old, wires_for-in}
use Rattle.osgi_resolver_theory.specs.Cuts.{IsInside}
use Rattle.osgi_resolver_theory.specs.States.{State}

-- ---- what holds of each state

-- each wire's provider is in force
pub provider-in_force : (P : Problem) → IsProblem P → (D : Made) (r : RevisionId) (w : Wire) → HasWire (partial P D) r w → InForce (partial P D) w.capability.provider
provider-in_force P L D r w h = elim (wire-cases P D r w h) [
  | inl o ↦ in_force-old P D w.capability.provider (L.consistent.coherent.rules.provided r w o)
  | inr m ↦ in_force-in P D w.capability.provider (provider-in P D m.1.decision m.1.chosen r w m.1.made m.1.added)
]

pub in_force-inside : (P : Problem) → IsProblem P → (D : Made) → IsInside (partial P D) (InForce (partial P D))
in_force-inside P L D r w i h = provider-in_force P L D r w h

pub reached-in_force : (P : Problem) → IsProblem P → (D : Made) {r c : RevisionId} → InForce (partial P D) r → ReachedFrom P.world.known (partial P D) r c → InForce (partial P D) c
reached-in_force P L D i (first b) = bundle-inside (in_force-inside P L D) i b
reached-in_force P L D i (more l a) = reexport-inside (in_force-inside P L D) (reached-in_force P L D i l) a

-- a revision that was in force has what it had
pub attached-was : (P : Problem) → IsProblem P → (D : Made) (r f : RevisionId) → InForce P.world.wirings r → Attached (partial P D) r f → Attached P.world.wirings r f
attached-was P L D r f i h = elim (attached-cases P D r f h) [ inl o ↦ o | inr m ↦ absurd (member-new P L.root_is.not_in_force D r m.0 i) ]

pub wire-was : (P : Problem) → IsProblem P → (D : Made) (r : RevisionId) (w : Wire) → InForce P.world.wirings r → HasWire (partial P D) r w → HasWire P.world.wirings r w
wire-was P L D r w i h = elim (wire-cases P D r w h) [ inl o ↦ o | inr m ↦ absurd (member-new P L.root_is.not_in_force D r m.0 i) ]

pub part-to : (P : Problem) (D : Made) (r : RevisionId) → Part P.world.known P.world.wirings (partial P D) r
part-to P D r = record { attached = attached-old P D r; wires = λ w h t. wire-old P D r w h }

pub part-from : (P : Problem) → IsProblem P → (D : Made) (r : RevisionId) → InForce P.world.wirings r → Part P.world.known (partial P D) P.world.wirings r
part-from P L D r i = record { attached = λ f. attached-was P L D r f i; wires = λ w h t. wire-was P L D r w i h }

-- a member has what is decided
pub attached-of_member : (P : Problem) → IsProblem P → (D : Made) (r f : RevisionId) → In r (members P D) → Attached (partial P D) r f → In f (matching P r) × (value_made D (attaching r f) ≡ Some 0)
attached-of_member P L D r f i h = elim (attached-cases P D r f h) [
  | inl o ↦ absurd (member-new P L.root_is.not_in_force D r i (record { wiring = o.wiring; stands = o.stands; revision = o.revision }))
  | inr m ↦ (m.1, m.2)
]

pub wire-of_member : (P : Problem) → IsProblem P → (D : Made) (r : RevisionId) (w : Wire) → In r (members P D) → HasWire (partial P D) r w → Got P D r w
wire-of_member P L D r w i h = elim (wire-cases P D r w h) [
  | inl o ↦ absurd (member-new P L.root_is.not_in_force D r i (record { wiring = o.wiring; stands = o.stands; revision = o.revision }))
  | inr m ↦ m.1
]

owner-payload : (P : Problem) → IsProblem P → (D : Made) (r o : RevisionId) → In r (members P D) → Owns (partial P D) r o → (o ≡ r) ⊎ In o (fragments_of P D r)
owner-payload P L D r o i (inl e) = inl e
owner-payload P L D r o i (inr h) = let m = attached-of_member P L D r o i h in inr (in-fragments P D r o m.0 m.1)

payload-owner : (P : Problem) (D : Made) (r o : RevisionId) → In r (members P D) → (o ≡ r) ⊎ In o (fragments_of P D r) → Owns (partial P D) r o
payload-owner P D r o i (inl e) = inl e
payload-owner P D r o i (inr j) = inr (attached-member P D r o i j)

pub requirement-payload : (P : Problem) → IsProblem P → (D : Made) (r : RevisionId) (q : ReqRef) → In r (members P D) → HasRequirement P.world.known (partial P D) r q → In q (payload P D r)
requirement-payload P L D r q i h = in-payload P D r q (owner-payload P L D r q.owner i h.0) h.1

pub payload-requirement : (P : Problem) (D : Made) (r : RevisionId) (q : ReqRef) → In r (members P D) → In q (payload P D r) → HasRequirement P.world.known (partial P D) r q
payload-requirement P D r q i j = let o = payload-in P D r q j in (payload-owner P D r q.owner i o.0, o.1)

-- ---- no member twice, no requirement twice, no two wires for one

pull-once_go : (b : Bool) (ms : List RevisionId) (x : RevisionId) → (In x ms → b ≡ true) → ¬ Two ◌≡◌ ms → Two ◌≡◌ (if b then ms else ms ++ x ∷ []) → ⊥
pull-once_go true ms x there once t = once t
pull-once_go false ms x there once t = elim (two-append ◌≡◌ ms (x ∷ []) t) [
  | inl a ↦ once a
  | inr (inl (inl h)) ↦ elim h.1 [ ]
  | inr (inl (inr u)) ↦ elim u [ ]
  | inr (inr (a, b, i, inl e, s)) ↦ let f = there (subst (λ y. In y ms) (s ∙ e) i) in cc
  | inr (inr (a, b, i, inr e, s)) ↦ elim e [ ]
]

pull_in-once : (P : Problem) (ms xs : List RevisionId) → ¬ Two ◌≡◌ ms → ¬ Two ◌≡◌ (pull_in P ms xs)
pull_in-once P ms [] once = once
pull_in-once P ms (x ∷ xs) once = pull_in-once P (if is_in_force P.world.wirings x || list_any (λ (k : RevisionId). k.0 == x.0) ms then ms else ms ++ x ∷ []) xs
    (pull-once_go (is_in_force P.world.wirings x || list_any (λ (k : RevisionId). k.0 == x.0) ms) ms x (λ i. or-right (is_in_force P.world.wirings x) (list_any (λ (k : RevisionId). k.0 == x.0) ms) (in-any (λ (k : RevisionId). k.0 == x.0) ms x i (rev-same x x refl))) once)

one-once : {X : Type 0} (x : X) → ¬ Two ◌≡◌ (x ∷ [])
one-once x (inl h) = elim h.1 [ ]
one-once x (inr t) = elim t [ ]

pub members-once : (P : Problem) (D : Made) → ¬ Two ◌≡◌ (members P D)
members-once P [] = one-once P.root
members-once P (t ∷ D) = pull_in-once P (members P D) (pulled P t.0 t.1) (members-once P D)

pub fragments-single : (P : Problem) → IsProblem P → (D : Made) (m : RevisionId) → ¬ Two ◌≡◌ (fragments_of P D m)
fragments-single P L D m t = (laws P L).fragments_ordered (two-weaker ◌≡◌ (λ e f. (bundle_of P.world.known) f ≤ (bundle_of P.world.known) e) (λ e f s. let b = ap (bundle_of P.world.known) s in omega (arith, b)) (current_fragments P.world.known)
    (two-unfilter ◌≡◌ (λ f. (is_host_of P.world.known) f m) (current_fragments P.world.known) (two-unfilter ◌≡◌ (λ f. is_yes (value_made D (attaching m f))) (matching P m) t)))

own-once : (P : Problem) (r : RevisionId) → ¬ Two ◌≡◌ (own_requirements P.world.known r)
own-once P r t = below-once (requirement_count P.world.known r)
    (two-weaker (λ i j. let q : ReqRef = record { owner = r; index = i } in let n : ReqRef = record { owner = r; index = j } in q ≡ n) ◌≡◌ (λ i j e. ap (λ (q : ReqRef). q.index) e) (below (requirement_count P.world.known r))
    (two-map (λ i. let q : ReqRef = record { owner = r; index = i } in q) ◌≡◌ (below (requirement_count P.world.known r)) t))

owners-once : (P : Problem) → IsProblem P → (D : Made) (m : RevisionId) → Two ◌≡◌ (m ∷ fragments_of P D m) → ⊥
owners-once P L D m (inl h) =
    let f = filter-in (λ f. (is_host_of P.world.known) f m) (current_fragments P.world.known) h.0 (fragments-in P D m h.0 h.1).0 in
    let x = (laws P L).matching h.0 m f.1 in
    x.1 (subst (λ y. IsTrue ((is_fragment P.world.known) y)) (sym h.2) x.0)
owners-once P L D m (inr t) = fragments-single P L D m t

pub payload-once : (P : Problem) → IsProblem P → (D : Made) (m : RevisionId) → ¬ Two ◌≡◌ (payload P D m)
payload-once P L D m t = owners-once P L D m
    (two-flat_map (own_requirements P.world.known) ◌≡◌ (own-once P) (λ a b y z i j e. sym (own-in P a y i).0 ∙ ap (λ (q : ReqRef). q.owner) e ∙ (own-in P b z j).0) (m ∷ fragments_of P D m) t)

pub candidates-once : (P : Problem) → IsProblem P → (q : ReqRef) → ¬ Two ◌≡◌ (candidates P q)
candidates-once P L q t = L.candidates_ordered q (two-weaker ◌≡◌ (λ c d. ¬ IsPreferred P c d) (λ c d e p. not-itself c (subst (IsPreferred P c) (sym e) p)) (candidates P q) t)
  where
    not-itself : (c : CapRef) → IsPreferred P c c → ⊥
    not-itself c (inl h) = h.1 h.0
    not-itself c (inr (same, inl h)) = (laws P L).higher_once c c h h
    not-itself c (inr (same, inr (none, inl h))) = omega (arith, h)
    not-itself c (inr (same, inr (none, inr (e, inl h)))) = omega (arith, h)
    not-itself c (inr (same, inr (none, inr (e, inr f)))) = let h = f.1 in omega (arith, h)

chosen-single : (P : Problem) → IsProblem P → (D : Made) (m : RevisionId) (q : ReqRef) (b : Bool) → (is_multiple P.world.known q) ≡ b →
    ¬ Two (λ c d. AreDouble P.world.known (record { requirement = q; capability = c }) (record { requirement = q; capability = d })) (if b then filter (λ c. is_yes (value_made D (pick m q c))) (candidates P q) else chosen_by P q (value_made D (choose m q)))
chosen-single P L D m q true e t =
    candidates-once P L q (two-weaker (λ c d. AreDouble P.world.known (record { requirement = q; capability = c }) (record { requirement = q; capability = d })) ◌≡◌
    (λ c d x. elim x.1 [ inl n ↦ absurd (n e) | inr s ↦ s ]) (candidates P q)
    (two-unfilter (λ c d. AreDouble P.world.known (record { requirement = q; capability = c }) (record { requirement = q; capability = d })) (λ c. is_yes (value_made D (pick m q c))) (candidates P q) t))
chosen-single P L D m q false e t = gets-single P q (value_made D (choose m q)) (λ c d. AreDouble P.world.known (record { requirement = q; capability = c }) (record { requirement = q; capability = d })) t
  where
    at-one : (R : CapRef → CapRef → Type 0) (xs : List CapRef) (n : ℕ) → ¬ Two R (item_at xs n)
    at-one R [] n t = elim t [ ]
    at-one R (x ∷ xs) zero (inl h) = elim h.1 [ ]
    at-one R (x ∷ xs) zero (inr t) = elim t [ ]
    at-one R (x ∷ xs) (suc n) t = at-one R xs n t

    gets-single : (P : Problem) (q : ReqRef) (o : Option ℕ) (R : CapRef → CapRef → Type 0) → ¬ Two R (chosen_by P q o)
    gets-single P q None R t = elim t [ ]
    gets-single P q (Some v) R t = at-one R (candidates P q) v t

pub wires-single : (P : Problem) → IsProblem P → (D : Made) (m : RevisionId) → ¬ Two (AreDouble P.world.known) (wiring P D m).wires
wires-single P L D m t = payload-once P L D m
    (two-flat_map (wires_for P D m) (AreDouble P.world.known)
    (λ q u. chosen-single P L D m q (is_multiple P.world.known q) refl (two-map (λ c. let w : Wire = record { requirement = q; capability = c } in w) (AreDouble P.world.known) (chosen_for P D m q) u))
    (λ a b y z i j e. sym (wires_for-in P D m a y i).0 ∙ e.0 ∙ (wires_for-in P D m b z j).0) (payload P D m) t)

-- the wirings of a state are of different revisions, and none of a fragment
current-known_go : (o : Option Known) → IsTrue (option_map_or (λ (k : Known). k.current) o false) → IsSome o
current-known_go None t = cc
current-known_go (Some k) t = refl

-- what is current is known
current-known : (K : List Known) (r : RevisionId) → IsTrue (is_current K r) → IsKnown K r
current-known K r t = current-known_go (known_at K r) t

pub partial-world : (P : Problem) → IsProblem P → (D : Made) → State P D → IsWorld P.world.known (partial P D)
partial-world P L D s = record {
  known_once = L.world_is.known_once;
  known = λ g i. elim (in-append_cases P.world.wirings (map (wiring P D) (members P D)) g i) [
    | inl o ↦ L.world_is.known g o
    | inr j ↦ let m = map-in (wiring P D) (members P D) g j in
        subst (λ (g : Wiring). IsKnown P.world.known g.revision) (sym m.2) (current-known P.world.known m.0 (member-current P L D s m.0 m.1).0)
  ];
  hosts = λ g i. elim (in-append_cases P.world.wirings (map (wiring P D) (members P D)) g i) [
    | inl o ↦ L.world_is.hosts g o
    | inr j ↦ let m = map-in (wiring P D) (members P D) g j in
        subst (λ (g : Wiring). ¬ IsTrue ((is_fragment P.world.known) g.revision)) (sym m.2) (member-current P L D s m.0 m.1).1
  ];
  once = λ t. elim (two-append (λ (g h : Wiring). g.revision ≡ h.revision) P.world.wirings (map (wiring P D) (members P D)) t) [
    | inl a ↦ L.world_is.once a
    | inr (inl b) ↦ members-once P D (two-map (wiring P D) (λ (g h : Wiring). g.revision ≡ h.revision) (members P D) b)
    | inr (inr (g, h, i, j, e)) ↦ let m = map-in (wiring P D) (members P D) h j in
        member-new P L.root_is.not_in_force D m.0 m.1 (record { wiring = g; stands = i; revision = e ∙ ap (λ (g : Wiring). g.revision) m.2 })
  ];
}

-- ---- settled

closed-of : (P : Problem) (D : Made) → next_decision P D ≡ None → (r : RevisionId) → InForce P.world.wirings r ⊎ In r (members P D) → IsDecided P D r
closed-of P D n r (inl o) = inl o
closed-of P D n r (inr m) = inr (m, λ d i s. none-left P D n r d m i)

-- where no decision is left, what is in force is settled
pub all-settled : (P : Problem) → IsProblem P → (D : Made) → next_decision P D ≡ None → (r : RevisionId) → InForce (partial P D) r → IsSettled P D r
all-settled P L D n r i = record {
  own = closed-of P D n r (in_force-cases P D r i);
  reached = λ c l. closed-of P D n c (in_force-cases P D c (reached-in_force P L D i l));
}

-- what was in force is settled in each state
pub old-settled : (P : Problem) → IsProblem P → (D : Made) (r : RevisionId) → InForce P.world.wirings r → IsSettled P D r
old-settled P L D r i = record { own = inl i; reached = λ c l. inl (reached-old P L D r c i l) }
  where
    old-inside : (P : Problem) → IsProblem P → (D : Made) → IsInside (partial P D) (InForce P.world.wirings)
    old-inside P L D r w i h = L.consistent.coherent.rules.provided r w (wire-was P L D r w i h)

    reached-old : (P : Problem) → IsProblem P → (D : Made) (r c : RevisionId) → InForce P.world.wirings r → ReachedFrom P.world.known (partial P D) r c → InForce P.world.wirings c
    reached-old P L D r _ i (first b) = bundle-inside (old-inside P L D) i b
    reached-old P L D r _ i (more {c = c} l a) = reexport-inside (old-inside P L D) (reached-old P L D r c i l) a

-- ---- not hopeless: the wirings extend

offer-stable : (P : Problem) (W : List Wiring) (c : CapRef) → ¬ ¬ OnOffer P.world.known W c → OnOffer P.world.known W c
offer-stable P W c nn = record {
  has = (owns-stable (λ x. nn (λ o. x o.has.0)), index-stable (λ x. nn (λ o. x o.has.1)));
  stays = λ p e i. nn (λ o. o.stays p e i);
}
  where
    owns-dec : (o r : RevisionId) → (o ≡ r) ⊎ (o ≢ r) → Attached W r o ⊎ ¬ Attached W r o → Owns W r o ⊎ ¬ Owns W r o
    owns-dec o r (inl e) a = inl (inl e)
    owns-dec o r (inr n) (inl a) = inl (inr a)
    owns-dec o r (inr n) (inr m) = inr (λ x. elim x [ inl e ↦ n e | inr a ↦ m a ])

    owns-stable : ¬ ¬ Owns W c.provider c.owner → Owns W c.provider c.owner
    owns-stable = stable (owns-dec c.owner c.provider (rev-dec c.owner c.provider) (attached-dec W c.provider c.owner))

    less-dec : (a b : ℕ) → (a < b) ⊎ ¬ (a < b)
    less-dec a b = grind arith

    index-stable : ¬ ¬ (c.index < (capability_count P.world.known) c.owner) → c.index < (capability_count P.world.known) c.owner
    index-stable = stable (less-dec c.index ((capability_count P.world.known) c.owner))

owns-old : (P : Problem) (D : Made) (r o : RevisionId) → Owns P.world.wirings r o → Owns (partial P D) r o
owns-old P D r o (inl e) = inl e
owns-old P D r o (inr a) = inr (attached-old P D r o a)

owns-was : (P : Problem) → IsProblem P → (D : Made) (r o : RevisionId) → InForce P.world.wirings r → Owns (partial P D) r o → Owns P.world.wirings r o
owns-was P L D r o i (inl e) = inl e
owns-was P L D r o i (inr a) = inr (attached-was P L D r o i a)

holder : (W : List Wiring) (r : RevisionId) (w : Wire) → HasWire W r w → InForce W r
holder W r w h = record { wiring = h.wiring; stands = h.stands; revision = h.revision }

all-attached : (P : Problem) (D : Made) → next_decision P D ≡ None → (r : RevisionId) → In r (members P D) → AllAttached P D r
all-attached P D n r i f j = none-left P D n r (attaching r f) i (in-due_attach P D r f j)

-- the values of a decision of a requirement that is not optional are its candidates
mandatory-range : (b : Bool) (xs : List (List Step)) (n v : ℕ) → ¬ IsTrue b → length xs ≡ n → v < length (xs ++ (if b then [] ∷ [] else [])) → v < n
mandatory-range true xs n v o e h = absurd (o refl)
mandatory-range false xs n v o e h = let s = length-append xs [] in omega (arith, h, s, e)

single-mandatory : (P : Problem) → IsProblem P → (D : Made) → State P D → next_decision P D ≡ None → (r : RevisionId) (q : ReqRef) → In r (members P D) → In q (payload P D r) →
    IsTrue (is_effective P.world.known q) → ¬ IsTrue (is_optional P.world.known q) → (is_multiple P.world.known q) ≡ false → (w : Wire) × HasWire (partial P D) r w × (w.requirement ≡ q)
single-mandatory P L D s n r q i j e o k =
    let made = none-left P D n r (choose r q) i (in-due_choose P D r q (all-attached P D n r i) j e k) in
    let range = (sound P D s (choose r q) made.0 made.1).range in
    let c = at-some (candidates P q) made.0 (mandatory-range (is_optional P.world.known q) (map (λ c. wired_to r q c ∷ []) (candidates P q)) (length (candidates P q)) made.0 o (length-map (λ c. wired_to r q c ∷ []) (candidates P q)) range) in
    let w : Wire = record { requirement = q; capability = c.0 } in
    (w, wire-got P D s r w (record { decision = choose r q; chosen = made.0; made = made.1; added = adds-chosen P r q made.0 c.0 c.1 }), refl)

yes-or-no : (v : ℕ) → v < 2 → ¬ (v ≡ 0) → v ≡ 1
yes-or-no v h n = grind (arith, h, n)

refused : (P : Problem) (D : Made) → State P D → next_decision P D ≡ None → (r : RevisionId) (q : ReqRef) → In r (members P D) → In q (payload P D r) → IsTrue (is_effective P.world.known q) → (is_multiple P.world.known q) ≡ true →
    ¬ ((c : CapRef) × In c (candidates P q) × (value_made D (pick r q c) ≡ Some 0)) → (c : CapRef) → In c (candidates P q) → value_made D (pick r q c) ≡ Some 1
refused P D s n r q i j e k never c x =
    let made = none-left P D n r (pick r q c) i (in-due_pick P D r q c (all-attached P D n r i) j e k x) in
    let range = (sound P D s (pick r q c) made.0 made.1).range in
    subst (λ v. value_made D (pick r q c) ≡ Some v) (yes-or-no made.0 range (λ z. never (c, x, subst (λ v. value_made D (pick r q c) ≡ Some v) z made.1))) made.1

value-dec : (o : Option ℕ) → (o ≡ Some 0) ⊎ ¬ (o ≡ Some 0)
value-dec None = inr (λ e. cc)
value-dec (Some zero) = inl refl
value-dec (Some (suc v)) = inr (λ e. let h = some-inj (suc v) 0 e in omega (arith, h))

multiple-mandatory : (P : Problem) → IsProblem P → (D : Made) → State P D → next_decision P D ≡ None → ¬ Hopeless P D → (r : RevisionId) (q : ReqRef) → In r (members P D) → In q (payload P D r) →
    IsTrue (is_effective P.world.known q) → ¬ IsTrue (is_optional P.world.known q) → (is_multiple P.world.known q) ≡ true →
    ((c : CapRef) × In c (candidates P q) × (value_made D (pick r q c) ≡ Some 0)) ⊎ ¬ ((c : CapRef) × In c (candidates P q) × (value_made D (pick r q c) ≡ Some 0)) → (w : Wire) × HasWire (partial P D) r w × (w.requirement ≡ q)
multiple-mandatory P L D s n hope r q i j e o k (inl a) =
    let w : Wire = record { requirement = q; capability = a.0 } in
    (w, wire-got P D s r w (record { decision = pick r q a.0; chosen = 0; made = a.2; added = inl refl }), refl)
multiple-mandatory P L D s n hope r q i j e o k (inr never) = absurd (hope (all_refused r q i j (record { effective = e; mandatory = o }) k (refused P D s n r q i j e k never)))

member-mandatory : (P : Problem) → IsProblem P → (D : Made) → State P D → next_decision P D ≡ None → ¬ Hopeless P D → (r : RevisionId) (q : ReqRef) → In r (members P D) → HasRequirement P.world.known (partial P D) r q →
    IsTrue (is_effective P.world.known q) → ¬ IsTrue (is_optional P.world.known q) → (w : Wire) × HasWire (partial P D) r w × (w.requirement ≡ q)
member-mandatory P L D s n hope r q i h e o =
    let j = requirement-payload P L D r q i h in
    elim (true-or-false (is_multiple P.world.known q)) [
      | inl k ↦ multiple-mandatory P L D s n hope r q i j e o k (any-dec (λ c. value_made D (pick r q c) ≡ Some 0) (λ c. value-dec (value_made D (pick r q c))) (candidates P q))
      | inr k ↦ single-mandatory P L D s n r q i j e o k
    ]

rivals-differ : (a b : RevisionId) → ¬ (a ≢ b) → a ≡ b
rivals-differ a b n = stable (rev-dec a b) n

pub hopeful-consistent : (P : Problem) → IsProblem P → (D : Made) → State P D → next_decision P D ≡ None → ¬ Hopeless P D → Consistent P.world.known (partial P D)
hopeful-consistent P L D s n hope = record {
  coherent = record {
    rules = record {
      asked = λ r w h. elim (wire-cases P D r w h) [
        | inl o ↦ elim (L.consistent.coherent.rules.asked r w o) [ inl x ↦ inl ((owns-old P D r w.requirement.owner x.0.0, x.0.1), x.1) | inr d ↦ inr d ]
        | inr m ↦ let x = (got-stands P D s r w m.1).asked in inl (payload-requirement P D r w.requirement m.0 x.in_payload, x.effective)
      ];
      single = λ g i. elim (in-append_cases P.world.wirings (map (wiring P D) (members P D)) g i) [
        | inl o ↦ L.consistent.coherent.rules.single g o
        | inr j ↦ let m = map-in (wiring P D) (members P D) g j in
            subst (λ (g : Wiring). ¬ Two (AreDouble P.world.known) g.wires) (sym m.2) (wires-single P L D m.0)
      ];
      mandatory = λ r q i h n'. elim (in_force-cases P D r i) [
        | inl f ↦ let w = L.consistent.coherent.rules.mandatory r q f (owns-was P L D r q.owner f h.0, h.1) n' in (w.0, wire-old P D r w.0 w.1, w.2)
        | inr m ↦ member-mandatory P L D s n hope r q m h n'.effective n'.mandatory
      ];
      provided = provider-in_force P L D;
      offered = λ r w h. elim (wire-cases P D r w h) [
        | inl o ↦ offer-same w.capability (part-to P D w.capability.provider) (part-from P L D w.capability.provider (L.consistent.coherent.rules.provided r w o)) (L.consistent.coherent.rules.offered r w o)
        | inr m ↦ offer-stable P (partial P D) w.capability (λ x. hope (not_offered r w m.0 h (all-settled P L D n w.capability.provider (provider-in_force P L D r w h)) x))
      ];
      not_owner = λ r w h. elim (wire-cases P D r w h) [ inl o ↦ L.consistent.coherent.rules.not_owner r w o | inr m ↦ (got-candidate P L D s r w m.1).not_owner ];
      one_provider = λ r p x y a b. rivals-differ x y (λ d. hope (two_providers r x y p a b d));
      attached = λ r f h. elim (attached-cases P D r f h) [ inl o ↦ L.consistent.coherent.rules.attached r f o | inr m ↦ (filter-in (λ f. (is_host_of P.world.known) f r) (current_fragments P.world.known) f m.1).1 ];
      one_version = λ g i t. hope (two_versions g i t);
      singletons = λ r x a b d. hope (two_singletons r x a b d);
    };
    uses = λ r e u i pair c.
        let inside = implied-inside (in_force-inside P L D) i pair in
        let settled = implied-same (λ x f. all-settled P L D n x f) (λ x p y f s. s) (λ x p v f h. h) inside.1 in
        hope (clashes r e u settled.1 c);
  };
  satisfied = λ r w h. elim (wire-cases P D r w h) [ inl o ↦ L.consistent.satisfied r w o | inr m ↦ (got-candidate P L D s r w m.1).satisfies ];
}

pub member-joins : (P : Problem) → IsProblem P → (D : Made) → State P D → (m : RevisionId) → In m (members P D) → MayJoin P.world.known (wiring P D m)
member-joins P L D s m i = record {
  current = (member-current P L D s m i).0;
  fragments_current = λ f j. (((laws P L).fragments_are f).0 (filter-in (λ f. (is_host_of P.world.known) f m) (current_fragments P.world.known) f (fragments-in P D m f j).0).0).0;
  providers_current = λ w j.
      let q = flat_map-in (wires_for P D m) (payload P D m) w j in
      (got-candidate P L D s m w (wires_for-in P D m q.0 w q.2).1).current;
  no_dynamics = λ w j.
      let q = flat_map-in (wires_for P D m) (payload P D m) w j in
      let o = payload-in P D m q.0 q.1 in
      λ d. (laws P L).dynamics w.requirement d (subst (λ (x : ReqRef). x.index < requirement_count P.world.known x.owner) (sym (wires_for-in P D m q.0 w q.2).0) o.1);
}

-- where no decision is left and the word is not hopeless, its wirings extend the present ones
pub hopeful-extends : (P : Problem) → IsProblem P → (D : Made) → State P D → next_decision P D ≡ None → ¬ Hopeless P D → Extends P.world.known P.world.wirings (partial P D) P.root
hopeful-extends P L D s n hope = record {
  world = partial-world P L D s;
  kept = λ g i. in-append_left P.world.wirings (map (wiring P D) (members P D)) g i;
  joined = λ g i. elim (in-append_cases P.world.wirings (map (wiring P D) (members P D)) g i) [
    | inl o ↦ inl o
    | inr j ↦ let m = map-in (wiring P D) (members P D) g j in inr (subst (MayJoin P.world.known) (sym m.2) (member-joins P L D s m.0 m.1))
  ];
  in_force = in_force-member P D P.root (root-member P D);
  consistent = hopeful-consistent P L D s n hope;
}

-- ---- consistent: not hopeless

settled-in_force : (P : Problem) (D : Made) (r : RevisionId) → IsSettled P D r → InForce (partial P D) r
settled-in_force P D r s = elim s.own [ inl o ↦ in_force-old P D r o | inr m ↦ in_force-member P D r m.0 ]

some-same : (o : Option ℕ) (v w : ℕ) → o ≡ Some v → o ≡ Some w → v ≡ w
some-same o v w e f = some-inj v w (sym e ∙ f)

refused-none : (P : Problem) (D : Made) → State P D → (m : RevisionId) (q : ReqRef) → (is_multiple P.world.known q) ≡ true → ((c : CapRef) → In c (candidates P q) → value_made D (pick m q c) ≡ Some 1) →
    (w : Wire) → w.requirement ≡ q → (g : Got P D m w) → Adder P g.decision g.chosen m w → ⊥
refused-none P D s m q k all w e g (by_choice d i) =
    let x = due-asked P D m w.requirement (sound P D s (choose m w.requirement) g.chosen (subst (λ x. value_made D x ≡ Some g.chosen) (sym d) g.made)).due in
    let f = subst (λ n. (is_multiple P.world.known n) ≡ false) e x.1 in
    cc
refused-none P D s m q k all w e g (by_pick d z) =
    let made : value_made D (pick m w.requirement w.capability) ≡ Some g.chosen = subst (λ x. value_made D x ≡ Some g.chosen) (sym d) g.made in
    let x = due-picked P D m w.requirement w.capability (sound P D s (pick m w.requirement w.capability) g.chosen made).due in
    let no' = all w.capability (subst (λ n. In w.capability ((candidates P) n)) e x.2) in
    let same = some-same (value_made D (pick m q w.capability)) g.chosen 1 (subst (λ n. value_made D (pick m n w.capability) ≡ Some g.chosen) e made) no' in
    omega (arith, same, z)

-- whatever is still to decide: what is consistent is not hopeless
pub consistent-hopeful : (P : Problem) → IsProblem P → (D : Made) → State P D → Consistent P.world.known (partial P D) → ¬ Hopeless P D
consistent-hopeful P L D s c (no_candidate m q i j o none) =
    let w = c.coherent.rules.mandatory m q (in_force-member P D m i) (payload-requirement P D m q i j) o in
    let g = wire-of_member P L D m w.0 i w.1 in
    let k = (made-candidate P D s g.decision g.chosen m w.0 g.made g.added).listed in
    subst (λ xs. In w.0.capability xs) none (subst (λ x. In w.0.capability ((candidates P) x)) w.2 k)
consistent-hopeful P L D s c (all_refused m q i j o k all) =
    let w = c.coherent.rules.mandatory m q (in_force-member P D m i) (payload-requirement P D m q i j) o in
    let g = wire-of_member P L D m w.0 i w.1 in
    refused-none P D s m q k all w.0 w.2 g (adder P g.decision g.chosen m w.0 g.added)
consistent-hopeful P L D s c (two_providers r x y p a b d) = d (c.coherent.rules.one_provider r p x y a b)
consistent-hopeful P L D s c (two_versions g i t) = c.coherent.rules.one_version g i t
consistent-hopeful P L D s c (two_singletons r x a b d) = c.coherent.rules.singletons r x a b d
consistent-hopeful P L D s c (not_offered m w i h t never) = never (c.coherent.rules.offered m w h)
consistent-hopeful P L D s c (clashes r e u i k) =
    let everywhere = implied-same {B = λ x. Unit {0}} (λ x s. tt) (λ x p y s h. h) (λ x p v s h. h) i in
    c.coherent.uses r e u (settled-in_force P D r (implied-starts i)) everywhere.1 k

-- a complete word is good exactly where it is not hopeless
pub hopeful-iff_extends : (P : Problem) → IsProblem P → (D : Made) → State P D → next_decision P D ≡ None → (¬ Hopeless P D) ↔ Extends P.world.known P.world.wirings (partial P D) P.root
hopeful-iff_extends P L D s n = (hopeful-extends P L D s n, λ e. consistent-hopeful P L D s e.consistent)
