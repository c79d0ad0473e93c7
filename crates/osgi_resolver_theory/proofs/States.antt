-- Members, payloads and due decisions: what each step keeps, and what holds of each decision that is made.
use Rattle.std.proofs.Common.{◌≡◌, ℕ, ◌<◌, ◌==◌, ◌⊎◌, inl, inr, Bool, true, false, not, ◌||◌, ◌&&◌, IsTrue, if◌then◌else◌, List, [], ◌∷◌, ◌++◌, map, flat_map, None, Some, refl, sym, ap, subst}
use Rattle.std.specs.List.{list_any}
use Rattle.osgi_base.specs.declared.ids.RevisionId.{RevisionId}
use Rattle.osgi_world.specs.Candidates.{CanBeAsked, IsProblem, candidates, matching}
use Rattle.osgi_world.specs.Decisions.{Decision, IsMade, Made, Step, adds, arity, attaching, attached, choose, host, is_open, is_yes, menu, pick, same_decision, value_made, wired, wired_to}
use Rattle.osgi_world.specs.DueDecisions.{attachments, decisions_of, due_decisions, fragments_of, in_turn, is_in_force, is_generic, members, next_decision, of_kind, payload, provider_of, pull_in, pulled, queue}
use Rattle.osgi_world.specs.Lists.{In, below}
use Rattle.osgi_world.specs.Lookups.{is_current, is_effective, is_fragment, is_host_of, is_multiple, is_optional, requirement_count, requirement_namespace}
use Rattle.osgi_world.specs.Payloads.{current_fragments, own_requirements}
use Rattle.osgi_world.specs.Satisfaction.{is_bundle, is_package}
use Rattle.osgi_world.specs.Wirings.{InForce}
use Rattle.osgi_world.specs.declared.problem.Problem.{Problem}
use Rattle.osgi_world.specs.declared.wiring.CapRef.{CapRef}
use Rattle.osgi_world.specs.declared.wiring.ReqRef.{ReqRef}
use Rattle.osgi_world.specs.declared.wiring.Wire.{Wire}
use Rattle.osgi_world.specs.declared.wiring.Wiring.{Wiring}
use Rattle.osgi_resolver_theory.proofs.Laws.{laws}
use Rattle.osgi_resolver_theory.proofs.Lists.{and-both, and-cases, any-in, at-in, below-in, entry-in, entry-singles, filter-in, flat_map-in, in-any, in-append_cases, in-append_left, in-append_right, in-below, in-filter, in-flat_map, in-map, map-in, or-cases, or-left}
use Rattle.osgi_resolver_theory.proofs.Values.{find-none, find-some, made-kept, made-not_open, rev-eq, rev-same, not-open_made, open-none, ref-eq, some-yes, value-cases, value-kept, yes-some}
use Rattle.osgi_resolver_theory.specs.States.{State, start, step}

-- ---- the parts of a step

unfoldable pub wire_part : Wire → Step → Wire
wire_part d (attached h f) = d
wire_part d (wired r w) = w

-- ---- in force

pub force-true : (W : List Wiring) (r : RevisionId) → InForce W r → IsTrue (is_in_force W r)
force-true W r h = in-any (λ g. g.revision.0 == r.0) W h.wiring h.stands (rev-same h.wiring.revision r h.revision)

pub true-force : (W : List Wiring) (r : RevisionId) → IsTrue (is_in_force W r) → InForce W r
true-force W r t = let a = any-in (λ g. g.revision.0 == r.0) W t in record { wiring = a.0; stands = a.1; revision = rev-eq a.0.revision r a.2 }

-- ---- members

pull-go : (b : Bool) (ms : List RevisionId) (x m : RevisionId) → In m (if b then ms else ms ++ x ∷ []) → In m ms ⊎ (b ≡ false) × (m ≡ x)
pull-go true ms x m i = inl i
pull-go false ms x m i = elim (in-append_cases ms (x ∷ []) m i) [ inl j ↦ inl j | inr (inl e) ↦ inr (refl, e) | inr (inr j) ↦ elim j [ ] ]

keep-go : (b : Bool) (ms : List RevisionId) (x m : RevisionId) → In m ms → In m (if b then ms else ms ++ x ∷ [])
keep-go true ms x m i = i
keep-go false ms x m i = in-append_left ms (x ∷ []) m i

pub pull_in-kept : (P : Problem) (ms xs : List RevisionId) (m : RevisionId) → In m ms → In m (pull_in P ms xs)
pull_in-kept P ms [] m i = i
pull_in-kept P ms (x ∷ xs) m i = pull_in-kept P (if is_in_force P.world.wirings x || list_any (λ (k : RevisionId). k.0 == x.0) ms then ms else ms ++ x ∷ []) xs m (keep-go (is_in_force P.world.wirings x || list_any (λ (k : RevisionId). k.0 == x.0) ms) ms x m i)

not-forced : (P : Problem) (ms : List RevisionId) (x m : RevisionId) → (is_in_force P.world.wirings x || list_any (λ (k : RevisionId). k.0 == x.0) ms) ≡ false → m ≡ x → ¬ InForce P.world.wirings m
not-forced P ms x m e s h =
    let t : IsTrue (is_in_force P.world.wirings x || list_any (λ (k : RevisionId). k.0 == x.0) ms) = or-left (is_in_force P.world.wirings x) (list_any (λ (k : RevisionId). k.0 == x.0) ms) (force-true P.world.wirings x (subst (λ y. InForce P.world.wirings y) s h)) in
    cc

pull-cases_go : (P : Problem) (x m : RevisionId) (ms xs : List RevisionId) → In m ms ⊎ ((is_in_force P.world.wirings x || list_any (λ (k : RevisionId). k.0 == x.0) ms) ≡ false) × (m ≡ x) ⊎ (In m xs × ¬ InForce P.world.wirings m) → In m ms ⊎ (In m (x ∷ xs) × ¬ InForce P.world.wirings m)
pull-cases_go P x m ms xs (inl i) = inl i
pull-cases_go P x m ms xs (inr (inl n)) = inr (inl n.1, not-forced P ms x m n.0 n.1)
pull-cases_go P x m ms xs (inr (inr n)) = inr (inr n.0, n.1)

pull-cases_first : (P : Problem) (x m : RevisionId) (ms xs : List RevisionId) → In m (if is_in_force P.world.wirings x || list_any (λ (k : RevisionId). k.0 == x.0) ms then ms else ms ++ x ∷ []) ⊎ (In m xs × ¬ InForce P.world.wirings m) → In m ms ⊎ ((is_in_force P.world.wirings x || list_any (λ (k : RevisionId). k.0 == x.0) ms) ≡ false) × (m ≡ x) ⊎ (In m xs × ¬ InForce P.world.wirings m)
pull-cases_first P x m ms xs (inl i) = elim (pull-go (is_in_force P.world.wirings x || list_any (λ (k : RevisionId). k.0 == x.0) ms) ms x m i) [ inl j ↦ inl j | inr n ↦ inr (inl n) ]
pull-cases_first P x m ms xs (inr n) = inr (inr n)

pub pull_in-cases : (P : Problem) (ms xs : List RevisionId) (m : RevisionId) → In m (pull_in P ms xs) → In m ms ⊎ (In m xs × ¬ InForce P.world.wirings m)
pull_in-cases P ms [] m i = inl i
pull_in-cases P ms (x ∷ xs) m i = pull-cases_go P x m ms xs (pull-cases_first P x m ms xs (pull_in-cases P (if is_in_force P.world.wirings x || list_any (λ (k : RevisionId). k.0 == x.0) ms then ms else ms ++ x ∷ []) xs m i))

enter-go : (P : Problem) (ms : List RevisionId) (x : RevisionId) (b : Bool) → (is_in_force P.world.wirings x || list_any (λ (k : RevisionId). k.0 == x.0) ms) ≡ b → InForce P.world.wirings x ⊎ In x (if b then ms else ms ++ x ∷ [])
enter-go P ms x true e = elim (or-cases (is_in_force P.world.wirings x) (list_any (λ (k : RevisionId). k.0 == x.0) ms) e) [
  | inl f ↦ inl (true-force P.world.wirings x f)
  | inr a ↦ let w = any-in (λ (k : RevisionId). k.0 == x.0) ms a in inr (subst (λ y. In y ms) (rev-eq w.0 x w.2) w.1)
]
enter-go P ms x false e = inr (in-append_right ms (x ∷ []) x (inl refl))

pull-pulls_go : (P : Problem) (ms xs : List RevisionId) (x y : RevisionId) → y ≡ x → InForce P.world.wirings x ⊎ In x ms → InForce P.world.wirings y ⊎ In y (pull_in P ms xs)
pull-pulls_go P ms xs x y e (inl f) = inl (subst (λ z. InForce P.world.wirings z) (sym e) f)
pull-pulls_go P ms xs x y e (inr i) = inr (pull_in-kept P ms xs y (subst (λ z. In z ms) (sym e) i))

pub pull_in-pulls : (P : Problem) (ms xs : List RevisionId) (y : RevisionId) → In y xs → InForce P.world.wirings y ⊎ In y (pull_in P ms xs)
pull_in-pulls P ms [] y i = elim i [ ]
pull_in-pulls P ms (x ∷ xs) y (inl e) = pull-pulls_go P (if is_in_force P.world.wirings x || list_any (λ (k : RevisionId). k.0 == x.0) ms then ms else ms ++ x ∷ []) xs x y e (enter-go P ms x (is_in_force P.world.wirings x || list_any (λ (k : RevisionId). k.0 == x.0) ms) refl)
pull_in-pulls P ms (x ∷ xs) y (inr i) = pull_in-pulls P (if is_in_force P.world.wirings x || list_any (λ (k : RevisionId). k.0 == x.0) ms then ms else ms ++ x ∷ []) xs y i

pub member-kept : (P : Problem) (D : Made) (d : Decision) (v : ℕ) (m : RevisionId) → In m (members P D) → In m (members P ((d, v) ∷ D))
member-kept P D d v m i = pull_in-kept P (members P D) (pulled P d v) m i

pub root-member : (P : Problem) (D : Made) → In P.root (members P D)
root-member P [] = inl refl
root-member P (t ∷ D) = pull_in-kept P (members P D) (pulled P t.0 t.1) P.root (root-member P D)

-- members are not in force before
pub member-new : (P : Problem) → ¬ InForce P.world.wirings P.root → (D : Made) (m : RevisionId) → In m (members P D) → ¬ InForce P.world.wirings m
member-new P new [] m (inl e) = λ f. new (subst (λ x. InForce P.world.wirings x) e f)
member-new P new [] m (inr i) = elim i [ ]
member-new P new (t ∷ D) m i = elim (pull_in-cases P (members P D) (pulled P t.0 t.1) m i) [ inl j ↦ member-new P new D m j | inr n ↦ n.1 ]

pulled-here : (P : Problem) (D : Made) (d : Decision) (v : ℕ) (x : RevisionId) → InForce P.world.wirings x ⊎ In x (members P D) → InForce P.world.wirings x ⊎ In x (members P ((d, v) ∷ D))
pulled-here P D d v x (inl f) = inl f
pulled-here P D d v x (inr i) = inr (member-kept P D d v x i)

pub step-provider : (s : Step) (x : RevisionId) → In x (provider_of s) → (r : RevisionId) × (w : Wire) × (s ≡ wired r w) × (x ≡ w.capability.provider)
step-provider (attached h f) x i = elim i [ ]
step-provider (wired r w) x (inl e) = (r, w, refl, e)
step-provider (wired r w) x (inr i) = elim i [ ]

head-pulled : (P : Problem) (D : Made) (d : Decision) (v : ℕ) (r : RevisionId) (w : Wire) → In (wired r w) (adds P d v) → InForce P.world.wirings w.capability.provider ⊎ In w.capability.provider (members P ((d, v) ∷ D))
head-pulled P D d v r w i = pull_in-pulls P (members P D) (pulled P d v) w.capability.provider (in-flat_map provider_of (adds P d v) (wired r w) w.capability.provider i (inl refl))

-- the provider of a decided wire is in force or a member
pub provider-in : (P : Problem) (D : Made) (d : Decision) (v : ℕ) (r : RevisionId) (w : Wire) → value_made D d ≡ Some v → In (wired r w) (adds P d v) → InForce P.world.wirings w.capability.provider ⊎ In w.capability.provider (members P D)
provider-in P [] d v r w e i = cc
provider-in P (t ∷ D) d v r w e i = elim (value-cases D t.0 t.1 d v e) [
  | inl same_decision ↦ head-pulled P D t.0 t.1 r w (subst (λ x. In (wired r w) (adds P x t.1)) same_decision.0 (subst (λ y. In (wired r w) (adds P d y)) same_decision.1 i))
  | inr old ↦ pulled-here P D t.0 t.1 w.capability.provider (provider-in P D d v r w old i)
]

-- ---- fragments and payloads

pub in-fragments : (P : Problem) (D : Made) (h f : RevisionId) → In f (matching P h) → value_made D (attaching h f) ≡ Some 0 → In f (fragments_of P D h)
in-fragments P D h f i e = in-filter (λ f. is_yes (value_made D (attaching h f))) (matching P h) f i (some-yes _ e)

pub fragments-in : (P : Problem) (D : Made) (h f : RevisionId) → In f (fragments_of P D h) → In f (matching P h) × (value_made D (attaching h f) ≡ Some 0)
fragments-in P D h f i = let r = filter-in (λ f. is_yes (value_made D (attaching h f))) (matching P h) f i in (r.0, yes-some _ r.1)

pub own-in : (P : Problem) (r : RevisionId) (q : ReqRef) → In q (own_requirements P.world.known r) → (q.owner ≡ r) × (q.index < requirement_count P.world.known r)
own-in P r q i =
    let m = map-in (λ i. let q : ReqRef = record { owner = r; index = i } in q) (below (requirement_count P.world.known r)) q i in
    (ap (λ (q : ReqRef). q.owner) m.2, subst (λ i. i < requirement_count P.world.known r) (sym (ap (λ (q : ReqRef). q.index) m.2)) (below-in (requirement_count P.world.known r) m.0 m.1))

pub in-own : (P : Problem) (r : RevisionId) (q : ReqRef) → q.owner ≡ r → q.index < requirement_count P.world.known r → In q (own_requirements P.world.known r)
in-own P r q e h =
    subst (λ x. In x (own_requirements P.world.known r)) (ref-eq (record { owner = r; index = q.index }) q (sym e) refl)
    (in-map (λ i. let q : ReqRef = record { owner = r; index = i } in q) (below (requirement_count P.world.known r)) q.index (in-below (requirement_count P.world.known r) q.index h))

-- the payload is that of the host and of its fragments
pub payload-in : (P : Problem) (D : Made) (h : RevisionId) (q : ReqRef) → In q (payload P D h) → ((q.owner ≡ h) ⊎ In q.owner (fragments_of P D h)) × (q.index < requirement_count P.world.known q.owner)
payload-in P D h q i =
    let r = flat_map-in (own_requirements P.world.known) (h ∷ fragments_of P D h) q i in
    let o = own-in P r.0 q r.2 in
    (subst (λ x. In x (h ∷ fragments_of P D h)) (sym o.0) r.1, subst (λ x. q.index < requirement_count P.world.known x) (sym o.0) o.1)

pub in-payload : (P : Problem) (D : Made) (h : RevisionId) (q : ReqRef) → (q.owner ≡ h) ⊎ In q.owner (fragments_of P D h) → q.index < requirement_count P.world.known q.owner → In q (payload P D h)
in-payload P D h q o n = in-flat_map (own_requirements P.world.known) (h ∷ fragments_of P D h) q.owner q o (in-own P q.owner q refl n)

pub fragments-kept : (P : Problem) (D : Made) (d : Decision) (v : ℕ) → value_made D d ≡ None → (h f : RevisionId) → In f (fragments_of P D h) → In f (fragments_of P ((d, v) ∷ D) h)
fragments-kept P D d v n h f i = let r = fragments-in P D h f i in in-fragments P ((d, v) ∷ D) h f r.0 (value-kept D d v (attaching h f) 0 n r.1)

owner-kept : (P : Problem) (D : Made) (d : Decision) (v : ℕ) → value_made D d ≡ None → (h o : RevisionId) → (o ≡ h) ⊎ In o (fragments_of P D h) → (o ≡ h) ⊎ In o (fragments_of P ((d, v) ∷ D) h)
owner-kept P D d v n h o (inl e) = inl e
owner-kept P D d v n h o (inr i) = inr (fragments-kept P D d v n h o i)

pub payload-kept : (P : Problem) (D : Made) (d : Decision) (v : ℕ) → value_made D d ≡ None → (h : RevisionId) (q : ReqRef) → In q (payload P D h) → In q (payload P ((d, v) ∷ D) h)
payload-kept P D d v n h q i = let r = payload-in P D h q i in in-payload P ((d, v) ∷ D) h q (owner-kept P D d v n h q.owner r.0) r.1

-- ---- due decisions

kind-go : (a b : Bool) → IsTrue a ⊎ (IsTrue b ⊎ IsTrue (not (a || b)))
kind-go true b = inl refl
kind-go false true = inr (inl refl)
kind-go false false = inr (inr refl)

kind-cases : (k : List ℕ) → IsTrue (is_bundle k) ⊎ (IsTrue (is_package k) ⊎ IsTrue (is_generic k))
kind-cases k = kind-go (is_bundle k) (is_package k)

of_kind-in : (P : Problem) (test : List ℕ → Bool) (qs : List ReqRef) (q : ReqRef) → In q (of_kind P test qs) → In q qs × IsTrue (is_effective P.world.known q)
of_kind-in P test qs q i =
    let r = filter-in (λ q. (is_effective P.world.known q) && test (requirement_namespace P.world.known q)) qs q i in
    (r.0, (and-cases (is_effective P.world.known q) (test (requirement_namespace P.world.known q)) r.1).0)

in-of_kind : (P : Problem) (test : List ℕ → Bool) (qs : List ReqRef) (q : ReqRef) → In q qs → IsTrue (is_effective P.world.known q) → IsTrue (test (requirement_namespace P.world.known q)) → In q (of_kind P test qs)
in-of_kind P test qs q i e t = in-filter (λ q. (is_effective P.world.known q) && test (requirement_namespace P.world.known q)) qs q i (and-both (is_effective P.world.known q) (test (requirement_namespace P.world.known q)) e t)

pub in_turn-in : (P : Problem) (qs : List ReqRef) (q : ReqRef) → In q (in_turn P qs) → In q qs × IsTrue (is_effective P.world.known q)
in_turn-in P qs q i = elim (in-append_cases (of_kind P is_bundle qs) (of_kind P is_package qs ++ of_kind P is_generic qs) q i) [
  | inl a ↦ of_kind-in P is_bundle qs q a
  | inr b ↦ elim (in-append_cases (of_kind P is_package qs) (of_kind P is_generic qs) q b) [
    | inl c ↦ of_kind-in P is_package qs q c
    | inr d ↦ of_kind-in P is_generic qs q d
  ]
]

pub in-in_turn : (P : Problem) (qs : List ReqRef) (q : ReqRef) → In q qs → IsTrue (is_effective P.world.known q) → In q (in_turn P qs)
in-in_turn P qs q i e = elim (kind-cases (requirement_namespace P.world.known q)) [
  | inl a ↦ in-append_left (of_kind P is_bundle qs) (of_kind P is_package qs ++ of_kind P is_generic qs) q (in-of_kind P is_bundle qs q i e a)
  | inr (inl b) ↦ in-append_right (of_kind P is_bundle qs) (of_kind P is_package qs ++ of_kind P is_generic qs) q (in-append_left (of_kind P is_package qs) (of_kind P is_generic qs) q (in-of_kind P is_package qs q i e b))
  | inr (inr c) ↦ in-append_right (of_kind P is_bundle qs) (of_kind P is_package qs ++ of_kind P is_generic qs) q (in-append_right (of_kind P is_package qs) (of_kind P is_generic qs) q (in-of_kind P is_generic qs q i e c))
]

-- all attachments of h are made
abbrev pub AllAttached : Problem → Made → RevisionId → Type 0
AllAttached P D h = (f : RevisionId) → In f (matching P h) → IsMade D (attaching h f)

attached-all : (P : Problem) (D : Made) (h : RevisionId) → list_any (is_open D) (attachments P h) ≡ false → AllAttached P D h
attached-all P D h n f i = not-open_made D (attaching h f) (λ t. let u = in-any (is_open D) (attachments P h) (attaching h f) (in-map (attaching h) (matching P h) f i) t in cc)

none-open : (P : Problem) (D : Made) (h : RevisionId) → AllAttached P D h → IsTrue (list_any (is_open D) (attachments P h)) → ⊥
none-open P D h all t =
    let a = any-in (is_open D) (attachments P h) t in
    let m = map-in (attaching h) (matching P h) a.0 a.1 in
    made-not_open D (attaching h m.0) (all m.0 m.1) (subst (λ d. IsTrue (is_open D d)) m.2 a.2)

-- what a due decision is
pub data IsDue (P : Problem) (D : Made) (h : RevisionId) (d : Decision) : Type 0 where
  attaches : (f : RevisionId) → In f (matching P h) → d ≡ attaching h f → IsDue P D h d
  chooses : (q : ReqRef) → In q (payload P D h) → IsTrue (is_effective P.world.known q) → AllAttached P D h →
      (is_multiple P.world.known q) ≡ false → d ≡ choose h q → IsDue P D h d
  picks : (q : ReqRef) (c : CapRef) → In q (payload P D h) → IsTrue (is_effective P.world.known q) → AllAttached P D h →
      (is_multiple P.world.known q) ≡ true → In c (candidates P q) → d ≡ pick h q c → IsDue P D h d

requirement-due : (P : Problem) (D : Made) (h : RevisionId) (q : ReqRef) (d : Decision) (b : Bool) → (is_multiple P.world.known q) ≡ b → In q (payload P D h) → IsTrue (is_effective P.world.known q) → AllAttached P D h →
    In d (if b then map (pick h q) (candidates P q) else choose h q ∷ []) → IsDue P D h d
requirement-due P D h q d true m i e all j = let c = map-in (pick h q) (candidates P q) d j in picks q c.0 i e all m c.1 c.2
requirement-due P D h q d false m i e all (inl same_decision) = chooses q i e all m same_decision
requirement-due P D h q d false m i e all (inr j) = elim j [ ]

due-choice : (P : Problem) (D : Made) (h : RevisionId) (d : Decision) (b : Bool) → list_any (is_open D) (attachments P h) ≡ b → In d (if b then [] else flat_map (decisions_of P h) (in_turn P (payload P D h))) → IsDue P D h d
due-choice P D h d true e i = elim i [ ]
due-choice P D h d false e i =
    let m = flat_map-in (decisions_of P h) (in_turn P (payload P D h)) d i in
    let t = in_turn-in P (payload P D h) m.0 m.1 in
    requirement-due P D h m.0 d (is_multiple P.world.known m.0) refl t.0 t.1 (attached-all P D h e) m.2

pub due-in : (P : Problem) (D : Made) (h : RevisionId) (d : Decision) → In d (due_decisions P D h) → IsDue P D h d
due-in P D h d i = elim (in-append_cases (attachments P h) (if list_any (is_open D) (attachments P h) then [] else flat_map (decisions_of P h) (in_turn P (payload P D h))) d i) [
  | inl a ↦ let m = map-in (attaching h) (matching P h) d a in attaches m.0 m.1 m.2
  | inr b ↦ due-choice P D h d (list_any (is_open D) (attachments P h)) refl b
]

pub in-due_attach : (P : Problem) (D : Made) (h f : RevisionId) → In f (matching P h) → In (attaching h f) (due_decisions P D h)
in-due_attach P D h f i = in-append_left (attachments P h) (if list_any (is_open D) (attachments P h) then [] else flat_map (decisions_of P h) (in_turn P (payload P D h))) (attaching h f) (in-map (attaching h) (matching P h) f i)

choice-due : (P : Problem) (D : Made) (h : RevisionId) (q : ReqRef) (d : Decision) (b : Bool) → list_any (is_open D) (attachments P h) ≡ b → AllAttached P D h → In q (payload P D h) → IsTrue (is_effective P.world.known q) → In d (decisions_of P h q) →
    In d (if b then [] else flat_map (decisions_of P h) (in_turn P (payload P D h)))
choice-due P D h q d true e all i eff j = absurd (none-open P D h all e)
choice-due P D h q d false e all i eff j = in-flat_map (decisions_of P h) (in_turn P (payload P D h)) q d (in-in_turn P (payload P D h) q i eff) j

-- the decisions of a requirement of the payload are due, once all attachments are made
pub in-due_of : (P : Problem) (D : Made) (h : RevisionId) (q : ReqRef) (d : Decision) → AllAttached P D h → In q (payload P D h) → IsTrue (is_effective P.world.known q) → In d (decisions_of P h q) → In d (due_decisions P D h)
in-due_of P D h q d all i eff j = in-append_right (attachments P h) (if list_any (is_open D) (attachments P h) then [] else flat_map (decisions_of P h) (in_turn P (payload P D h))) d (choice-due P D h q d (list_any (is_open D) (attachments P h)) refl all i eff j)

choose-of : (P : Problem) (h : RevisionId) (q : ReqRef) (b : Bool) → (is_multiple P.world.known q) ≡ b → b ≡ false → In (choose h q) (if b then map (pick h q) (candidates P q) else choose h q ∷ [])
choose-of P h q true e f = cc
choose-of P h q false e f = inl refl

pick-of : (P : Problem) (h : RevisionId) (q : ReqRef) (c : CapRef) (b : Bool) → (is_multiple P.world.known q) ≡ b → b ≡ true → In c (candidates P q) → In (pick h q c) (if b then map (pick h q) (candidates P q) else choose h q ∷ [])
pick-of P h q c true e f i = in-map (pick h q) (candidates P q) c i
pick-of P h q c false e f i = cc

pub in-due_choose : (P : Problem) (D : Made) (h : RevisionId) (q : ReqRef) → AllAttached P D h → In q (payload P D h) → IsTrue (is_effective P.world.known q) → (is_multiple P.world.known q) ≡ false → In (choose h q) (due_decisions P D h)
in-due_choose P D h q all i eff m = in-due_of P D h q (choose h q) all i eff (choose-of P h q (is_multiple P.world.known q) refl m)

pub in-due_pick : (P : Problem) (D : Made) (h : RevisionId) (q : ReqRef) (c : CapRef) → AllAttached P D h → In q (payload P D h) → IsTrue (is_effective P.world.known q) → (is_multiple P.world.known q) ≡ true → In c (candidates P q) → In (pick h q c) (due_decisions P D h)
in-due_pick P D h q c all i eff m j = in-due_of P D h q (pick h q c) all i eff (pick-of P h q c (is_multiple P.world.known q) refl m j)

pub is_due-in : (P : Problem) (D : Made) (h : RevisionId) (d : Decision) → IsDue P D h d → In d (due_decisions P D h)
is_due-in P D h d (attaches f i e) = subst (λ x. In x (due_decisions P D h)) (sym e) (in-due_attach P D h f i)
is_due-in P D h d (chooses q i eff all m e) = subst (λ x. In x (due_decisions P D h)) (sym e) (in-due_choose P D h q all i eff m)
is_due-in P D h d (picks q c i eff all m j e) = subst (λ x. In x (due_decisions P D h)) (sym e) (in-due_pick P D h q c all i eff m j)

pub due-host : (P : Problem) (D : Made) (h : RevisionId) (d : Decision) → IsDue P D h d → host d ≡ h
due-host P D h d (attaches f i e) = ap host e
due-host P D h d (chooses q i eff all m e) = ap host e
due-host P D h d (picks q c i eff all m j e) = ap host e

-- the next decision is due at a member, and not made
pub next-due : (P : Problem) (D : Made) (d : Decision) → next_decision P D ≡ Some d → (m : RevisionId) × In m (members P D) × IsDue P D m d × (value_made D d ≡ None)
next-due P D d e =
    let f = find-some (is_open D) (queue P D) d e in
    let q = flat_map-in (due_decisions P D) (members P D) d f.0 in
    (q.0, q.1, due-in P D q.0 d q.2, open-none D d f.1)

-- where none is left, each due decision is made
pub none-left : (P : Problem) (D : Made) → next_decision P D ≡ None → (m : RevisionId) (d : Decision) → In m (members P D) → In d (due_decisions P D m) → IsMade D d
none-left P D e m d i j = not-open_made D d (find-none (is_open D) (queue P D) d e (in-flat_map (due_decisions P D) (members P D) m d i j))

-- ---- what holds of each decision that is made

pub all-kept : (P : Problem) (D : Made) (d : Decision) (v : ℕ) → value_made D d ≡ None → (h : RevisionId) → AllAttached P D h → AllAttached P ((d, v) ∷ D) h
all-kept P D d v n h all f i = made-kept D d v (attaching h f) n (all f i)

pub due-kept : (P : Problem) (D : Made) (d : Decision) (v : ℕ) → value_made D d ≡ None → (h : RevisionId) (e : Decision) → IsDue P D h e → IsDue P ((d, v) ∷ D) h e
due-kept P D d v n h e (attaches f i s) = attaches f i s
due-kept P D d v n h e (chooses q i eff all m s) = chooses q (payload-kept P D d v n h q i) eff (all-kept P D d v n h all) m s
due-kept P D d v n h e (picks q c i eff all m j s) = picks q c (payload-kept P D d v n h q i) eff (all-kept P D d v n h all) m j s

pub record IsSound (P : Problem) (D : Made) (d : Decision) (v : ℕ) : Type 0 where
  pub member : In (host d) (members P D)
  pub due : IsDue P D (host d) d
  pub range : v < arity P d

sound-kept : (P : Problem) (D : Made) (d : Decision) (v : ℕ) → value_made D d ≡ None → (e : Decision) (w : ℕ) → IsSound P D e w → IsSound P ((d, v) ∷ D) e w
sound-kept P D d v n e w s = record { member = member-kept P D d v (host e) s.member; due = due-kept P D d v n (host e) e s.due; range = s.range }

sound-next : (P : Problem) (D : Made) (d : Decision) (v : ℕ) → next_decision P D ≡ Some d → v < arity P d → IsSound P D d v
sound-next P D d v n r =
    let x = next-due P D d n in
    let same_decision : x.0 ≡ host d = sym (due-host P D x.0 d x.2) in
    record { member = subst (λ m. In m (members P D)) same_decision x.1; due = subst (λ m. IsDue P D m d) same_decision x.2; range = r }

pub sound : (P : Problem) (D : Made) → State P D → (d : Decision) (v : ℕ) → value_made D d ≡ Some v → IsSound P D d v
sound P _ start d v e = cc
sound P _ (step {D = D} {d = x} {v = y} s n r) d v e =
    let open' = (next-due P D x n).3 in
    elim (value-cases D x y d v e) [
      | inl same_decision ↦ sound-kept P D x y open' d v (subst (λ z. IsSound P D z v) (sym same_decision.0) (subst (λ z. IsSound P D x z) (sym same_decision.1) (sound-next P D x y n r)))
      | inr old ↦ sound-kept P D x y open' d v (sound P D s d v old)
    ]

-- ---- wires go to candidates

-- a wire of a decision that is due at h goes to a candidate
pub record GoesTo (P : Problem) (D : Made) (h : RevisionId) (w : Wire) : Type 0 where
  pub listed : In w.capability ((candidates P) w.requirement)
  pub in_payload : In w.requirement (payload P D h)
  pub effective : IsTrue (is_effective P.world.known w.requirement)

single-candidate : (P : Problem) (D : Made) (h : RevisionId) (q : ReqRef) (r : RevisionId) (w : Wire) (c : CapRef) → wired r w ≡ wired_to h q c → In c (candidates P q) → In q (payload P D h) → IsTrue (is_effective P.world.known q) → GoesTo P D h w
unfolding wire_part
single-candidate P D h q r w c e i j eff =
    let s = ap (wire_part w) e in
    let same_decision : q ≡ w.requirement = sym (ap (λ (w : Wire). w.requirement) s) in
    record {
      listed = subst (λ n. In w.capability ((candidates P) n)) same_decision (subst (λ x. In x (candidates P q)) (sym (ap (λ (w : Wire). w.capability) s)) i);
      in_payload = subst (λ n. In n (payload P D h)) same_decision j;
      effective = subst (λ n. IsTrue (is_effective P.world.known n)) same_decision eff;
    }

not-attached : (r : RevisionId) (w : Wire) (h f : RevisionId) → In (wired r w) (attached h f ∷ []) → ⊥
not-attached r w h f (inl e) = cc
not-attached r w h f (inr i) = elim i [ ]

-- what a due decision adds as a wire is one to a candidate
pub due-candidate : (P : Problem) (D : Made) (h : RevisionId) (d : Decision) (v : ℕ) (r : RevisionId) (w : Wire) → IsDue P D h d → In (wired r w) (adds P d v) → GoesTo P D h w
due-candidate P D h d v r w (attaches f i e) j =
    let l = entry-in (menu P (attaching h f)) v (wired r w) (subst (λ x. In (wired r w) (adds P x v)) e j) in
    absurd (elim l.1 [ inl a ↦ not-attached r w h f (subst (In (wired r w)) a l.2) | inr (inl b) ↦ subst (In (wired r w)) b l.2 | inr (inr c) ↦ c ])
due-candidate P D h d v r w (chooses q i eff all m e) j =
    let s = entry-singles (wired_to h q) (is_optional P.world.known q) (candidates P q) v (wired r w) (subst (λ x. In (wired r w) (adds P x v)) e j) in
    single-candidate P D h q r w s.0 s.2 (at-in (candidates P q) v s.0 s.1) i eff
due-candidate P D h d v r w (picks q c i eff all m k e) j =
    let l = entry-in (menu P (pick h q c)) v (wired r w) (subst (λ x. In (wired r w) (adds P x v)) e j) in
    elim l.1 [
      | inl a ↦ elim (subst (In (wired r w)) a l.2) [ inl x ↦ single-candidate P D h q r w c x k i eff | inr x ↦ elim x [ ] ]
      | inr (inl b) ↦ absurd (subst (In (wired r w)) b l.2)
      | inr (inr x) ↦ elim x [ ]
    ]

pub made-candidate : (P : Problem) (D : Made) → State P D → (d : Decision) (v : ℕ) (r : RevisionId) (w : Wire) → value_made D d ≡ Some v → In (wired r w) (adds P d v) → GoesTo P D (host d) w
made-candidate P D s d v r w e i = due-candidate P D (host d) d v r w (sound P D s d v e).due i

-- a requirement of a current revision's payload can be asked
pub payload-asked : (P : Problem) → IsProblem P → (D : Made) (m : RevisionId) (q : ReqRef) → IsTrue ((is_current P.world.known) m) → In q (payload P D m) → IsTrue (is_effective P.world.known q) → CanBeAsked P.world.known q
payload-asked P L D m q c i e =
    let o = payload-in P D m q i in
    record { current = owner o.0; known = o.1; effective = e }
  where
    owner : (q.owner ≡ m) ⊎ In q.owner (fragments_of P D m) → IsTrue ((is_current P.world.known) q.owner)
    owner (inl s) = subst (λ x. IsTrue ((is_current P.world.known) x)) (sym s) c
    owner (inr j) = (((laws P L).fragments_are q.owner).0 (filter-in (λ f. (is_host_of P.world.known) f m) (current_fragments P.world.known) q.owner (fragments-in P D m q.owner j).0).0).0

-- members are current and no fragments
pub member-current : (P : Problem) → IsProblem P → (D : Made) → State P D → (m : RevisionId) → In m (members P D) → IsTrue ((is_current P.world.known) m) × ¬ IsTrue ((is_fragment P.world.known) m)
member-current P L _ start m (inl e) = subst (λ x. IsTrue ((is_current P.world.known) x) × ¬ IsTrue ((is_fragment P.world.known) x)) (sym e) (L.root_is.current, L.root_is.no_fragment)
member-current P L _ start m (inr i) = elim i [ ]
member-current P L _ (step {D = D} {d = d} {v = v} s n r) m i = elim (pull_in-cases P (members P D) (pulled P d v) m i) [
  | inl j ↦ member-current P L D s m j
  | inr new ↦
      let p = flat_map-in provider_of (adds P d v) m new.0 in
      let w = step-provider p.0 m p.2 in
      let x = next-due P D d n in
      let g = due-candidate P D x.0 d v w.0 w.1 x.2 (subst (λ s. In s (adds P d v)) w.2 p.1) in
      let c = (L.candidates_are w.1.requirement w.1.capability (payload-asked P L D x.0 w.1.requirement (member-current P L D s x.0 x.1).0 g.in_payload g.effective)).0 g.listed in
      subst (λ x. IsTrue ((is_current P.world.known) x) × ¬ IsTrue ((is_fragment P.world.known) x)) (sym w.3) (c.current, c.no_fragment)
]
