-- Wirings that extend the present ones, cut down to what is reached from the root, are those of a complete word.
use Rattle.std.proofs.Common.{◌≡◌, ◌≢◌, ℕ, zero, suc, ◌<◌, ◌⊎◌, inl, inr, Bool, true, false, IsTrue, if◌then◌else◌, List, [], ◌∷◌, ◌++◌, length, map, None, Some, refl, sym, ◌∙◌, ap, ap₂, subst, arith}
use Rattle.osgi_base.specs.declared.ids.RevisionId.{RevisionId}
use Rattle.osgi_world.specs.Candidates.{CanBeAsked, IsCandidate, IsProblem, candidates, matching}
use Rattle.osgi_world.specs.Consistency.{AreDouble, Consistent, Extends, MayJoin}
use Rattle.osgi_world.specs.Decisions.{Decision, Made, Step, adds, arity, attaching, attached, choose, host, menu, pick, value_made, wired, wired_to}
use Rattle.osgi_world.specs.DueDecisions.{fragments_of, is_in_force, members, next_decision, payload, provider_of, pulled}
use Rattle.osgi_world.specs.Partial.{partial, wiring}
use Rattle.osgi_world.specs.Lists.{In, Two, item_at, nth_list}
use Rattle.osgi_world.specs.Lookups.{capability_count, is_current, is_effective, is_fragment, is_host_of, is_multiple, is_optional, symbolic_name}
use Rattle.osgi_world.specs.Payloads.{current_fragments}
use Rattle.osgi_world.specs.Wirings.{Attached, HasRequirement, HasWire, InForce, IsWorld, OnOffer, Owns}
use Rattle.osgi_world.specs.declared.problem.Problem.{Problem}
use Rattle.osgi_world.specs.declared.wiring.ReqRef.{ReqRef}
use Rattle.osgi_world.specs.declared.wiring.Wire.{Wire}
use Rattle.osgi_world.specs.declared.wiring.Wiring.{Wiring}
use Rattle.osgi_world.specs.declared.world.Known.{Known}
use Rattle.osgi_resolver_theory.proofs.Agree.{offer-same}
use Rattle.osgi_resolver_theory.proofs.Complete.{attached-of_member, attached-was, consistent-hopeful, fragments-single, hopeful-extends, in_force-inside, part-to, provider-in_force, wire-of_member, wire-was, wires-single}
use Rattle.osgi_resolver_theory.proofs.Laws.{laws}
use Rattle.osgi_resolver_theory.proofs.Lists.{at-once, at-within, entry-singles, flat_map-in, in-append_cases, in-at, in-filter, length-append, length-map, map-in, true-or-false}
use Rattle.osgi_resolver_theory.proofs.Restrict.{cut-consistent, same-from, same-to}
use Rattle.osgi_resolver_theory.proofs.States.{AllAttached, IsDue, due-host, force-true, fragments-in, in-due_attach, in-due_choose, in-due_pick, in-fragments, in-payload, member-current, member-new, next-due, none-left, payload-asked, payload-in, pull_in-cases, step-provider, true-force}
use Rattle.osgi_resolver_theory.proofs.Twos.{only-one, WireFor, attached-dec, has_wire-dec, wire-dec}
use Rattle.osgi_resolver_theory.proofs.Values.{value-cases}
use Rattle.osgi_resolver_theory.proofs.Views.{adder-host, adds-chosen, attached-made, due-asked, in_force-cases, wire-got}
use Rattle.osgi_resolver_theory.specs.Cuts.{IsCut, Joins, SameOf, onward, the_root}
use Rattle.osgi_resolver_theory.specs.States.{State}

-- ---- one place for each

two-different_go : {X : Type 0} (R : X → X → Type 0) (z x y : X) (xs : List X) → x ≢ y → R x y → R y x → (x ≡ z) ⊎ In x xs → (y ≡ z) ⊎ In y xs → (In x xs → In y xs → Two R xs) → Two R (z ∷ xs)
two-different_go R z x y xs d r s (inl e) (inl f) rest = absurd (d (e ∙ sym f))
two-different_go R z x y xs d r s (inl e) (inr j) rest = inl (y, j, subst (λ a. R a y) e r)
two-different_go R z x y xs d r s (inr i) (inl f) rest = inl (x, i, subst (λ a. R a x) f s)
two-different_go R z x y xs d r s (inr i) (inr j) rest = inr (rest i j)

pub two-different : {X : Type 0} (R : X → X → Type 0) (xs : List X) (x y : X) → x ≢ y → In x xs → In y xs → R x y → R y x → Two R xs
two-different R [] x y d i j r s = elim i [ ]
two-different R (z ∷ xs) x y d i j r s = two-different_go R z x y xs d r s i j (λ a b. two-different R xs x y d a b r s)

two-items_go : {X : Type 0} (R : X → X → Type 0) (z : X) (xs : List X) → ¬ Two ◌≡◌ (z ∷ xs) → (¬ Two ◌≡◌ xs → Two R xs → (x y : X) × In x xs × In y xs × (x ≢ y) × R x y) → ((y : X) × In y xs × R z y) ⊎ Two R xs → (x y : X) × In x (z ∷ xs) × In y (z ∷ xs) × (x ≢ y) × R x y
two-items_go R z xs once rest (inl h) = (z, h.0, inl refl, inr h.1, (λ e. once (inl (h.0, h.1, e))), h.2)
two-items_go R z xs once rest (inr t) = let r = rest (λ u. once (inr u)) t in (r.0, r.1, inr r.2, inr r.3, r.4, r.5)

pub two-items : {X : Type 0} (R : X → X → Type 0) (xs : List X) → ¬ Two ◌≡◌ xs → Two R xs → (x y : X) × In x xs × In y xs × (x ≢ y) × R x y
two-items R [] once t = elim t [ ]
two-items R (z ∷ xs) once t = two-items_go R z xs once (two-items R xs) t

-- the wirings of one revision are one
pub one-wiring : (K : List Known) (V : List Wiring) → IsWorld K V → (g h : Wiring) → In g V → In h V → g.revision ≡ h.revision → g ≡ h
one-wiring K V w g h i j e = only-one (λ (g h : Wiring). g.revision ≡ h.revision) V g h w.once i j e (sym e)

double-sym : (K : List Known) (v w : Wire) → AreDouble K v w → AreDouble K w v
double-sym K v w d = (sym d.0, elim d.1 [ inl n ↦ inl (subst (λ q. ¬ IsTrue (is_multiple K q)) d.0 n) | inr e ↦ inr (sym e) ])

-- two wires of one revision for one requirement that has item_at most one are one
pub one-wire : (K : List Known) (V : List Wiring) → IsWorld K V → Consistent K V → (r : RevisionId) (v w : Wire) → HasWire V r v → HasWire V r w → AreDouble K v w → v ≡ w
one-wire K V world k r v w a b e =
    let same = one-wiring K V world a.wiring b.wiring a.stands b.stands (a.revision ∙ sym b.revision) in
    only-one (AreDouble K) b.wiring.wires v w (k.coherent.rules.single b.wiring b.stands) (subst (λ (g : Wiring). In v g.wires) same a.has) b.has e (double-sym K v w e)

-- ---- what V has of what was in force, and of what it adds

-- the wirings that were there are the same in V
pub same-old : (P : Problem) (V : List Wiring) → Extends P.world.known P.world.wirings V P.root → (r : RevisionId) → InForce P.world.wirings r → SameOf P.world.wirings V r
same-old P V x r i = record {
  attached_to = λ f h. record { wiring = h.wiring; stands = x.kept h.wiring h.stands; revision = h.revision; has = h.has };
  attached_from = λ f h. record { wiring = i.wiring; stands = i.stands; revision = i.revision; has = subst (λ (g : Wiring). In f g.fragments) (here h.wiring h.stands h.revision) h.has };
  wires_to = λ w h. record { wiring = h.wiring; stands = x.kept h.wiring h.stands; revision = h.revision; has = h.has };
  wires_from = λ w h. record { wiring = i.wiring; stands = i.stands; revision = i.revision; has = subst (λ (g : Wiring). In w g.wires) (here h.wiring h.stands h.revision) h.has };
}
  where
    here : (g : Wiring) → In g V → g.revision ≡ r → g ≡ i.wiring
    here g j e = one-wiring P.world.known V x.world g i.wiring j (x.kept i.wiring i.stands) (e ∙ sym i.revision)

-- a wiring of V of another revision was added
added : (P : Problem) (V : List Wiring) → Extends P.world.known P.world.wirings V P.root → (r : RevisionId) → ¬ InForce P.world.wirings r → (g : Wiring) → In g V → g.revision ≡ r → MayJoin P.world.known g
added P V x r new g i e = elim (x.joined g i) [ inl o ↦ absurd (new (record { wiring = g; stands = o; revision = e })) | inr m ↦ m ]

added-matches : (P : Problem) → IsProblem P → (V : List Wiring) → Extends P.world.known P.world.wirings V P.root → (r f : RevisionId) → ¬ InForce P.world.wirings r → Attached V r f → In f (matching P r)
added-matches P L V x r f new h =
    let m = x.consistent.coherent.rules.attached r f h in
    let c = (added P V x r new h.wiring h.stands h.revision).fragments_current f h.has in
    in-filter (λ f. (is_host_of P.world.known) f r) (current_fragments P.world.known) f (((laws P L).fragments_are f).1 (c, ((laws P L).matching f r m).0)) m

force-dec : (W : List Wiring) (r : RevisionId) → InForce W r ⊎ ¬ InForce W r
force-dec W r = elim (true-or-false (is_in_force W r)) [ inl t ↦ inl (true-force W r t) | inr f ↦ inr (λ i. let t = force-true W r i in cc) ]

owner-stands : (P : Problem) → IsProblem P → (V : List Wiring) → Extends P.world.known P.world.wirings V P.root → (x o : RevisionId) → ¬ InForce P.world.wirings x → Owns V x o → (o ≡ x) ⊎ In o (matching P x)
owner-stands P L V e x o new (inl s) = inl s
owner-stands P L V e x o new (inr h) = inr (added-matches P L V e x o new h)

-- a wire that V adds goes to a candidate
pub added-candidate : (P : Problem) → IsProblem P → (V : List Wiring) → Extends P.world.known P.world.wirings V P.root → (r : RevisionId) (w : Wire) → ¬ InForce P.world.wirings r → HasWire V r w → IsCandidate P w.requirement w.capability
added-candidate P L V x r w new h = record {
  satisfies = x.consistent.satisfied r w h;
  current = (added P V x r new h.wiring h.stands h.revision).providers_current w h.has;
  no_fragment = let p = x.consistent.coherent.rules.provided r w h in subst (λ y. ¬ IsTrue ((is_fragment P.world.known) y)) p.revision (x.world.hosts p.wiring p.stands);
  not_owner = x.consistent.coherent.rules.not_owner r w h;
  stands = go (force-dec P.world.wirings w.capability.provider);
}
  where
    go : InForce P.world.wirings w.capability.provider ⊎ ¬ InForce P.world.wirings w.capability.provider →
        (InForce P.world.wirings w.capability.provider × OnOffer P.world.known P.world.wirings w.capability)
        ⊎ (¬ InForce P.world.wirings w.capability.provider) × ((w.capability.owner ≡ w.capability.provider) ⊎ In w.capability.owner (matching P w.capability.provider)) × (w.capability.index < (capability_count P.world.known) w.capability.owner)
    go (inl i) = let s = same-old P V x w.capability.provider i in inl (i, offer-same w.capability (same-from s) (same-to s) (x.consistent.coherent.rules.offered r w h))
    go (inr n) = let o = x.consistent.coherent.rules.offered r w h in inr (n, owner-stands P L V x w.capability.provider w.capability.owner n o.has.0, o.has.1)

-- ---- a word that follows V

-- V has what the step adds
abbrev pub Holds : List Wiring → Step → Type 0
Holds V (attached h f) = Attached V h f
Holds V (wired r w) = HasWire V r w

-- the value adds just what V has of all that the decision can add
pub record Agrees (P : Problem) (V : List Wiring) (d : Decision) (v : ℕ) : Type 0 where
  pub within : (s : Step) → In s (adds P d v) → Holds V s
  pub whole : (u : ℕ) (s : Step) → In s (adds P d u) → Holds V s → In s (adds P d v)

pub record Follows (P : Problem) (V : List Wiring) (D : Made) : Type 0 where
  pub agrees : (d : Decision) (v : ℕ) → value_made D d ≡ Some v → Agrees P V d v
  pub joins : (m : RevisionId) → In m (members P D) → Joins P V m

pub joins-new : (P : Problem) (V : List Wiring) → ¬ InForce P.world.wirings P.root → (m : RevisionId) → Joins P V m → ¬ InForce P.world.wirings m
joins-new P V new _ the_root = new
joins-new P V new _ (onward w j h n) = n

pub joins-in_force : (P : Problem) (V : List Wiring) → Extends P.world.known P.world.wirings V P.root → (m : RevisionId) → Joins P V m → InForce V m
joins-in_force P V x _ the_root = x.in_force
joins-in_force P V x _ (onward {m = m} w j h n) = x.consistent.coherent.rules.provided m w h

pub follows-start : (P : Problem) (V : List Wiring) → Follows P V []
follows-start P V = record {
  agrees = λ d v e. absurd (none-is e);
  joins = λ m i. elim i [ inl e ↦ subst (Joins P V) (sym e) the_root | inr j ↦ elim j [ ] ];
}
  where
    none-is : {v : ℕ} → None ≡ Some v → ⊥
    none-is e = cc

pulled-joins : (P : Problem) (V : List Wiring) (d : Decision) (v : ℕ) (x : RevisionId) → Agrees P V d v → Joins P V (host d) → In x (pulled P d v) → ¬ InForce P.world.wirings x → Joins P V x
pulled-joins P V d v x a j i n =
    let p = flat_map-in provider_of (adds P d v) x i in
    let w = step-provider p.0 x p.2 in
    let there : In (wired w.0 w.1) (adds P d v) = subst (λ s. In s (adds P d v)) w.2 p.1 in
    let here : Joins P V w.0 = subst (Joins P V) (adder-host P d v w.0 w.1 there) j in
    subst (Joins P V) (sym w.3) (onward w.1 here (a.within (wired w.0 w.1) there) (λ f. n (subst (λ y. InForce P.world.wirings y) (sym w.3) f)))

pub follows-more : (P : Problem) (V : List Wiring) (D : Made) (d : Decision) (v : ℕ) → Follows P V D → Joins P V (host d) → Agrees P V d v → Follows P V ((d, v) ∷ D)
follows-more P V D d v f j a = record {
  agrees = λ e w x. elim (value-cases D d v e w x) [
    | inl same ↦ subst (λ y. Agrees P V y w) (sym same.0) (subst (λ y. Agrees P V d y) (sym same.1) a)
    | inr old ↦ f.agrees e w old
  ];
  joins = λ m i. elim (pull_in-cases P (members P D) (pulled P d v) m i) [
    | inl o ↦ f.joins m o
    | inr n ↦ pulled-joins P V d v m a j n.0 n.1
  ];
}

-- ---- the next value

-- where there is one step to decide on
yes-agrees : (P : Problem) (V : List Wiring) (d : Decision) (s : Step) → menu P d ≡ ((s ∷ []) ∷ [] ∷ []) → Holds V s → Agrees P V d 0
yes-agrees P V d s m h = record {
  within = λ x i. elim (subst (λ l. In x (nth_list l 0)) m i) [ inl e ↦ subst (Holds V) (sym e) h | inr j ↦ elim j [ ] ];
  whole = λ u x i g. subst (λ l. In x (nth_list l 0)) (sym m) (one-step u x (subst (λ l. In x (nth_list l u)) m i));
}
  where
    one-step : (u : ℕ) (x : Step) → In x (nth_list ((s ∷ []) ∷ [] ∷ []) u) → In x (s ∷ [])
    one-step zero x i = i
    one-step (suc zero) x i = elim i [ ]
    one-step (suc (suc u)) x i = elim i [ ]

no-agrees : (P : Problem) (V : List Wiring) (d : Decision) (s : Step) → menu P d ≡ ((s ∷ []) ∷ [] ∷ []) → ¬ Holds V s → Agrees P V d 1
no-agrees P V d s m n = record {
  within = λ x i. elim (subst (λ l. In x (nth_list l 1)) m i) [ ];
  whole = λ u x i g. absurd (one-step u x (subst (λ l. In x (nth_list l u)) m i) g);
}
  where
    one-step : (u : ℕ) (x : Step) → In x (nth_list ((s ∷ []) ∷ [] ∷ []) u) → Holds V x → ⊥
    one-step zero x (inl e) g = n (subst (Holds V) e g)
    one-step zero x (inr i) g = elim i [ ]
    one-step (suc zero) x i g = elim i [ ]
    one-step (suc (suc u)) x i g = elim i [ ]

agree-one : (P : Problem) (V : List Wiring) (d : Decision) (s : Step) → menu P d ≡ ((s ∷ []) ∷ [] ∷ []) → Holds V s ⊎ ¬ Holds V s → (v : ℕ) × (v < arity P d) × Agrees P V d v
agree-one P V d s m (inl h) = (0, subst (λ l. 0 < length l) (sym m) (omega arith), yes-agrees P V d s m h)
agree-one P V d s m (inr n) = (1, subst (λ l. 1 < length l) (sym m) (omega arith), no-agrees P V d s m n)

follows-owner : (P : Problem) (V : List Wiring) (D : Made) → Follows P V D → (h o : RevisionId) → (o ≡ h) ⊎ In o (fragments_of P D h) → Owns V h o
follows-owner P V D f h o (inl e) = inl e
follows-owner P V D f h o (inr i) = let a = fragments-in P D h o i in inr ((f.agrees (attaching h o) 0 a.1).within (attached h o) (inl refl))

-- the requirements of a payload that is decided are those of V's
pub follows-payload : (P : Problem) (V : List Wiring) (D : Made) → Follows P V D → (h : RevisionId) (q : ReqRef) → In q (payload P D h) → HasRequirement P.world.known V h q
follows-payload P V D f h q i = let o = payload-in P D h q i in (follows-owner P V D f h q.owner o.0, o.1)

wire-eq : (w u : Wire) → w.requirement ≡ u.requirement → w.capability ≡ u.capability → w ≡ u
wire-eq w u a b = ap₂ (λ q c. record { requirement = q; capability = c }) a b

less-more : (n k v : ℕ) (xs ys : List (List Step)) → length xs ≡ n → v < n → v < length (xs ++ ys)
less-more n k v xs ys e h = let s = length-append xs ys in omega (arith, h, s, e)

-- the place of V's wire
place-agrees : (P : Problem) → IsProblem P → (V : List Wiring) → Extends P.world.known P.world.wirings V P.root → (h : RevisionId) (q : ReqRef) → (is_multiple P.world.known q) ≡ false → (w : Wire) → HasWire V h w → w.requirement ≡ q →
    (v : ℕ) → In w.capability (item_at (candidates P q) v) → Agrees P V (choose h q) v
place-agrees P L V x h q k w has e v p = record {
  within = λ s i.
      let c = entry-singles (wired_to h q) (is_optional P.world.known q) (candidates P q) v s i in
      subst (Holds V) (sym c.2) (subst (HasWire V h) (wire-eq w (record { requirement = q; capability = c.0 }) e (at-once (candidates P q) v w.capability c.0 p c.1)) has);
  whole = λ u s i g.
      let c = entry-singles (wired_to h q) (is_optional P.world.known q) (candidates P q) u s i in
      let there : HasWire V h (record { requirement = q; capability = c.0 }) = subst (Holds V) c.2 g in
      let same : w ≡ record { requirement = q; capability = c.0 } = one-wire P.world.known V x.world x.consistent h w (record { requirement = q; capability = c.0 }) has there (e, inl (λ t. not-multiple (subst (λ n. IsTrue (is_multiple P.world.known n)) e t))) in
      subst (λ s. In s (adds P (choose h q) v)) (sym c.2) (adds-chosen P h q v c.0 (subst (λ y. In y (item_at (candidates P q) v)) (ap (λ (w : Wire). w.capability) same) p));
}
  where
    not-multiple : IsTrue (is_multiple P.world.known q) → ⊥
    not-multiple t = cc

-- a requirement that V's payload of a revision has which it adds can be asked
added-asked : (P : Problem) → IsProblem P → (V : List Wiring) → Extends P.world.known P.world.wirings V P.root → (h : RevisionId) (q : ReqRef) → ¬ InForce P.world.wirings h → InForce V h → HasRequirement P.world.known V h q → IsTrue (is_effective P.world.known q) → CanBeAsked P.world.known q
added-asked P L V x h q new i has eff = record { current = owner has.0; known = has.1; effective = eff }
  where
    owner : Owns V h q.owner → IsTrue ((is_current P.world.known) q.owner)
    owner (inl s) = subst (λ y. IsTrue ((is_current P.world.known) y)) (i.revision ∙ sym s) (added P V x h new i.wiring i.stands i.revision).current
    owner (inr a) = (added P V x h new a.wiring a.stands a.revision).fragments_current q.owner a.has

wire-place : (P : Problem) → IsProblem P → (V : List Wiring) → Extends P.world.known P.world.wirings V P.root → (h : RevisionId) (q : ReqRef) → (is_multiple P.world.known q) ≡ false → ¬ InForce P.world.wirings h → CanBeAsked P.world.known q → (w : Wire) → HasWire V h w → w.requirement ≡ q →
    (v : ℕ) × (v < arity P (choose h q)) × Agrees P V (choose h q) v
wire-place P L V x h q k new asked w has e =
    let c = subst (λ n. IsCandidate P n w.capability) e (added-candidate P L V x h w new has) in
    let p = in-at (candidates P q) w.capability ((L.candidates_are q w.capability asked).1 c) in (
      p.0,
      less-more (length (candidates P q)) 0 p.0 (map (λ c. wired_to h q c ∷ []) (candidates P q)) (if (is_optional P.world.known q) then [] ∷ [] else []) (length-map (λ c. wired_to h q c ∷ []) (candidates P q)) p.1,
      place-agrees P L V x h q k w has e p.0 p.2,
    )

past-end : {X : Type 0} (xs : List X) (x : X) → In x (item_at xs (length xs)) → ⊥
past-end xs x i = let h = at-within xs (length xs) x i in omega (arith, h)

optional-room : (b : Bool) (n : ℕ) (xs : List (List Step)) → length xs ≡ n → b ≡ true → n < length (xs ++ (if b then [] ∷ [] else []))
optional-room true n xs s e = let h = length-append xs ([] ∷ []) in omega (arith, h, s)
optional-room false n xs s e = cc

no-wire : (P : Problem) (V : List Wiring) (h : RevisionId) (q : ReqRef) → ¬ WireFor V h q → (is_optional P.world.known q) ≡ true → (v : ℕ) × (v < arity P (choose h q)) × Agrees P V (choose h q) v
no-wire P V h q never o = (
  length (candidates P q),
  optional-room (is_optional P.world.known q) (length (candidates P q)) (map (λ c. wired_to h q c ∷ []) (candidates P q)) (length-map (λ c. wired_to h q c ∷ []) (candidates P q)) o,
  record {
    within = λ s i. let c = entry-singles (wired_to h q) (is_optional P.world.known q) (candidates P q) (length (candidates P q)) s i in absurd (past-end (candidates P q) c.0 c.1);
    whole = λ u s i g.
        let c = entry-singles (wired_to h q) (is_optional P.world.known q) (candidates P q) u s i in
        absurd (never (record { wire = record { requirement = q; capability = c.0 }; has = subst (Holds V) c.2 g; is_for = refl }));
  },
)

agree-choose : (P : Problem) → IsProblem P → (V : List Wiring) → Extends P.world.known P.world.wirings V P.root → (h : RevisionId) (q : ReqRef) → (is_multiple P.world.known q) ≡ false → ¬ InForce P.world.wirings h → InForce V h → HasRequirement P.world.known V h q → IsTrue (is_effective P.world.known q) →
    WireFor V h q ⊎ ¬ WireFor V h q → ((is_optional P.world.known q) ≡ true) ⊎ ((is_optional P.world.known q) ≡ false) → (v : ℕ) × (v < arity P (choose h q)) × Agrees P V (choose h q) v
agree-choose P L V x h q k new i has eff (inl w) o = wire-place P L V x h q k new (added-asked P L V x h q new i has eff) w.wire w.has w.is_for
agree-choose P L V x h q k new i has eff (inr never) (inl o) = no-wire P V h q never o
agree-choose P L V x h q k new i has eff (inr never) (inr m) =
    let w = x.consistent.coherent.rules.mandatory h q i has (record { effective = eff; mandatory = λ t. cc }) in
    absurd (never (record { wire = w.0; has = w.1; is_for = w.2 }))

-- some value of a due decision agrees with V
pub agree-due : (P : Problem) → IsProblem P → (V : List Wiring) → Extends P.world.known P.world.wirings V P.root → (D : Made) → Follows P V D → (d : Decision) → Joins P V (host d) → IsDue P D (host d) d → (v : ℕ) × (v < arity P d) × Agrees P V d v
agree-due P L V x D f (attaching h g) j i = agree-one P V (attaching h g) (attached h g) refl (attached-dec V h g)
agree-due P L V x D f (choose h q) j i =
    let w = due-asked P D h q i in
    agree-choose P L V x h q w.1 (joins-new P V L.root_is.not_in_force h j) (joins-in_force P V x h j) (follows-payload P V D f h q w.0.in_payload) w.0.effective (wire-dec V h q) (true-or-false (is_optional P.world.known q))
agree-due P L V x D f (pick h q c) j i = agree-one P V (pick h q c) (wired_to h q c) refl (has_wire-dec V h (record { requirement = q; capability = c }))

pub follows-next : (P : Problem) → IsProblem P → (V : List Wiring) → Extends P.world.known P.world.wirings V P.root → (D : Made) → Follows P V D → (d : Decision) → next_decision P D ≡ Some d → (v : ℕ) × (v < arity P d) × Follows P V ((d, v) ∷ D)
follows-next P L V x D f d n =
    let u = next-due P D d n in
    let same = sym (due-host P D u.0 d u.2) in
    let j : Joins P V (host d) = f.joins (host d) (subst (λ m. In m (members P D)) same u.1) in
    let a = agree-due P L V x D f d j (subst (λ m. IsDue P D m d) same u.2) in
    (a.0, a.1, follows-more P V D d a.0 f j a.2)

-- ---- at the end

zero-entry : (s : Step) (v : ℕ) → In s (nth_list ((s ∷ []) ∷ [] ∷ []) v) → v ≡ 0
zero-entry s zero i = refl
zero-entry s (suc zero) i = elim i [ ]
zero-entry s (suc (suc v)) i = elim i [ ]

end-attached : (P : Problem) → IsProblem P → (V : List Wiring) → Extends P.world.known P.world.wirings V P.root → (D : Made) → State P D → Follows P V D → next_decision P D ≡ None → (m f : RevisionId) → In m (members P D) → Attached V m f → value_made D (attaching m f) ≡ Some 0
end-attached P L V x D s f n m g i h =
    let a = none-left P D n m (attaching m g) i (in-due_attach P D m g (added-matches P L V x m g (member-new P L.root_is.not_in_force D m i) h)) in
    subst (λ v. value_made D (attaching m g) ≡ Some v) (zero-entry (attached m g) a.0 ((f.agrees (attaching m g) a.0 a.1).whole 0 (attached m g) (inl refl) h)) a.1

end-owner : (P : Problem) → IsProblem P → (V : List Wiring) → Extends P.world.known P.world.wirings V P.root → (D : Made) → State P D → Follows P V D → next_decision P D ≡ None → (m o : RevisionId) → In m (members P D) → Owns V m o → (o ≡ m) ⊎ In o (fragments_of P D m)
end-owner P L V x D s f n m o i (inl e) = inl e
end-owner P L V x D s f n m o i (inr h) = inr (in-fragments P D m o (added-matches P L V x m o (member-new P L.root_is.not_in_force D m i) h) (end-attached P L V x D s f n m o i h))

end-payload : (P : Problem) → IsProblem P → (V : List Wiring) → Extends P.world.known P.world.wirings V P.root → (D : Made) → State P D → Follows P V D → next_decision P D ≡ None → (m : RevisionId) (w : Wire) → In m (members P D) → HasWire V m w → In w.requirement (payload P D m) × IsTrue (is_effective P.world.known w.requirement)
end-payload P L V x D s f n m w i h = elim (x.consistent.coherent.rules.asked m w h) [
  | inl q ↦ (in-payload P D m w.requirement (end-owner P L V x D s f n m w.requirement.owner i q.0.0) q.0.1, q.1)
  | inr d ↦ absurd ((added P V x m (member-new P L.root_is.not_in_force D m i) h.wiring h.stands h.revision).no_dynamics w h.has d.1)
]

end-single : (P : Problem) → IsProblem P → (V : List Wiring) → Extends P.world.known P.world.wirings V P.root → (D : Made) → State P D → Follows P V D → next_decision P D ≡ None → (m : RevisionId) (w : Wire) → In m (members P D) → HasWire V m w → (is_multiple P.world.known w.requirement) ≡ false → HasWire (partial P D) m w
end-single P L V x D s f n m w i h k =
    let q = end-payload P L V x D s f n m w i h in
    let all : AllAttached P D m = λ g j. none-left P D n m (attaching m g) i (in-due_attach P D m g j) in
    let a = none-left P D n m (choose m w.requirement) i (in-due_choose P D m w.requirement all q.0 q.1 k) in
    let c = in-at ((candidates P) w.requirement) w.capability ((L.candidates_are w.requirement w.capability (payload-asked P L D m w.requirement (member-current P L D s m i).0 q.0 q.1)).1 (added-candidate P L V x m w (member-new P L.root_is.not_in_force D m i) h)) in
    wire-got P D s m w (record { decision = choose m w.requirement; chosen = a.0; made = a.1; added = (f.agrees (choose m w.requirement) a.0 a.1).whole c.0 (wired m w) (adds-chosen P m w.requirement c.0 w.capability c.2) h })

end-multiple : (P : Problem) → IsProblem P → (V : List Wiring) → Extends P.world.known P.world.wirings V P.root → (D : Made) → State P D → Follows P V D → next_decision P D ≡ None → (m : RevisionId) (w : Wire) → In m (members P D) → HasWire V m w → (is_multiple P.world.known w.requirement) ≡ true → HasWire (partial P D) m w
end-multiple P L V x D s f n m w i h k =
    let q = end-payload P L V x D s f n m w i h in
    let all : AllAttached P D m = λ g j. none-left P D n m (attaching m g) i (in-due_attach P D m g j) in
    let c = (L.candidates_are w.requirement w.capability (payload-asked P L D m w.requirement (member-current P L D s m i).0 q.0 q.1)).1 (added-candidate P L V x m w (member-new P L.root_is.not_in_force D m i) h) in
    let a = none-left P D n m (pick m w.requirement w.capability) i (in-due_pick P D m w.requirement w.capability all q.0 q.1 k c) in
    wire-got P D s m w (record { decision = pick m w.requirement w.capability; chosen = a.0; made = a.1; added = (f.agrees (pick m w.requirement w.capability) a.0 a.1).whole 0 (wired m w) (inl refl) h })

end-wire : (P : Problem) → IsProblem P → (V : List Wiring) → Extends P.world.known P.world.wirings V P.root → (D : Made) → State P D → Follows P V D → next_decision P D ≡ None → (m : RevisionId) (w : Wire) → In m (members P D) → HasWire V m w → HasWire (partial P D) m w
end-wire P L V x D s f n m w i h = elim (true-or-false (is_multiple P.world.known w.requirement)) [
  | inl k ↦ end-multiple P L V x D s f n m w i h k
  | inr k ↦ end-single P L V x D s f n m w i h k
]

-- a member has just what V has
pub end-same : (P : Problem) → IsProblem P → (V : List Wiring) → Extends P.world.known P.world.wirings V P.root → (D : Made) → State P D → Follows P V D → next_decision P D ≡ None → (m : RevisionId) → In m (members P D) → SameOf (partial P D) V m
end-same P L V x D s f n m i = record {
  attached_to = λ g h. (f.agrees (attaching m g) 0 (attached-of_member P L D m g i h).1).within (attached m g) (inl refl);
  attached_from = λ g h. attached-made P D s m g (end-attached P L V x D s f n m g i h);
  wires_to = λ w h. let g = wire-of_member P L D m w i h in (f.agrees g.decision g.chosen g.made).within (wired m w) g.added;
  wires_from = λ w h. end-wire P L V x D s f n m w i h;
}

old-same : (P : Problem) → IsProblem P → (V : List Wiring) → Extends P.world.known P.world.wirings V P.root → (D : Made) → (r : RevisionId) → InForce P.world.wirings r → SameOf (partial P D) V r
old-same P L V x D r i =
    let s = same-old P V x r i in
    record {
      attached_to = λ g h. s.attached_to g (attached-was P L D r g i h);
      attached_from = λ g h. (part-to P D r).attached g (s.attached_from g h);
      wires_to = λ w h. s.wires_to w (wire-was P L D r w i h);
      wires_from = λ w h. wire-old' w (s.wires_from w h);
    }
  where
    wire-old' : (w : Wire) → HasWire P.world.wirings r w → HasWire (partial P D) r w
    wire-old' w h = Rattle.osgi_resolver_theory.proofs.Views.wire-old P D r w h

-- the wirings of the word are those of V, cut down
pub end-cut : (P : Problem) → IsProblem P → (V : List Wiring) → Extends P.world.known P.world.wirings V P.root → (D : Made) → State P D → Follows P V D → next_decision P D ≡ None → IsCut (partial P D) V
end-cut P L V x D s f n = record {
  in_force = λ r i. elim (in_force-cases P D r i) [
    | inl o ↦ record { wiring = o.wiring; stands = x.kept o.wiring o.stands; revision = o.revision }
    | inr m ↦ joins-in_force P V x r (f.joins r m)
  ];
  same = λ r i. elim (in_force-cases P D r i) [ inl o ↦ old-same P L V x D r o | inr m ↦ end-same P L V x D s f n r m ];
  inside = in_force-inside P L D;
}

-- and all that V adds and reaches from the root is there
pub end-joins : (P : Problem) → IsProblem P → (V : List Wiring) → Extends P.world.known P.world.wirings V P.root → (D : Made) → State P D → Follows P V D → next_decision P D ≡ None → (m : RevisionId) → Joins P V m → In m (members P D)
end-joins P L V x D s f n _ the_root = Rattle.osgi_resolver_theory.proofs.States.root-member P D
end-joins P L V x D s f n _ (onward {m = m} w j h new) =
    let here = end-wire P L V x D s f n m w (end-joins P L V x D s f n m j) h in
    elim (in_force-cases P D w.capability.provider (provider-in_force P L D m w here)) [ inl o ↦ absurd (new o) | inr i ↦ i ]

versions-differ : (P : Problem) → IsProblem P → (V : List Wiring) → Extends P.world.known P.world.wirings V P.root → (D : Made) → State P D → Follows P V D → next_decision P D ≡ None → (m : RevisionId) → In m (members P D) → ¬ Two (λ e f. symbolic_name P.world.known e ≡ symbolic_name P.world.known f) (fragments_of P D m)
versions-differ P L V x D s f n m i t =
    let two = two-items (λ e f. symbolic_name P.world.known e ≡ symbolic_name P.world.known f) (fragments_of P D m) (fragments-single P L D m) t in
    let here : (g : RevisionId) → In g (fragments_of P D m) → Attached V m g = λ g j. (f.agrees (attaching m g) 0 (fragments-in P D m g j).1).within (attached m g) (inl refl) in
    let a = here two.0 two.2 in
    let b = here two.1 two.3 in
    let same = one-wiring P.world.known V x.world a.wiring b.wiring a.stands b.stands (a.revision ∙ sym b.revision) in
    x.consistent.coherent.rules.one_version b.wiring b.stands (two-different (λ e f. symbolic_name P.world.known e ≡ symbolic_name P.world.known f) b.wiring.fragments two.0 two.1 two.4 (subst (λ (g : Wiring). In two.0 g.fragments) same a.has) b.has two.5 (sym two.5))

pub end-consistent : (P : Problem) → IsProblem P → (V : List Wiring) → Extends P.world.known P.world.wirings V P.root → (D : Made) → State P D → Follows P V D → next_decision P D ≡ None → Consistent P.world.known (partial P D)
end-consistent P L V x D s f n = cut-consistent P.world.known (partial P D) V x.consistent (end-cut P L V x D s f n)
    (λ g i. elim (in-append_cases P.world.wirings (map (wiring P D) (members P D)) g i) [
      | inl o ↦ L.consistent.coherent.rules.single g o
      | inr j ↦ let m = map-in (wiring P D) (members P D) g j in
          subst (λ (g : Wiring). ¬ Two (AreDouble P.world.known) g.wires) (sym m.2) (wires-single P L D m.0)
    ])
    (λ g i. elim (in-append_cases P.world.wirings (map (wiring P D) (members P D)) g i) [
      | inl o ↦ L.consistent.coherent.rules.one_version g o
      | inr j ↦ let m = map-in (wiring P D) (members P D) g j in
          subst (λ (g : Wiring). ¬ Two (λ e f. symbolic_name P.world.known e ≡ symbolic_name P.world.known f) g.fragments) (sym m.2) (versions-differ P L V x D s f n m.0 m.1)
    ])

-- so it extends the present wirings
pub end-extends : (P : Problem) → IsProblem P → (V : List Wiring) → Extends P.world.known P.world.wirings V P.root → (D : Made) → State P D → Follows P V D → next_decision P D ≡ None → Extends P.world.known P.world.wirings (partial P D) P.root
end-extends P L V x D s f n = hopeful-extends P L D s n (consistent-hopeful P L D s (end-consistent P L V x D s f n))
