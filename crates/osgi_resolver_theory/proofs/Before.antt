-- What a decision leaves as it was: all that is not its host's, and what had joined before.
use Rattle.std.proofs.Common.{◌≡◌, ◌≢◌, ℕ, ◌<◌, ◌⊎◌, inl, inr, List, [], ◌∷◌, None, Some, refl, sym, ◌∙◌, ap, subst}
use Rattle.osgi_base.specs.declared.ids.RevisionId.{RevisionId}
use Rattle.osgi_world.specs.Candidates.{IsProblem, candidates, matching}
use Rattle.osgi_world.specs.Decisions.{Decision, Made, adds, arity, attached, attaching, host, is_yes, pick, value_made, wired}
use Rattle.osgi_world.specs.DueDecisions.{fragments_of, members, next_decision, payload}
use Rattle.osgi_world.specs.Hopeless.{Hopeless, IsDecided}
use Rattle.osgi_world.specs.Lists.{In, Two}
use Rattle.osgi_world.specs.Lookups.{requirement_count, symbolic_name, IsNeeded}
use Rattle.osgi_world.specs.Partial.{partial}
use Rattle.osgi_world.specs.Wirings.{HasWire, InForce, InUse}
use Rattle.osgi_world.specs.declared.problem.Problem.{Problem}
use Rattle.osgi_world.specs.declared.wiring.ReqRef.{ReqRef}
use Rattle.osgi_world.specs.declared.wiring.Wire.{Wire}
use Rattle.osgi_resolver_theory.specs.Checks as check
use Rattle.osgi_resolver_theory.specs.Checks.{HopelessMember}
use Rattle.osgi_resolver_theory.specs.States.{State, step}
use Rattle.osgi_resolver_theory.proofs.Agree.{Part, package-part}
use Rattle.osgi_resolver_theory.proofs.Checks.{member-hopeless}
use Rattle.osgi_resolver_theory.proofs.Growth.{grew, two-filter}
use Rattle.osgi_resolver_theory.proofs.Restrict.{wire-holder}
use Rattle.osgi_resolver_theory.proofs.Settled.{Grew}
use Rattle.osgi_resolver_theory.proofs.States.{due-host, fragments-in, in-fragments, in-payload, member-new, next-due, payload-in, sound}
use Rattle.osgi_resolver_theory.proofs.Twos.{in-dec}
use Rattle.osgi_resolver_theory.proofs.Values.{rev-dec, some-yes, value-cases, value-head, yes-some}
use Rattle.osgi_resolver_theory.proofs.Views.{Got, adder-host, adds-attached, attached-cases, attached-made, attached-old, in_force-cases, in_force-member, in_force-old, wire-cases, wire-got, wire-old}
use Rattle.osgi_resolver_theory.specs.Reasons as reason
use Rattle.osgi_resolver_theory.specs.Reasons.{IsAnew, IsTouched, Joined, Stuck}

-- d is the next decision of a state, and v one of its values
pub record OneMore (P : Problem) (D : Made) (d : Decision) (v : ℕ) : Type 0 where
  pub problem : IsProblem P
  pub state : State P D
  pub next : next_decision P D ≡ Some d
  pub range : v < arity P d

-- a member that is stuck makes a word hopeless
pub stuck-member : (P : Problem) (D : Made) (m : RevisionId) → In m (members P D) → Stuck P D m → HopelessMember P D
stuck-member P D m i (reason.no_candidate q j o c) = check.no_candidate m q i j o c
stuck-member P D m i (reason.all_refused q j o k all) = check.all_refused m q i j o k all
stuck-member P D m i (reason.two_providers x y p a b e) = check.two_providers m x y p i a b e
stuck-member P D m i (reason.two_versions t) = check.two_versions m i t

none-empty : {X : Type 0} (xs : List X) → ((y : X) → ¬ In y xs) → xs ≡ []
none-empty [] none = refl
none-empty (y ∷ xs) none = absurd (none y (inl refl))

two-some : {X : Type 0} (R : X → X → Type 0) (xs : List X) → Two R xs → (y : X) × In y xs
two-some R [] t = elim t [ ]
two-some R (y ∷ xs) t = (y, inl refl)

module _ (P : Problem) (D : Made) (d : Decision) (v : ℕ) (x : OneMore P D d v) where
  pub opened : value_made D d ≡ None
  opened = (next-due P D d x.next).3

  pub state-after : State P ((d, v) ∷ D)
  state-after = step x.state x.next x.range

  pub growth : Grew P.world.known (partial P D) (partial P ((d, v) ∷ D)) (IsDecided P D) (IsDecided P ((d, v) ∷ D))
  growth = grew P x.problem D d v x.state x.next x.range

  pub host-member : In (host d) (members P D)
  host-member = let y = next-due P D d x.next in subst (λ m. In m (members P D)) (sym (due-host P D y.0 d y.2)) y.1

  -- ---- revisions that are not the host

  pub value-before : (m : RevisionId) → m ≢ host d → (e : Decision) (a : ℕ) → host e ≡ m → value_made ((d, v) ∷ D) e ≡ Some a → value_made D e ≡ Some a
  value-before m other e a h y = elim (value-cases D d v e a y) [ inl same ↦ absurd (other (sym h ∙ ap host same.0)) | inr old ↦ old ]

  fragment-before : (m : RevisionId) → m ≢ host d → (f : RevisionId) → In f (fragments_of P ((d, v) ∷ D) m) → In f (fragments_of P D m)
  fragment-before m other f i = let r = fragments-in P ((d, v) ∷ D) m f i in in-fragments P D m f r.0 (value-before m other (attaching m f) 0 refl r.1)

  owner-before : (m : RevisionId) → m ≢ host d → (o : RevisionId) → (o ≡ m) ⊎ In o (fragments_of P ((d, v) ∷ D) m) → (o ≡ m) ⊎ In o (fragments_of P D m)
  owner-before m other o (inl e) = inl e
  owner-before m other o (inr i) = inr (fragment-before m other o i)

  payload-before : (m : RevisionId) → m ≢ host d → (q : ReqRef) → In q (payload P ((d, v) ∷ D) m) → In q (payload P D m)
  payload-before m other q i = let r = payload-in P ((d, v) ∷ D) m q i in in-payload P D m q (owner-before m other q.owner r.0) r.1

  got-before : (m : RevisionId) (w : Wire) (g : Got P ((d, v) ∷ D) m w) → value_made D g.decision ≡ Some g.chosen → HasWire (partial P D) m w
  got-before m w g old = wire-got P D x.state m w (record { decision = g.decision; chosen = g.chosen; made = old; added = g.added })

  pub wire-before : (m : RevisionId) → m ≢ host d → (w : Wire) → HasWire (partial P ((d, v) ∷ D)) m w → HasWire (partial P D) m w
  wire-before m other w h = elim (wire-cases P ((d, v) ∷ D) m w h) [
    | inl o ↦ wire-old P D m w o
    | inr y ↦ got-before m w y.1 (value-before m other y.1.decision y.1.chosen (adder-host P y.1.decision y.1.chosen m w y.1.added) y.1.made)
  ]

  -- they hold what they held
  pub part-before : (m : RevisionId) → m ≢ host d → Part P.world.known (partial P ((d, v) ∷ D)) (partial P D) m
  part-before m other = record {
    attached = λ f h. elim (attached-cases P ((d, v) ∷ D) m f h) [
      | inl o ↦ attached-old P D m f o
      | inr y ↦ attached-made P D x.state m f (value-before m other (attaching m f) 0 refl y.2)
    ];
    wires = λ w h t. wire-before m other w h;
  }

  pub stuck-before : (m : RevisionId) → m ≢ host d → Stuck P ((d, v) ∷ D) m → Stuck P D m
  stuck-before m other (reason.no_candidate q i o c) = reason.no_candidate q (payload-before m other q i) o c
  stuck-before m other (reason.all_refused q i o k all) = reason.all_refused q (payload-before m other q i) o k (λ c j. value-before m other (pick m q c) 1 refl (all c j))
  stuck-before m other (reason.two_providers y z p a b e) = reason.two_providers y z p (package-part (part-before m other) a) (package-part (part-before m other) b) e
  stuck-before m other (reason.two_versions t) =
      reason.two_versions (two-filter (λ e f. symbolic_name P.world.known e ≡ symbolic_name P.world.known f) (λ f. is_yes (value_made ((d, v) ∷ D) (attaching m f))) (λ f. is_yes (value_made D (attaching m f)))
      (λ f y. some-yes _ (value-before m other (attaching m f) 0 refl (yes-some _ y))) (matching P m) t)

  -- so a member that is stuck is touched
  pub stuck-touched : ¬ Hopeless P D → (m : RevisionId) → In m (members P ((d, v) ∷ D)) → Stuck P ((d, v) ∷ D) m → IsTouched P D d v m
  stuck-touched hopeful m i t = elim (rev-dec m (host d)) [
    | inl e ↦ inl e
    | inr other ↦ elim (in-dec m (members P D)) [
      | inl j ↦ absurd (hopeful (member-hopeless P D (stuck-member P D m j (stuck-before m other t))))
      | inr new ↦ inr (i, new)
    ]
  ]

  -- ---- wires

  wire-got_cases : (m : RevisionId) (w : Wire) (g : Got P ((d, v) ∷ D) m w) → (g.decision ≡ d) × (g.chosen ≡ v) ⊎ (value_made D g.decision ≡ Some g.chosen) → HasWire (partial P D) m w ⊎ In (wired m w) (adds P d v)
  wire-got_cases m w g (inl same) = inr (subst (λ e. In (wired m w) (adds P e v)) same.0 (subst (λ a. In (wired m w) (adds P g.decision a)) same.1 g.added))
  wire-got_cases m w g (inr old) = inl (got-before m w g old)

  -- a wire was there before, or the decision adds it
  pub wire-either : (m : RevisionId) (w : Wire) → HasWire (partial P ((d, v) ∷ D)) m w → HasWire (partial P D) m w ⊎ In (wired m w) (adds P d v)
  wire-either m w h = elim (wire-cases P ((d, v) ∷ D) m w h) [
    | inl o ↦ inl (wire-old P D m w o)
    | inr y ↦ wire-got_cases m w y.1 (value-cases D d v y.1.decision y.1.chosen y.1.made)
  ]

  pub wire-added : (m : RevisionId) (w : Wire) → In (wired m w) (adds P d v) → HasWire (partial P ((d, v) ∷ D)) m w
  wire-added m w i = wire-got P ((d, v) ∷ D) state-after m w (record { decision = d; chosen = v; made = value-head D d v; added = i })

  -- ---- what joins

  pub joined-no_force : (m : RevisionId) → Joined P D d v m → ¬ InForce (partial P D) m
  joined-no_force m j i = elim (in_force-cases P D m i) [ inl o ↦ member-new P x.problem.root_is.not_in_force ((d, v) ∷ D) m j.0 o | inr k ↦ j.1 k ]

  -- it has no wires yet
  pub joined-no_wire : (m : RevisionId) → Joined P D d v m → (w : Wire) → ¬ HasWire (partial P ((d, v) ∷ D)) m w
  joined-no_wire m j w h = elim (wire-either m w h) [
    | inl o ↦ joined-no_force m j (wire-holder o)
    | inr a ↦ j.1 (subst (λ y. In y (members P D)) (adder-host P d v m w a) host-member)
  ]

  -- and no decision of it is made
  joined-not_made : (m : RevisionId) → Joined P D d v m → (e : Decision) (a : ℕ) → host e ≡ m → value_made ((d, v) ∷ D) e ≡ Some a → ⊥
  joined-not_made m j e a h y = elim (value-cases D d v e a y) [
    | inl same ↦ j.1 (subst (λ r. In r (members P D)) (sym (ap host same.0) ∙ h) host-member)
    | inr old ↦ j.1 (subst (λ r. In r (members P D)) h (sound P D x.state e a old).member)
  ]

  joined-no_fragment : (m : RevisionId) → Joined P D d v m → (f : RevisionId) → ¬ In f (fragments_of P ((d, v) ∷ D) m)
  joined-no_fragment m j f i = joined-not_made m j (attaching m f) 0 refl (fragments-in P ((d, v) ∷ D) m f i).1

  owner-joined : (m : RevisionId) → Joined P D d v m → (o : RevisionId) → (o ≡ m) ⊎ In o (fragments_of P ((d, v) ∷ D) m) → o ≡ m
  owner-joined m j o (inl e) = e
  owner-joined m j o (inr i) = absurd (joined-no_fragment m j o i)

  lacking : (m : RevisionId) → Joined P D d v m → (q : ReqRef) → In q (payload P ((d, v) ∷ D) m) → IsNeeded P.world.known q → candidates P q ≡ [] →
      (q : ReqRef) × (q.owner ≡ m) × (q.index < requirement_count P.world.known m) × IsNeeded P.world.known q × (candidates P q ≡ [])
  lacking m j q i needed none =
      let r = payload-in P ((d, v) ∷ D) m q i in
      let own = owner-joined m j q.owner r.0 in
      (q, own, subst (λ o. q.index < requirement_count P.world.known o) own r.1, needed, none)

  -- so it is stuck only by a requirement of its own without candidates
  pub joined-stuck : (m : RevisionId) → Joined P D d v m → Stuck P ((d, v) ∷ D) m →
      (q : ReqRef) × (q.owner ≡ m) × (q.index < requirement_count P.world.known m) × IsNeeded P.world.known q × (candidates P q ≡ [])
  joined-stuck m j (reason.no_candidate q i needed none) = lacking m j q i needed none
  joined-stuck m j (reason.all_refused q i needed k all) = lacking m j q i needed (none-empty (candidates P q) (λ c l. joined-not_made m j (pick m q c) 1 refl (all c l)))
  joined-stuck m j (reason.two_providers y z p a b e) = absurd (joined-no_wire m j a.wire a.has)
  joined-stuck m j (reason.two_versions t) = let f = two-some (λ e f. symbolic_name P.world.known e ≡ symbolic_name P.world.known f) (fragments_of P ((d, v) ∷ D) m) t in absurd (joined-no_fragment m j f.0 f.1)

  -- ---- what is in use

  added-fragment : (h f : RevisionId) → (attaching h f ≡ d) × (0 ≡ v) → In (attached (host d) f) (adds P d v)
  added-fragment h f same = subst (λ e. In (attached (host e) f) (adds P e v)) same.0 (subst (λ a. In (attached h f) (adds P (attaching h f) a)) same.1 (inl refl))

  attached-either : (h f : RevisionId) → (attaching h f ≡ d) × (0 ≡ v) ⊎ (value_made D (attaching h f) ≡ Some 0) → InUse (partial P D) f ⊎ IsAnew P D d v f
  attached-either h f (inl same) = inr (inr (added-fragment h f same))
  attached-either h f (inr old) = inl (inr (h, attached-made P D x.state h f old))

  -- what is in use was so before, or is so newly
  pub use-either : (r : RevisionId) → InUse (partial P ((d, v) ∷ D)) r → InUse (partial P D) r ⊎ IsAnew P D d v r
  use-either r (inl i) = elim (in_force-cases P ((d, v) ∷ D) r i) [
    | inl o ↦ inl (inl (in_force-old P D r o))
    | inr j ↦ elim (in-dec r (members P D)) [ inl y ↦ inl (inl (in_force-member P D r y)) | inr new ↦ inr (inl (j, new)) ]
  ]
  use-either r (inr h) = elim (attached-cases P ((d, v) ∷ D) h.0 r h.1) [
    | inl o ↦ inl (inr (h.0, attached-old P D h.0 r o))
    | inr y ↦ attached-either h.0 r (value-cases D d v (attaching h.0 r) 0 y.2)
  ]

  pub anew-use : (r : RevisionId) → IsAnew P D d v r → InUse (partial P ((d, v) ∷ D)) r
  anew-use r (inl j) = inl (in_force-member P ((d, v) ∷ D) r j.0)
  anew-use r (inr i) =
      let a = adds-attached P d v (host d) r i in
      let made : value_made ((d, v) ∷ D) (attaching (host d) r) ≡ Some 0 = subst (λ e. value_made ((d, v) ∷ D) e ≡ Some 0) (sym a.0) (subst (λ n. value_made ((d, v) ∷ D) d ≡ Some n) a.1 (value-head D d v)) in
      inr (host d, attached-made P ((d, v) ∷ D) state-after (host d) r made)
