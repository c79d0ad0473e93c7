-- What is hopeless with one decision more, and was not before, is so for one of the reasons that are tested then.
use Rattle.std.proofs.Common.{◌≡◌, ◌≢◌, ℕ, ◌⊎◌, inl, inr, List, ◌∷◌, Option, None, Some, refl, sym, ◌∙◌, ap, subst}
use Rattle.osgi_base.specs.declared.ids.RevisionId.{RevisionId}
use Rattle.osgi_resolver_theory.proofs.Checks.{new-present}
use Rattle.osgi_resolver_theory.proofs.States.{member-kept}
use Rattle.osgi_resolver_theory.proofs.Views.{adder-host}
use Rattle.osgi_resolver_theory.proofs.Before.{OneMore, host-member, stuck-touched, use-either, wire-added, wire-either}
use Rattle.osgi_resolver_theory.proofs.Reasons.{clash-leads, made-onward, offer-host, one-more}
use Rattle.osgi_resolver_theory.specs.OnwardFacts.{IsOnward}
use Rattle.osgi_resolver_theory.specs.Reasons as reason
use Rattle.osgi_resolver_theory.specs.Reasons.{Stuck}
use Rattle.osgi_resolver_hopeless.proofs.Answering.{known-is}
use Rattle.osgi_resolver_hopeless.proofs.Newly.{newly, newly-amiss}
use Rattle.osgi_resolver_hopeless.proofs.Reasons.{hopeless-reason}
use Rattle.osgi_resolver_hopeless.proofs.Through.{clash-through}
use Rattle.osgi_resolver_search.specs.Before.{IsHopefulBefore}
use Rattle.osgi_resolver_hopeless.specs.computed.Clashing.{HasClashAt, HasLost, HasLostAt, IsLostBy}
use Rattle.osgi_resolver_path.specs.Last.{IsLast}
use Rattle.osgi_resolver_hopeless.specs.computed.Onward as onward
use Rattle.osgi_resolver_hopeless.specs.computed.Onward.{HasNewRivals, IsAtOnce, IsNewBy, HasSettledReason}
use Rattle.osgi_resolver_hopeless.specs.computed.Reasons as reasons
use Rattle.osgi_resolver_hopeless.specs.computed.Reasons.{Reason}
use Rattle.osgi_resolver_hopeless.specs.computed.Rivals.{HasRivals, IsCurrentSingleton}
use Rattle.osgi_resolver_hopeless.specs.computed.Stuck.{IsNewlyAmiss, IsStuck, IsStuckBy, OtherProvider, amiss, by_itself, by_wire, two_providers}
use Rattle.osgi_resolver_path.specs.declared.last.Last.{Last}
use Rattle.osgi_resolver_decisions.specs.DecisionOf.{decision_of}
use Rattle.osgi_resolver_path.specs.Standing.{IsProblemOf, Standing, made}
use Rattle.osgi_resolver_path.specs.declared.wired.Wired.{Wired}
use Rattle.osgi_world.specs.ChoiceWords.{made_by}
use Rattle.osgi_world.specs.Decisions.{Decision, Made, adds, attached, host, wired}
use Rattle.osgi_world.specs.DueDecisions.{members}
use Rattle.osgi_world.specs.Hopeless as hopeless
use Rattle.osgi_world.specs.Hopeless.{Hopeless, IsDecided}
use Rattle.osgi_world.specs.Lists.{In}
use Rattle.osgi_world.specs.Partial.{partial}
use Rattle.osgi_world.specs.Wirings.{HasWire, IsExport, PackageWire}
use Rattle.osgi_world.specs.declared.problem.Problem.{Problem}
use Rattle.osgi_world.specs.declared.wiring.Wire.{Wire}

stuck-of : (P : Problem) (D : Made) (m : RevisionId) → IsStuck P D m → Stuck P D m
stuck-of P D m (amiss (inl u)) = elim u.2.no_wire [
  | inl none ↦ reason.no_candidate u.0 u.1 u.2.needed none
  | inr refused ↦ reason.all_refused u.0 u.1 u.2.needed refused.0 refused.1
]
stuck-of P D m (two_providers t) = reason.two_providers t.one t.other t.name t.one_wire t.other_wire t.differ
stuck-of P D m (amiss (inr t)) = reason.two_versions t

-- where the wire, which is there, is for a package of another provider too, there are two
pub by-stuck : (P : Problem) (D : Made) (m : RevisionId) (by : Option Wired) → ((w : Wired) → by ≡ Some w → HasWire (partial P D) w.revision w.wire) → IsStuckBy P D m by → IsStuck P D m
by-stuck P D m by there (by_itself a) = amiss (newly-amiss P D m a)
by-stuck P D m by there (by_wire w e o) = two_providers (record {
  name = o.name;
  one = w.wire.capability.provider;
  other = o.other;
  one_wire = record { wire = w.wire; has = subst (λ r. HasWire (partial P D) r w.wire) o.holder (there w e); export = o.export; provider = refl };
  other_wire = o.other_wire;
  differ = o.differ;
})

-- m is stuck, and if it is so by two providers of a package, the decision adds a wire of m for it
pub data StuckNow (P : Problem) (d : Decision) (v : ℕ) (E : Made) (m : RevisionId) : Type 0 where
  itself : IsNewlyAmiss P E m → StuckNow P d v E m
  wire : (w : Wire) → In (wired m w) (adds P d v) → OtherProvider P.world.known (partial P E) m (record { revision = m; wire = w }) → StuckNow P d v E m

-- what one decision more can give, of E, which is what is decided then
pub data Given (P : Problem) (D : Made) (d : Decision) (v : ℕ) (E : Made) : Type 0 where
  stuck : (m : RevisionId) → In m (members P E) → (m ≡ host d) ⊎ In m (members P E) × ¬ In m (members P D) → StuckNow P d v E m → Given P D d v E
  rivals : (r : HasRivals P E) (n : RevisionId) → (n ≡ r.new) ⊎ (n ≡ r.other) → (In n (members P E) × ¬ In n (members P D)) ⊎ In (attached (host d) n) (adds P d v) → Given P D d v E
  added : (m : RevisionId) (w : Wire) → In (wired m w) (adds P d v) → IsLostBy P E w → Given P D d v E
  lost : HasLostAt P E (host d) → IsDecided P E (host d) → Given P D d v E
  clash : HasClashAt P E (host d) → IsDecided P E (host d) → Given P D d v E

module _ (P : Problem) (D : Made) (d : Decision) (v : ℕ) (x : OneMore P D d v) (hopeful : ¬ Hopeless P D) where
  -- the decision adds a wire of m for the package p to y
  abbrev AddsWire : RevisionId → RevisionId → List ℕ → Type 0
  AddsWire m y p = (w : Wire) × In (wired m w) (adds P d v) × IsExport P.world.known w.capability.owner w.capability.index p × (w.capability.provider ≡ y)

  package-either : (m y : RevisionId) (p : List ℕ) → PackageWire P.world.known (partial P ((d, v) ∷ D)) m p y → PackageWire P.world.known (partial P D) m p y ⊎ AddsWire m y p
  package-either m y p a = elim (wire-either P D d v x m a.wire a.has) [
    | inl old ↦ inl (record { wire = a.wire; has = old; export = a.export; provider = a.provider })
    | inr new ↦ inr (a.wire, new, a.export, a.provider)
  ]

  -- the wire that the decision adds goes to one of the two providers
  added-one : (m y z : RevisionId) (p : List ℕ) → AddsWire m y p → PackageWire P.world.known (partial P ((d, v) ∷ D)) m p z → y ≢ z → StuckNow P d v ((d, v) ∷ D) m
  added-one m y z p new b apart = wire new.0 new.1 (record { name = p; other = z; holder = refl; export = new.2; other_wire = b; differ = λ e. apart (sym new.3 ∙ e) })

  stuck-now : (m : RevisionId) → IsStuck P ((d, v) ∷ D) m → StuckNow P d v ((d, v) ∷ D) m
  stuck-now m (amiss a) = itself (newly P D d v x hopeful m a)
  stuck-now m (two_providers t) = elim (package-either m t.one t.name t.one_wire) [
    | inr new ↦ added-one m t.one t.other t.name new t.other_wire t.differ
    | inl a ↦ elim (package-either m t.other t.name t.other_wire) [
      | inr new ↦ added-one m t.other t.one t.name new t.one_wire (λ e. t.differ (sym e))
      | inl b ↦ absurd (hopeful (hopeless.two_providers m t.one t.other t.name a b t.differ))
    ]
  ]

  rivals-given : HasRivals P ((d, v) ∷ D) → Given P D d v ((d, v) ∷ D)
  rivals-given r = elim (use-either P D d v x r.new (new-present P ((d, v) ∷ D) r.new r.is_new)) [
    | inr new ↦ rivals r r.new (inl refl) new
    | inl old ↦ elim (use-either P D d v x r.other r.in_use) [
      | inr new ↦ rivals r r.other (inr refl) new
      | inl used ↦ absurd (hopeful (hopeless.two_singletons r.new r.other old used r.rivals))
    ]
  ]

  lost-given : HasLost P ((d, v) ∷ D) → Given P D d v ((d, v) ∷ D)
  lost-given l = elim (offer-host P D d v x hopeful l.member l.wire l.is_member l.has l.settled l.lost) [
    | inl a ↦ added l.member l.wire a (l.settled, l.lost)
    | inr b ↦ lost (record { lost = l; reaches = b.1.2 }) b.1.1
  ]

  given-reason : Reason P ((d, v) ∷ D) → Given P D d v ((d, v) ∷ D)
  given-reason (reasons.stuck s) = stuck s.0 s.1 (stuck-touched P D d v x hopeful s.0 s.1 (stuck-of P ((d, v) ∷ D) s.0 s.2)) (stuck-now s.0 s.2)
  given-reason (reasons.rivals r) = rivals-given r
  given-reason (reasons.lost l) = lost-given l
  given-reason (reasons.clash c) = let l = clash-leads P D d v x hopeful c.member c.seen_by c.used c.implied c.clash in clash (record { clash = c; leads = l.2; through = clash-through P D d v x hopeful c.member c.seen_by c.used c.implied c.clash }) l.1

  pub given : (E : Made) → E ≡ ((d, v) ∷ D) → Hopeless P E → Given P D d v E
  given E e h = subst (Given P D d v) (sym e) (given-reason (hopeless-reason P ((d, v) ∷ D) x.problem (subst (Hopeless P) e h)))

module _ (P : Problem) (D : Made) (d : Decision) (v : ℕ) (x : OneMore P D d v) (E : Made) (e : E ≡ ((d, v) ∷ D)) where
  host-kept : In (host d) (members P E)
  host-kept = subst (λ F. In (host d) (members P F)) (sym e) (member-kept P D d v (host d) (host-member P D d v x))

  wire-there : (m : RevisionId) (w : Wire) → In (wired m w) (adds P d v) → HasWire (partial P E) m w
  wire-there m w i = subst (λ F. HasWire (partial P F) m w) (sym e) (wire-added P D d v x m w i)

-- ---- of the last decision of a search

module _ (s : Standing) (P : Problem) (L : IsProblemOf s P) (last : Last) (x : IsLast P s last) where
  onward-is : IsOnward P x.before (decision_of last.decision) last.value
  onward-is = record { word = x.word; next = x.next; range = x.range }

  pub more : OneMore P (made_by P x.before) (decision_of last.decision) last.value
  more = one-more P L.is x.before (decision_of last.decision) last.value onward-is

  pub made-is : made P s ≡ ((decision_of last.decision, last.value) ∷ made_by P x.before)
  made-is = ap (made_by P) x.word_is ∙ made-onward P x.before (decision_of last.decision) last.value onward-is

  pub host-there : In (host (decision_of last.decision)) (members P (made P s))
  host-there = host-kept P (made_by P x.before) (decision_of last.decision) last.value more (made P s) made-is

  pub host-at : (m : RevisionId) → m ≡ host (decision_of last.decision) → In m (members P (made P s))
  host-at m e = subst (λ r. In r (members P (made P s))) (sym e) host-there

  pub joined-there : (m : RevisionId) → last.joined ≡ Some m → In m (members P (made P s))
  joined-there m e = ((x.joined m).0 e).0

  pub made-wire : (w : Wired) → last.wired ≡ Some w → HasWire (partial P (made P s)) w.revision w.wire
  made-wire w e = wire-there P (made_by P x.before) (decision_of last.decision) last.value more (made P s) made-is w.revision w.wire ((x.wired w.revision w.wire).1 e)

  pub made-holder : (w : Wired) → last.wired ≡ Some w → In w.revision (members P (made P s))
  made-holder w e = subst (λ m. In m (members P (made P s))) (adder-host P (decision_of last.decision) last.value w.revision w.wire ((x.wired w.revision w.wire).1 e)) host-there

  -- what it newly uses
  newly-by : (n : RevisionId) → (In n (members P (made P s)) × ¬ In n (members P (made_by P x.before))) ⊎ In (attached (host (decision_of last.decision)) n) (adds P (decision_of last.decision) last.value) → IsNewBy last n
  newly-by n (inl j) = inl ((x.joined n).1 j)
  newly-by n (inr a) = inr ((x.fragment n).0 a)

  newly-one : (r : HasRivals P (made P s)) (n : RevisionId) → (n ≡ r.new) ⊎ (n ≡ r.other) → IsNewBy last n → IsNewBy last r.new ⊎ IsNewBy last r.other
  newly-one r n (inl e) b = inl (subst (IsNewBy last) e b)
  newly-one r n (inr e) b = inr (subst (IsNewBy last) e b)

  -- the wire that it adds is the one that it made
  stuck-by : (m : RevisionId) → StuckNow P (decision_of last.decision) last.value (made P s) m → IsStuckBy P (made P s) m last.wired
  stuck-by m (itself a) = by_itself a
  stuck-by m (wire w i o) = by_wire (record { revision = m; wire = w }) ((x.wired m w).0 i) o

  -- what is given is at once a reason, or settles with the host
  sorted : Given P (made_by P x.before) (decision_of last.decision) last.value (made P s) →
      IsAtOnce P s last ⊎ HasSettledReason P s (host (decision_of last.decision)) × IsDecided P (made P s) (host (decision_of last.decision))
  sorted (stuck m i (inl e) t) = inl (onward.stuck (record { member = m; is_member = i; touched = inl e; stuck = stuck-by m t }))
  sorted (stuck m i (inr j) t) = inl (onward.stuck (record { member = m; is_member = i; touched = inr ((x.joined m).1 j); stuck = stuck-by m t }))
  sorted (rivals r n one new) = inl (onward.rivals (record { is_last = x; rivals = r; newly = newly-one r n one (newly-by n new) }))
  sorted (added m w a l) = inl (onward.lost (record { revision = m; wire = w }, (x.wired m w).0 a, l))
  sorted (lost l h) = inr (onward.lost l, h)
  sorted (clash c h) = inr (onward.clash c, h)

  pub tested : IsHopefulBefore P s.word → Hopeless P (made P s) → IsAtOnce P s last ⊎ HasSettledReason P s (host (decision_of last.decision)) × IsDecided P (made P s) (host (decision_of last.decision))
  tested hopeful h = sorted (given P (made_by P x.before) (decision_of last.decision) last.value more (hopeful x.before last.value x.word_is) (made P s) made-is h)

-- what is new among rivals is a current singleton
pub new-single : (s : Standing) (P : Problem) → IsProblemOf s P → (last : Last) → HasNewRivals P s last → (n : RevisionId) × IsNewBy last n × IsCurrentSingleton s.world.known n
new-single s P L last h =
    let r = h.rivals.rivals in
    let single : (n : RevisionId) → IsCurrentSingleton P.world.known n → IsCurrentSingleton s.world.known n = λ n. subst (λ K. IsCurrentSingleton K n) (sym (known-is s P L s.world.known refl)) in
    elim h.newly [
      | inl new ↦ (h.rivals.new, new, single h.rivals.new (r.current.0, r.singletons.0))
      | inr new ↦ (h.rivals.other, new, single h.rivals.other (r.current.1, r.singletons.1))
    ]

-- of two that are the same option
pub some-same : {A : Type 0} (o : Option A) (a b : A) → o ≡ Some a → o ≡ Some b → a ≡ b
some-same o a b e f = cc

pub some-none : {A : Type 0} (o : Option A) (a : A) → o ≡ None → o ≡ Some a → ⊥
some-none o a e f = cc
