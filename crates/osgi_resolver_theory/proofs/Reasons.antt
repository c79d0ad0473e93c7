-- With one decision more a word is hopeless only for a reason that the decision gives.
use Rattle.std.proofs.Common.{◌≡◌, ◌≢◌, ℕ, ◌⊎◌, inl, inr, List, [], ◌∷◌, ◌++◌, refl, sym, ◌∙◌, ap, subst}
use Rattle.osgi_base.specs.declared.ids.RevisionId.{RevisionId}
use Rattle.osgi_world.specs.Candidates.{IsProblem}
use Rattle.osgi_world.specs.ChoiceWords.{made_by, make}
use Rattle.osgi_world.specs.Consistency.{AreRivals}
use Rattle.osgi_world.specs.Decisions.{Decision, Made, adds, host, wired}
use Rattle.osgi_world.specs.DueDecisions.{members}
use Rattle.osgi_world.specs.Hopeless as hopeless
use Rattle.osgi_world.specs.Hopeless.{Hopeless, IsDecided, IsHopeless, IsSettled, ReachedFrom, Settles, first, more}
use Rattle.osgi_world.specs.Lists.{In}
use Rattle.osgi_world.specs.Partial.{partial}
use Rattle.osgi_world.specs.Sources.{Clash, GivesPackage, Implied, Sources, follows, reexported, seen, substituted}
use Rattle.osgi_world.specs.Sources as source
use Rattle.osgi_world.specs.Wirings.{BundleWire, HasWire, InForce, InUse, OnOffer, PackageWire}
use Rattle.osgi_world.specs.declared.problem.Problem.{Problem}
use Rattle.osgi_world.specs.declared.wiring.Wire.{Wire}
use Rattle.osgi_world.specs.declared.wiring.Wiring.{Wiring}
use Rattle.osgi_world.specs.declared.world.Known.{Known}
use Rattle.osgi_resolver_theory.specs.Checks as check
use Rattle.osgi_resolver_theory.specs.Checks.{HopelessMember}
use Rattle.osgi_resolver_theory.proofs.Agree.{bundle-part, implied-starts, offer-same, package-part, reexport-is_bundle, uses-part}
use Rattle.osgi_resolver_theory.proofs.Checks.{hopeless-member, member-hopeless, new-present}
use Rattle.osgi_resolver_theory.proofs.Complete.{provider-in_force}
use Rattle.osgi_resolver_theory.proofs.Decide.{settled-dec}
use Rattle.osgi_resolver_theory.proofs.Settled.{Grew, settled-sources, settled-sources_back}
use Rattle.osgi_resolver_theory.proofs.States.{member-kept, member-new}
use Rattle.osgi_resolver_theory.proofs.Restrict.{wire-holder}
use Rattle.osgi_resolver_theory.proofs.Values.{rev-dec}
use Rattle.osgi_resolver_theory.proofs.Views.{adder-host, in_force-cases}
use Rattle.osgi_resolver_theory.proofs.Words.{made-more, word-state}
use Rattle.osgi_resolver_theory.specs.OnwardFacts.{ClashesLeadToHost, IsOnward, JoinedLack, OffersEndWithHost, OnlyNewReasons, OnlyTheseSettle, OnlyTouchedAreStuck, QuietWhileUndecided}
use Rattle.osgi_resolver_theory.specs.Reasons as reason
use Rattle.osgi_resolver_theory.specs.Reasons.{IsQuiet, Joined, Leads, LeadsTo, NewAtOnce, NewBySettling, Newly, Reaches, SettlesNow, SettlesWithHost, Stuck, by_bundle, by_package}
use Rattle.osgi_resolver_theory.proofs.Before.{OneMore, anew-use, growth, host-member, joined-no_force, joined-no_wire, joined-stuck, part-before, stuck-member, stuck-touched, use-either, wire-added, wire-either}
use Rattle.osgi_resolver_theory.proofs.Settling.{quiet-joined, quiet-part, settles-cases}

-- ---- what a revision leads to

leads-end : {K : List Known} {W : List Wiring} {A : RevisionId → Type 0} {m n : RevisionId} → Leads K W A m n → A n
leads-end (reason.itself a) = a
leads-end (by_bundle l b a) = a
leads-end (by_package l w a) = a

gives-leads : {K : List Known} {W : List Wiring} {A : RevisionId → Type 0} {m r : RevisionId} {p : List ℕ} {c y : RevisionId} → Settles K W A r → Leads K W A m c → ReachedFrom K W r c → GivesPackage K W p c y → A y → Leads K W A m y
gives-leads s l f (substituted w other e) a = by_package l w a
gives-leads s l f (source.itself e) a = l
gives-leads s l f (reexported b g) a = gives-leads s (by_bundle l (reexport-is_bundle b) (s.reached _ (more f b))) (more f b) g a

-- a source of a settled revision is led to along wires
source-leads : {K : List Known} {W : List Wiring} {A : RevisionId → Type 0} {m r y : RevisionId} {p : List ℕ} → Settles K W A r → Leads K W A m r → Sources K W r p y → A y → Leads K W A m y
source-leads s l (inl w) a = by_package l w a
source-leads s l (inr (none, inl (c, b, g))) a = gives-leads s (by_bundle l b (s.reached c (first b))) (first b) g a
source-leads {K = K} {W = W} {A = A} {m = m} s l (inr (none, inr (e, x))) a = subst (Leads K W A m) (sym e) l

-- and so is what is reached from it
reached-leads : {K : List Known} {W : List Wiring} {A : RevisionId → Type 0} {m r c : RevisionId} → Settles K W A r → Leads K W A m r → ReachedFrom K W r c → Leads K W A m c
reached-leads s l (first b) = by_bundle l b (s.reached _ (first b))
reached-leads s l (more f b) = by_bundle (reached-leads s l f) (reexport-is_bundle b) (s.reached _ (more f b))

implied-end : {K : List Known} {W : List Wiring} {A : RevisionId → Type 0} {m e : RevisionId} {u : List ℕ} → Implied K W A m e u → A e
implied-end (seen am s ae us) = ae
implied-end (follows i s ad us) = ad

pair-leads : {K : List Known} {W : List Wiring} {A : RevisionId → Type 0} {m e : RevisionId} {u : List ℕ} → Implied K W (Settles K W A) m e u → Leads K W A m e
pair-leads (seen am s ae us) = source-leads am (reason.itself am.own) s ae.own
pair-leads (follows i s ad us) = source-leads (implied-end i) (pair-leads i) s ad.own

-- ---- clashes

-- a clash of what was settled was one before
clash-before : {K : List Known} {W V : List Wiring} {C C' : RevisionId → Type 0} → Grew K W V C C' → {r e : RevisionId} {u : List ℕ} → Settles K W C r → Settles K W C e → Clash K V r e u → Clash K W r e u
clash-before g sr se c = record {
  ours = c.ours;
  ours_in = settled-sources_back g sr c.ours_in;
  ours_out = λ s. c.ours_out (settled-sources g se s);
  theirs = c.theirs;
  theirs_in = settled-sources_back g se c.theirs_in;
  theirs_out = λ s. c.theirs_out (settled-sources g sr s);
}

module _ {K : List Known} {W : List Wiring} {m : RevisionId} (no_import : (p : List ℕ) (y : RevisionId) → ¬ PackageWire K W m p y) (no_bundle : (c : RevisionId) → ¬ BundleWire K W m c) where
  source-alone : {y : RevisionId} {p : List ℕ} → Sources K W m p y → y ≡ m
  source-alone (inl w) = absurd (no_import _ _ w)
  source-alone (inr (fails, inl (c, b, g))) = absurd (no_bundle c b)
  source-alone (inr (fails, inr (e, x))) = e

  implied-alone : {A : RevisionId → Type 0} {e : RevisionId} {u : List ℕ} → Implied K W A m e u → e ≡ m
  implied-alone (seen am s ae us) = source-alone s
  implied-alone (follows {d = y} {u = u} i s ad us) = source-alone (subst (λ z. Sources K W z u y) (implied-alone i) s)

  -- a revision without wires for packages and bundles clashes with nothing
  pub alone-no_clash : {A : RevisionId → Type 0} {e : RevisionId} {u : List ℕ} → Implied K W A m e u → ¬ Clash K W m e u
  alone-no_clash {u = u} i c = c.ours_out (subst (λ z. Sources K W z u c.ours) (sym (implied-alone i)) c.ours_in)

rivals-sym : (P : Problem) (r s : RevisionId) → AreRivals P.world.known r s → AreRivals P.world.known s r
rivals-sym P r s d = record { different = λ e. d.different (sym e); name = sym d.name; current = (d.current.1, d.current.0); singletons = (d.singletons.1, d.singletons.0) }

module _ (P : Problem) (D : Made) (d : Decision) (v : ℕ) (x : OneMore P D d v) where
  -- ---- each reason is new, or was one before

  -- an implied constraint of settled revisions was one before, or leads to a revision that settles
  pair-before : {m e : RevisionId} {u : List ℕ} → Implied P.world.known (partial P ((d, v) ∷ D)) (IsSettled P ((d, v) ∷ D)) m e u →
      ((n : RevisionId) × SettlesNow P D d v n × LeadsTo P ((d, v) ∷ D) m n) ⊎ Implied P.world.known (partial P D) (IsSettled P D) m e u
  pair-before {m = m} (seen {e = e} am s ae us) = elim (settled-dec P D m) [
    | inr fails ↦ inl (m, (am, fails), reason.itself am.own)
    | inl bm ↦ elim (settled-dec P D e) [
      | inr fails ↦ inl (e, (ae, fails), pair-leads (seen am s ae us))
      | inl be ↦ inr (seen bm (settled-sources_back (growth P D d v x) bm s) be (uses-part ((growth P D d v x).kept e be.own) us))
    ]
  ]
  pair-before {m = m} (follows {d = y} i s ad us) = elim (pair-before i) [
    | inl a ↦ inl a
    | inr j ↦ elim (settled-dec P D y) [
      | inr fails ↦ inl (y, (ad, fails), pair-leads (follows i s ad us))
      | inl settled' ↦ inr (follows j (settled-sources_back (growth P D d v x) (implied-end j) s) settled' (uses-part ((growth P D d v x).kept y settled'.own) us))
    ]
  ]

  clash-settles : ¬ Hopeless P D → (m e : RevisionId) (u : List ℕ) → Implied P.world.known (partial P ((d, v) ∷ D)) (IsSettled P ((d, v) ∷ D)) m e u → Clash P.world.known (partial P ((d, v) ∷ D)) m e u →
      (n : RevisionId) × SettlesNow P D d v n × LeadsTo P ((d, v) ∷ D) m n
  clash-settles hopeful m e u pair c = elim (pair-before pair) [
    | inl y ↦ y
    | inr j ↦ absurd (hopeful (hopeless.clashes m e u j (clash-before (growth P D d v x) (implied-starts j) (implied-end j) c)))
  ]

  rivals-new : ¬ Hopeless P D → (r s : RevisionId) → InUse (partial P ((d, v) ∷ D)) r → InUse (partial P ((d, v) ∷ D)) s → AreRivals P.world.known r s → NewAtOnce P D d v
  rivals-new hopeful r s a b rivals = elim (use-either P D d v x r a) [
    | inr new ↦ reason.two_singletons r s new b rivals
    | inl o ↦ elim (use-either P D d v x s b) [
      | inr new ↦ reason.two_singletons s r new a (rivals-sym P r s rivals)
      | inl u ↦ absurd (hopeful (hopeless.two_singletons r s o u rivals))
    ]
  ]

  offer-before : ¬ Hopeless P D → (m : RevisionId) (w : Wire) → In m (members P D) → HasWire (partial P D) m w → ¬ OnOffer P.world.known (partial P ((d, v) ∷ D)) w.capability → ¬ IsSettled P D w.capability.provider
  offer-before hopeful m w i h off s =
      let g = growth P D d v x in
      hopeful (hopeless.not_offered m w i h s (λ o. off (offer-same w.capability (g.up w.capability.provider) (g.kept w.capability.provider s.own) o)))

  holder-member : (m : RevisionId) (w : Wire) → In m (members P ((d, v) ∷ D)) → HasWire (partial P D) m w → In m (members P D)
  holder-member m w i h = elim (in_force-cases P D m (wire-holder h)) [
    | inl o ↦ absurd (member-new P x.problem.root_is.not_in_force ((d, v) ∷ D) m i o)
    | inr j ↦ j
  ]

  offer-new : ¬ Hopeless P D → (m : RevisionId) (w : Wire) → In m (members P ((d, v) ∷ D)) → HasWire (partial P ((d, v) ∷ D)) m w → IsSettled P ((d, v) ∷ D) w.capability.provider → ¬ OnOffer P.world.known (partial P ((d, v) ∷ D)) w.capability → Newly P D d v
  offer-new hopeful m w i h s off = elim (wire-either P D d v x m w h) [
    | inr a ↦ inl (reason.wire_not_offered m w a s off)
    | inl old ↦ inr (reason.not_offered m w i h (s, offer-before hopeful m w (holder-member m w i old) old off) off)
  ]

  stuck-new : ¬ Hopeless P D → (m : RevisionId) → In m (members P ((d, v) ∷ D)) → Stuck P ((d, v) ∷ D) m → Newly P D d v
  stuck-new hopeful m i t = inl (reason.touched m i (stuck-touched P D d v x hopeful m i t) t)

  pub reason-new : ¬ Hopeless P D → HopelessMember P ((d, v) ∷ D) → Newly P D d v
  reason-new hopeful (check.no_candidate m q i j o c) = stuck-new hopeful m i (reason.no_candidate q j o c)
  reason-new hopeful (check.all_refused m q i j o k all) = stuck-new hopeful m i (reason.all_refused q j o k all)
  reason-new hopeful (check.two_providers m y z p i a b e) = stuck-new hopeful m i (reason.two_providers y z p a b e)
  reason-new hopeful (check.two_versions m i t) = stuck-new hopeful m i (reason.two_versions t)
  reason-new hopeful (check.two_singletons r s a b e) = inl (rivals-new hopeful r s (new-present P ((d, v) ∷ D) r a) b e)
  reason-new hopeful (check.not_offered m w i h s off) = offer-new hopeful m w i h s off
  reason-new hopeful (check.clashes m e u i pair c) = let y = clash-settles hopeful m e u pair c in inr (reason.clashes m y.0 e u i y.1 y.2 pair c)

  -- ---- and a new reason is one

  at_once-hopeless : NewAtOnce P D d v → Hopeless P ((d, v) ∷ D)
  at_once-hopeless (reason.touched m i t s) = member-hopeless P ((d, v) ∷ D) (stuck-member P ((d, v) ∷ D) m i s)
  at_once-hopeless (reason.two_singletons r s a b e) = hopeless.two_singletons r s (anew-use P D d v x r a) b e
  at_once-hopeless (reason.wire_not_offered m w a s off) =
      hopeless.not_offered m w (member-kept P D d v m (subst (λ y. In y (members P D)) (adder-host P d v m w a) (host-member P D d v x))) (wire-added P D d v x m w a) s off

  settling-hopeless : NewBySettling P D d v → Hopeless P ((d, v) ∷ D)
  settling-hopeless (reason.not_offered m w i h s off) = hopeless.not_offered m w i h s.0 off
  settling-hopeless (reason.clashes m n e u i s l pair c) = hopeless.clashes m e u pair c

  pub new-hopeless : Newly P D d v → Hopeless P ((d, v) ∷ D)
  new-hopeless (inl a) = at_once-hopeless a
  new-hopeless (inr b) = settling-hopeless b

  -- ---- where the host is not decided yet, or was decided before

  -- no wire went to what joins
  joined-apart : (r n : RevisionId) (w : Wire) → Joined P D d v n → HasWire (partial P D) r w → w.capability.provider ≡ n → ⊥
  joined-apart r n w j h e = joined-no_force P D d v x n j (subst (InForce (partial P D)) e (provider-in_force P x.problem D r w h))

  joined-no_clash : (m : RevisionId) → Joined P D d v m → {e : RevisionId} {u : List ℕ} → Implied P.world.known (partial P ((d, v) ∷ D)) (IsSettled P ((d, v) ∷ D)) m e u → ¬ Clash P.world.known (partial P ((d, v) ∷ D)) m e u
  joined-no_clash m j pair c = alone-no_clash (λ p y w. joined-no_wire P D d v x m j w.wire w.has) (λ y b. joined-no_wire P D d v x m j b.wire b.has) pair c

  -- nothing that is decided leads to it but itself
  joined-leads : IsQuiet P D d v → {m n : RevisionId} → Joined P D d v n → LeadsTo P ((d, v) ∷ D) m n → m ≡ n
  joined-leads q j (reason.itself a) = refl
  joined-leads q {n = n} j (by_bundle {r = r} l b a) = let old = bundle-part (quiet-part P D d v x q r (leads-end l)) b in absurd (joined-apart r n old.wire j old.has old.provider)
  joined-leads q {n = n} j (by_package {r = r} l w a) = let old = package-part (quiet-part P D d v x q r (leads-end l)) w in absurd (joined-apart r n old.wire j old.has old.provider)

  quiet-offer : IsQuiet P D d v → (m : RevisionId) (w : Wire) → HasWire (partial P ((d, v) ∷ D)) m w → SettlesNow P D d v w.capability.provider → In (wired m w) (adds P d v)
  quiet-offer q m w h s = elim (wire-either P D d v x m w h) [
    | inr a ↦ a
    | inl old ↦ absurd (joined-apart m w.capability.provider w (quiet-joined P D d v x q w.capability.provider s) old refl)
  ]

  quiet-no_clash : IsQuiet P D d v → {m n e : RevisionId} {u : List ℕ} → SettlesNow P D d v n → LeadsTo P ((d, v) ∷ D) m n →
      Implied P.world.known (partial P ((d, v) ∷ D)) (IsSettled P ((d, v) ∷ D)) m e u → ¬ Clash P.world.known (partial P ((d, v) ∷ D)) m e u
  quiet-no_clash q {m = m} {n = n} s l pair c =
      let j = quiet-joined P D d v x q n s in
      joined-no_clash m (subst (Joined P D d v) (sym (joined-leads q j l)) j) pair c

  quiet-reason : IsQuiet P D d v → NewBySettling P D d v → NewAtOnce P D d v
  quiet-reason q (reason.not_offered m w i h s off) = reason.wire_not_offered m w (quiet-offer q m w h s) s.0 off
  quiet-reason q (reason.clashes m n e u i s l pair c) = absurd (quiet-no_clash q s l pair c)

  pub quiet-new : IsQuiet P D d v → Newly P D d v → NewAtOnce P D d v
  quiet-new q (inl a) = a
  quiet-new q (inr b) = quiet-reason q b

  -- ---- otherwise what is new hangs on the host

  from-host : {m r : RevisionId} → LeadsTo P ((d, v) ∷ D) m r → (r ≢ host d → ⊥) → LeadsTo P ((d, v) ∷ D) m (host d)
  from-host {m = m} {r = r} l same = elim (rev-dec r (host d)) [
    | inl e ↦ subst (LeadsTo P ((d, v) ∷ D) m) e l
    | inr other ↦ absurd (same other)
  ]

  -- what leads to one that joins leads to the host, or is itself that one
  joined-host : {m n : RevisionId} → Joined P D d v n → LeadsTo P ((d, v) ∷ D) m n →
      (m ≡ n) ⊎ LeadsTo P ((d, v) ∷ D) m (host d)
  joined-host j (reason.itself a) = inl refl
  joined-host {n = n} j (by_bundle {r = r} l b a) = inr (from-host l (λ other. let old = bundle-part (part-before P D d v x r other) b in joined-apart r n old.wire j old.has old.provider))
  joined-host {n = n} j (by_package {r = r} l w a) = inr (from-host l (λ other. let old = package-part (part-before P D d v x r other) w in joined-apart r n old.wire j old.has old.provider))

  with-host : {m n : RevisionId} → IsSettled P ((d, v) ∷ D) n → LeadsTo P ((d, v) ∷ D) m n → Reaches P.world.known (partial P ((d, v) ∷ D)) n (host d) →
      LeadsTo P ((d, v) ∷ D) m (host d)
  with-host {m = m} s l (inl e) = subst (LeadsTo P ((d, v) ∷ D) m) e l
  with-host s l (inr f) = reached-leads s l f

  clash-host : {m n e : RevisionId} {u : List ℕ} → SettlesNow P D d v n → LeadsTo P ((d, v) ∷ D) m n →
      Implied P.world.known (partial P ((d, v) ∷ D)) (IsSettled P ((d, v) ∷ D)) m e u → Clash P.world.known (partial P ((d, v) ∷ D)) m e u → LeadsTo P ((d, v) ∷ D) m (host d)
  clash-host {m = m} {n = n} s l pair c = elim (settles-cases P D d v x n s) [
    | inr h ↦ with-host s.0 l h.2
    | inl j ↦ elim (joined-host j l) [ inl e ↦ absurd (joined-no_clash m (subst (Joined P D d v) (sym e) j) pair c) | inr f ↦ f ]
  ]

  pub clash-leads : ¬ Hopeless P D → (m e : RevisionId) (u : List ℕ) → Implied P.world.known (partial P ((d, v) ∷ D)) (IsSettled P ((d, v) ∷ D)) m e u → Clash P.world.known (partial P ((d, v) ∷ D)) m e u →
      (¬ IsDecided P D (host d)) × IsDecided P ((d, v) ∷ D) (host d) × LeadsTo P ((d, v) ∷ D) m (host d)
  clash-leads hopeful m e u pair c =
      let y = clash-settles hopeful m e u pair c in
      let l = clash-host y.1 y.2 pair c in
      (λ k. quiet-no_clash (inr k) y.1 y.2 pair c, leads-end l, l)

  offer-joined : (m : RevisionId) (w : Wire) → HasWire (partial P D) m w → SettlesNow P D d v w.capability.provider → SettlesWithHost P D d v w.capability.provider
  offer-joined m w h s = elim (settles-cases P D d v x w.capability.provider s) [ inl j ↦ absurd (joined-apart m w.capability.provider w j h refl) | inr y ↦ y ]

  pub offer-host : ¬ Hopeless P D → (m : RevisionId) (w : Wire) → In m (members P ((d, v) ∷ D)) → HasWire (partial P ((d, v) ∷ D)) m w → IsSettled P ((d, v) ∷ D) w.capability.provider → ¬ OnOffer P.world.known (partial P ((d, v) ∷ D)) w.capability →
      In (wired m w) (adds P d v) ⊎ SettlesNow P D d v w.capability.provider × SettlesWithHost P D d v w.capability.provider
  offer-host hopeful m w i h s off = elim (wire-either P D d v x m w h) [
    | inr a ↦ inl a
    | inl old ↦ let now : SettlesNow P D d v w.capability.provider = (s, offer-before hopeful m w (holder-member m w i old) old off) in inr (now, offer-joined m w old now)
  ]

-- ---- words

pub one-more : (P : Problem) → IsProblem P → (w : List ℕ) (d : Decision) (v : ℕ) → IsOnward P w d v → OneMore P (made_by P w) d v
one-more P L w d v o = record { problem = L; state = word-state P w o.word; next = o.next; range = o.range }

pub made-onward : (P : Problem) (w : List ℕ) (d : Decision) (v : ℕ) → IsOnward P w d v → made_by P (w ++ v ∷ []) ≡ ((d, v) ∷ made_by P w)
made-onward P w d v o = made-more P w v ∙ ap (λ n. make n (made_by P w) v) o.next

hopeless-new : (P : Problem) → IsProblem P → (w : List ℕ) (d : Decision) (v : ℕ) → IsOnward P w d v → ¬ IsHopeless P w → IsHopeless P (w ++ v ∷ []) → Newly P (made_by P w) d v
hopeless-new P L w d v o hopeful h = reason-new P (made_by P w) d v (one-more P L w d v o) hopeful (hopeless-member P L ((d, v) ∷ made_by P w) (subst (Hopeless P) (made-onward P w d v o) h))

new-word : (P : Problem) → IsProblem P → (w : List ℕ) (d : Decision) (v : ℕ) → IsOnward P w d v → Newly P (made_by P w) d v → IsHopeless P (w ++ v ∷ [])
new-word P L w d v o n = subst (Hopeless P) (sym (made-onward P w d v o)) (new-hopeless P (made_by P w) d v (one-more P L w d v o) n)

pub only_new_reasons : (P : Problem) → IsProblem P → OnlyNewReasons P
only_new_reasons P L w d v o hopeful = (hopeless-new P L w d v o hopeful, new-word P L w d v o)

pub only_touched_are_stuck : (P : Problem) → IsProblem P → OnlyTouchedAreStuck P
only_touched_are_stuck P L w d v m o hopeful i t = stuck-touched P (made_by P w) d v (one-more P L w d v o) hopeful m i t

pub settles_anew : (P : Problem) → IsProblem P → OnlyTheseSettle P
settles_anew P L w d v r o s = settles-cases P (made_by P w) d v (one-more P L w d v o) r s

pub quiet_while_undecided : (P : Problem) → IsProblem P → QuietWhileUndecided P
quiet_while_undecided P L w d v o hopeful q = (λ h. quiet-new P (made_by P w) d v (one-more P L w d v o) q (hopeless-new P L w d v o hopeful h), λ a. new-word P L w d v o (inl a))

pub clashes_lead_to_host : (P : Problem) → IsProblem P → ClashesLeadToHost P
clashes_lead_to_host P L w d v m e u o hopeful pair c = clash-leads P (made_by P w) d v (one-more P L w d v o) hopeful m e u pair c

pub offers_end_with_host : (P : Problem) → IsProblem P → OffersEndWithHost P
offers_end_with_host P L w d v m x o hopeful i h s off = offer-host P (made_by P w) d v (one-more P L w d v o) hopeful m x i h s off

pub joined_lack : (P : Problem) → IsProblem P → JoinedLack P
joined_lack P L w d v m o j t = joined-stuck P (made_by P w) d v (one-more P L w d v o) m j t
