-- Any two problems of one root in one world have the same words, which come to the same wirings, the same first one and the same effort.
use Rattle.std.proofs.Common.{◌≡◌, ℕ, ◌<◌, ◌⊎◌, inl, inr, Bool, true, false, IsTrue, if◌then◌else◌, List, [], ◌∷◌, ◌++◌, length, map, filter, flat_map, find, Option, None, Some, refl, sym, ◌∙◌, ap, subst}
use Rattle.std.specs.List.{list_any}
use Rattle.std.specs.Option.{option_map_or}
use Rattle.osgi_base.specs.declared.ids.BundleId.{BundleId}
use Rattle.osgi_base.specs.declared.ids.RevisionId.{RevisionId}
use Rattle.osgi_world.specs.Candidates.{AreOrdered, CanBeAsked, IsCandidate, IsProblem, candidates}
use Rattle.osgi_world.specs.ChoiceWords.{FitsFrom, IsGood, IsWord, arity_of, decide, made_after, made_by, make, partial_of, width}
use Rattle.osgi_world.specs.Consistency.{Extends, ExtendsWorld}
use Rattle.osgi_world.specs.Decisions.{Decision, Made, attaching, choose, host, is_open, is_yes, menu, pick, value_made, wired_to}
use Rattle.osgi_world.specs.DueDecisions.{attachments, decisions_of, due_decisions, fragments_of, in_turn, members, next_decision, payload, provider_of, pull_in}
use Rattle.osgi_world.specs.Effort.{IsCounted, IsEffortAbove, IsEffortWithin, IsFirst, IsResolveOf}
use Rattle.osgi_world.specs.Hopeless.{Hopeless, IsDecided, IsHopeless, IsSettled, IsSpatial, Settles, all_refused, clashes, no_candidate, not_offered, two_providers, two_singletons, two_versions}
use Rattle.osgi_world.specs.Lists.{In, nth_list, item_at}
use Rattle.osgi_world.specs.Lookups.{IsCurrentOf, bundle_of, is_current, is_effective, is_multiple, is_optional}
use Rattle.osgi_world.specs.Partial.{chosen_by, chosen_for, partial, wires_for, wiring}
use Rattle.osgi_world.specs.Sources.{Clash, Implied, follows, seen}
use Rattle.osgi_world.specs.Wirings.{HasWire, InUse, OnOffer, PackageWire}
use Rattle.osgi_world.specs.declared.problem.Choice.{Choice}
use Rattle.osgi_world.specs.declared.problem.Problem.{Problem}
use Rattle.osgi_world.specs.declared.wiring.CapRef.{CapRef}
use Rattle.osgi_world.specs.declared.wiring.ReqRef.{ReqRef}
use Rattle.osgi_world.specs.declared.wiring.Wiring.{Wiring}
use Rattle.osgi_world.specs.declared.world.Known.{Known}
use Rattle.osgi_world.specs.declared.world.World.{World}
use Rattle.osgi_resolver_theory.proofs.Lists.{true-or-false}
use Rattle.osgi_resolver_theory.proofs.Preferred.{candidates-one}
use Rattle.osgi_resolver_theory.proofs.Search.{first-once, within-not_above}
use Rattle.osgi_resolver_theory.proofs.States.{IsDue, attaches, chooses, in_turn-in, member-current, next-due, payload-asked, picks, sound}
use Rattle.osgi_resolver_theory.proofs.Words.{answer-state, word-state}
use Rattle.osgi_resolver_theory.specs.States.{State, start, step}

-- ---- lists of the same items

map-same : {X Y : Type 0} (f g : X → Y) (xs : List X) → ((x : X) → In x xs → f x ≡ g x) → map f xs ≡ map g xs
map-same f g [] same = refl
map-same f g (x ∷ xs) same = λ i. same x (inl refl) i ∷ map-same f g xs (λ y j. same y (inr j)) i

flat_map-same : {X Y : Type 0} (f g : X → List Y) (xs : List X) → ((x : X) → In x xs → f x ≡ g x) → flat_map f xs ≡ flat_map g xs
flat_map-same f g [] same = refl
flat_map-same f g (x ∷ xs) same = λ i. same x (inl refl) i ++ flat_map-same f g xs (λ y j. same y (inr j)) i

filter-none : {X : Type 0} (test : X → Bool) (xs : List X) → ((x : X) → test x ≡ false) → filter test xs ≡ []
filter-none test [] none = refl
filter-none test (x ∷ xs) none = rw (none x) (filter-none test xs none)

-- constraints that come from some revisions come from more
implied-up : {K : List Known} {W : List Wiring} {A B : RevisionId → Type 0} {r e : RevisionId} {u : List ℕ} → ((x : RevisionId) → A x → B x) → Implied K W A r e u → Implied K W B r e u
implied-up up (seen ar s ae us) = seen (up _ ar) s (up _ ae) us
implied-up up (follows i s ad us) = follows (implied-up up i) s (up _ ad) us

-- ---- one problem, and another one that differs in what it lists

abbrev other : Problem → List Choice → Problem
other P cs = record P { choices = cs }

module _ (P : Problem) (cs : List Choice) (L : IsProblem P) (M : IsProblem (other P cs)) where
  candidate-to : (q : ReqRef) (c : CapRef) → IsCandidate P q c → IsCandidate (other P cs) q c
  candidate-to q c is = record { satisfies = is.satisfies; current = is.current; no_fragment = is.no_fragment; not_owner = is.not_owner; stands = is.stands }

  candidate-from : (q : ReqRef) (c : CapRef) → IsCandidate (other P cs) q c → IsCandidate P q c
  candidate-from q c is = record { satisfies = is.satisfies; current = is.current; no_fragment = is.no_fragment; not_owner = is.not_owner; stands = is.stands }

  pub candidates-same : (q : ReqRef) → CanBeAsked P.world.known q → candidates P q ≡ candidates (other P cs) q
  candidates-same q a =
      sym (candidates-one P L q a (candidates (other P cs) q)
      (λ c. (λ i. candidate-from q c ((M.candidates_are q c a).0 i), λ i. (M.candidates_are q c a).1 (candidate-to q c i))) (M.candidates_ordered q))

  -- ---- decisions

  decisions-same : (h : RevisionId) (q : ReqRef) → CanBeAsked P.world.known q → decisions_of P h q ≡ decisions_of (other P cs) h q
  decisions-same h q a = ap (λ l. if is_multiple P.world.known q then map (pick h q) l else choose h q ∷ []) (candidates-same q a)

  asked : (D : Made) (m : RevisionId) → IsTrue (is_current P.world.known m) → (q : ReqRef) → In q (in_turn P (payload P D m)) → CanBeAsked P.world.known q
  asked D m c q i = let t = in_turn-in P (payload P D m) q i in payload-asked P L D m q c t.0 t.1

  due-same : (D : Made) (m : RevisionId) → IsTrue (is_current P.world.known m) → due_decisions P D m ≡ due_decisions (other P cs) D m
  due-same D m c =
      ap (λ l. attachments P m ++ (if list_any (is_open D) (attachments P m) then [] else l))
      (flat_map-same (decisions_of P m) (decisions_of (other P cs) m) (in_turn P (payload P D m)) (λ q i. decisions-same m q (asked D m c q i)))

  menu-same : (D : Made) (m : RevisionId) (d : Decision) → IsTrue (is_current P.world.known m) → IsDue P D m d → menu P d ≡ menu (other P cs) d
  menu-same D m d c (attaches f i e) = subst (λ x. menu P x ≡ menu (other P cs) x) (sym e) refl
  menu-same D m d c (chooses q i eff all k e) =
      subst (λ x. menu P x ≡ menu (other P cs) x) (sym e)
      (ap (λ l. map (λ c. wired_to m q c ∷ []) l ++ (if is_optional P.world.known q then [] ∷ [] else [])) (candidates-same q (payload-asked P L D m q c i eff)))
  menu-same D m d c (picks q x i eff all k j e) = subst (λ x. menu P x ≡ menu (other P cs) x) (sym e) refl

  members-same : (D : Made) → State P D → members P D ≡ members (other P cs) D
  members-same _ start = refl
  members-same _ (step {D = D} {d = d} {v = v} s n r) =
      let x = next-due P D d n in
      let menus = menu-same D x.0 d (member-current P L D s x.0 x.1).0 x.2 in
      λ i. pull_in P (members-same D s i) (flat_map provider_of (nth_list (menus i) v))

  current : (D : Made) → State P D → (m : RevisionId) → In m (members P D) → IsTrue (is_current P.world.known m)
  current D s m i = (member-current P L D s m i).0

  next-same : (D : Made) → State P D → next_decision P D ≡ next_decision (other P cs) D
  next-same D s =
      ap (find (is_open D))
      (flat_map-same (due_decisions P D) (due_decisions (other P cs) D) (members P D) (λ m i. due-same D m (current D s m i)) ∙ ap (flat_map (due_decisions (other P cs) D)) (members-same D s))

  arity-same : (D : Made) → State P D → (o : Option Decision) → next_decision P D ≡ o → arity_of P o ≡ arity_of (other P cs) o
  arity-same D s None e = refl
  arity-same D s (Some d) e = let x = next-due P D d e in ap length (menu-same D x.0 d (current D s x.0 x.1) x.2)

  width-same : (D : Made) → State P D → width P D ≡ width (other P cs) D
  width-same D s = arity-same D s (next_decision P D) refl ∙ ap (arity_of (other P cs)) (next-same D s)

  decide-same : (D : Made) (v : ℕ) → State P D → decide P D v ≡ decide (other P cs) D v
  decide-same D v s = ap (λ o. make o D v) (next-same D s)

  -- ---- words

  made-same : (D : Made) (w : List ℕ) → State P D → FitsFrom P D w → made_after P D w ≡ made_after (other P cs) D w
  made-same D [] s f = refl
  made-same D (v ∷ w) s f = made-same (decide P D v) w (answer-state P D v s f.0) f.1 ∙ ap (λ E. made_after (other P cs) E w) (decide-same D v s)

  fits-same : (D : Made) (w : List ℕ) → State P D → FitsFrom P D w → FitsFrom (other P cs) D w
  fits-same D [] s f = tt
  fits-same D (v ∷ w) s f = (
    subst (λ n. v < n) (width-same D s) f.0,
    subst (λ E. FitsFrom (other P cs) E w) (decide-same D v s) (fits-same (decide P D v) w (answer-state P D v s f.0) f.1),
  )

  word-to : (w : List ℕ) → IsWord P w → IsWord (other P cs) w
  word-to w f = fits-same [] w start f

  made_by-same : (w : List ℕ) → IsWord P w → made_by P w ≡ made_by (other P cs) w
  made_by-same w f = made-same [] w start f

  -- ---- wirings

  due-effective : (D : Made) (h m : RevisionId) (q : ReqRef) (d : Decision) → IsDue P D h d → (d ≡ choose m q) ⊎ ((c : CapRef) × (d ≡ pick m q c)) → IsTrue (is_effective P.world.known q)
  due-effective D h m q d (attaches f i e) (inl is) = cc
  due-effective D h m q d (attaches f i e) (inr is) = let same = is.1 in cc
  due-effective D h m q d (chooses n i eff all k e) (inl is) = let same : n ≡ q = cc in subst (λ x. IsTrue (is_effective P.world.known x)) same eff
  due-effective D h m q d (chooses n i eff all k e) (inr is) = let same = is.1 in cc
  due-effective D h m q d (picks n c i eff all k j e) (inl is) = cc
  due-effective D h m q d (picks n c i eff all k j e) (inr is) = let is_pick = is.1 in let same : n ≡ q = cc in subst (λ x. IsTrue (is_effective P.world.known x)) same eff

  -- a requirement that is not effective is decided by nothing
  none-made : (D : Made) → State P D → (m : RevisionId) (q : ReqRef) → is_effective P.world.known q ≡ false → (d : Decision) → (d ≡ choose m q) ⊎ ((c : CapRef) × (d ≡ pick m q c)) →
      (o : Option ℕ) → value_made D d ≡ o → o ≡ None
  none-made D s m q vain d is None e = refl
  none-made D s m q vain d is (Some v) e = let yes = due-effective D (host d) m q d (sound P D s d v e).due is in cc

  chosen-same : (q : ReqRef) (o : Option ℕ) → candidates P q ≡ candidates (other P cs) q → chosen_by P q o ≡ chosen_by (other P cs) q o
  chosen-same q None e = refl
  chosen-same q (Some v) e = ap (λ l. item_at l v) e

  not-yes : (o : Option ℕ) → o ≡ None → is_yes o ≡ false
  not-yes None e = refl
  not-yes (Some v) e = cc

  -- so it has no capability, whatever is listed
  chosen-none : (R : Problem) (D : Made) (m : RevisionId) (q : ReqRef) → value_made D (choose m q) ≡ None → ((c : CapRef) → value_made D (pick m q c) ≡ None) → (b : Bool) →
      (if b then filter (λ c. is_yes (value_made D (pick m q c))) (candidates R q) else chosen_by R q (value_made D (choose m q))) ≡ []
  chosen-none R D m q none each true = filter-none (λ c. is_yes (value_made D (pick m q c))) (candidates R q) (λ c. not-yes (value_made D (pick m q c)) (each c))
  chosen-none R D m q none each false = ap (chosen_by R q) none

  wires-same : (D : Made) → State P D → (m : RevisionId) → IsTrue (is_current P.world.known m) → (q : ReqRef) → In q (payload P D m) →
      (IsTrue (is_effective P.world.known q)) ⊎ (is_effective P.world.known q ≡ false) → chosen_for P D m q ≡ chosen_for (other P cs) D m q
  wires-same D s m c q i (inl eff) =
      let same = candidates-same q (payload-asked P L D m q c i eff) in
      λ j. if is_multiple P.world.known q then filter (λ c. is_yes (value_made D (pick m q c))) (same j) else chosen-same q (value_made D (choose m q)) same j
  wires-same D s m c q i (inr vain) =
      let none = none-made D s m q vain (choose m q) (inl refl) (value_made D (choose m q)) refl in
      let each : (c : CapRef) → value_made D (pick m q c) ≡ None = λ c. none-made D s m q vain (pick m q c) (inr (c, refl)) (value_made D (pick m q c)) refl in
      chosen-none P D m q none each (is_multiple P.world.known q) ∙ sym (chosen-none (other P cs) D m q none each (is_multiple P.world.known q))

  wiring-same : (D : Made) → State P D → (m : RevisionId) → In m (members P D) → wiring P D m ≡ wiring (other P cs) D m
  wiring-same D s m i =
      let wires = flat_map-same (wires_for P D m) (wires_for (other P cs) D m) (payload P D m)
      (λ q j. ap (map (λ c. record { requirement = q; capability = c })) (wires-same D s m (current D s m i) q j (true-or-false (is_effective P.world.known q)))) in
      ap (λ l. record { revision = m; wires = l; fragments = fragments_of P D m }) wires

  partial-same : (D : Made) → State P D → partial P D ≡ partial (other P cs) D
  partial-same D s =
      ap (λ l. P.world.wirings ++ l)
      (map-same (wiring P D) (wiring (other P cs) D) (members P D) (λ m i. wiring-same D s m i) ∙ ap (map (wiring (other P cs) D)) (members-same D s))

  -- ---- hopeless words

  decided-to : (D : Made) → State P D → (c : RevisionId) → IsDecided P D c → IsDecided (other P cs) D c
  decided-to D s c (inl force) = inl force
  decided-to D s c (inr (i, all)) = inr (subst (In c) (members-same D s) i, λ d j spatial. all d (subst (In d) (sym (due-same D c (current D s c i))) j) (spatial-from d spatial))
    where
      spatial-from : (d : Decision) → IsSpatial (other P cs) d → IsSpatial P d
      spatial-from (attaching h f) x = x
      spatial-from (choose h q) x = x
      spatial-from (pick h q c) x = x

  settled-to : (D : Made) → State P D → (r : RevisionId) → IsSettled P D r → IsSettled (other P cs) D r
  settled-to D s r is =
      let there = subst (λ V. Settles P.world.known V (IsDecided P D) r) (partial-same D s) is in
      record { own = decided-to D s r there.own; reached = λ c h. decided-to D s c (there.reached c h) }

  hopeless-to : (D : Made) → State P D → Hopeless P D → Hopeless (other P cs) D
  hopeless-to D s (no_candidate m q i j needed none) =
      no_candidate m q (subst (In m) (members-same D s) i) j needed (sym (candidates-same q (payload-asked P L D m q (current D s m i) j needed.effective)) ∙ none)
  hopeless-to D s (all_refused m q i j needed k all) =
      let same = candidates-same q (payload-asked P L D m q (current D s m i) j needed.effective) in
      all_refused m q (subst (In m) (members-same D s) i) j needed k (λ c x. all c (subst (In c) (sym same) x))
  hopeless-to D s (two_providers r x y p a b n) =
      two_providers r x y p (subst (λ V. PackageWire P.world.known V r p x) (partial-same D s) a) (subst (λ V. PackageWire P.world.known V r p y) (partial-same D s) b) n
  hopeless-to D s (two_versions g i t) = two_versions g (subst (In g) (partial-same D s) i) t
  hopeless-to D s (two_singletons r t a b rivals) =
      two_singletons r t (subst (λ V. InUse V r) (partial-same D s) a) (subst (λ V. InUse V t) (partial-same D s) b) rivals
  hopeless-to D s (not_offered m w i has settled off) =
      not_offered m w (subst (In m) (members-same D s) i) (subst (λ V. HasWire V m w) (partial-same D s) has) (settled-to D s w.capability.provider settled)
      (λ on. off (subst (λ V. OnOffer P.world.known V w.capability) (sym (partial-same D s)) on))
  hopeless-to D s (clashes r e u implied clash) =
      clashes r e u (implied-up (settled-to D s) (subst (λ V. Implied P.world.known V (IsSettled P D) r e u) (partial-same D s) implied))
      (subst (λ V. Clash P.world.known V r e u) (partial-same D s) clash)

  hopeless_word-to : (w : List ℕ) → IsWord P w → IsHopeless P w → IsHopeless (other P cs) w
  hopeless_word-to w f h = subst (Hopeless (other P cs)) (made_by-same w f) (hopeless-to (made_by P w) (word-state P w f) h)

  -- ---- good words

  partial_of-same : (w : List ℕ) → IsWord P w → partial_of P w ≡ partial_of (other P cs) w
  partial_of-same w f = partial-same (made_by P w) (word-state P w f) ∙ ap (partial (other P cs)) (made_by-same w f)

  good-to : (w : List ℕ) → IsGood P w → IsGood (other P cs) w
  good-to w g = (
    word-to w g.0,
    subst (λ E. next_decision (other P cs) E ≡ None) (made_by-same w g.0) (sym (next-same (made_by P w) (word-state P w g.0)) ∙ g.1),
    subst (λ V. Extends P.world.known P.world.wirings V P.root) (partial_of-same w g.0) g.2,
  )

-- ---- both ways

module _ (P : Problem) (cs : List Choice) (L : IsProblem P) (M : IsProblem (other P cs)) where
  good-from : (w : List ℕ) → IsGood (other P cs) w → IsGood P w
  good-from w g = good-to (other P cs) P.choices M L w g

  first-to : (w : List ℕ) → IsFirst P w → IsFirst (other P cs) w
  first-to w first = record { good = good-to P cs L M w first.good; least = λ u g. first.least u (good-from u g) }

  counted-to : (w : List ℕ) → IsCounted P w → IsCounted (other P cs) w
  counted-to w c = record {
    word = word-to P cs L M w c.word;
    hopeful = λ h. c.hopeful (hopeless_word-to (other P cs) P.choices M L w (word-to P cs L M w c.word) h);
    before = λ u g. c.before u (good-from u g);
  }

module _ (P : Problem) (cs : List Choice) (L : IsProblem P) (M : IsProblem (other P cs)) where
  within-to : (n : ℕ) → IsEffortWithin P n → IsEffortWithin (other P cs) n
  within-to n (m, le, (list, falling, all, long)) =
      (m, le, (list, falling, λ w. (λ i. counted-to P cs L M w ((all w).0 i), λ c. (all w).1 (counted-to (other P cs) P.choices M L w c)), long))

  above-to : (n : ℕ) → IsEffortAbove P n → IsEffortAbove (other P cs) n
  above-to n (list, falling, all, long) = (list, falling, λ w i. counted-to P cs L M w (all w i), long)

-- ---- the problems of resolving a bundle

is_current-at : (K : List Known) (b : BundleId) (r : RevisionId) → IsCurrentOf K b r → IsTrue (is_current K r)
is_current-at K b r c = ap (λ o. option_map_or (λ (k : Known). k.current) o false) c.is ∙ c.current

bundle-at : (K : List Known) (b : BundleId) (r : RevisionId) → IsCurrentOf K b r → bundle_of K r ≡ b.0
bundle-at K b r c = ap (λ o. option_map_or (λ (k : Known). k.bundle.0) o 0) c.is ∙ ap (λ (x : BundleId). x.0) c.bundle

-- a bundle has one current revision
pub current-once : (K : List Known) (W : List Wiring) → AreOrdered K W → (b : BundleId) (r s : RevisionId) → IsCurrentOf K b r → IsCurrentOf K b s → r ≡ s
current-once K W ordered b r s c d = ordered.one_current r s (is_current-at K b r c) (is_current-at K b s d) (bundle-at K b r c ∙ sym (bundle-at K b s d))

ordered-at : (world : World) (b : BundleId) (P : Problem) → IsResolveOf world b P → AreOrdered world.known world.wirings
ordered-at world b P p = subst (λ (w : World). AreOrdered w.known w.wirings) p.world p.problem.ordered

module _ (world : World) (b : BundleId) (P Q : Problem) (p : IsResolveOf world b P) (q : IsResolveOf world b Q) where
  is-other : Q ≡ other P Q.choices
  is-other =
      let worlds : Q.world ≡ P.world = q.world ∙ sym p.world in
      let roots : Q.root ≡ P.root = current-once world.known world.wirings (ordered-at world b P p) b Q.root P.root q.root p.root in
      λ i. record { world = worlds i; root = roots i; choices = Q.choices }

  listed : IsProblem (other P Q.choices)
  listed = subst IsProblem is-other q.problem

  -- what is above a budget for the one is so for the other
  pub effort_within-once : (n : ℕ) → IsEffortWithin P n → IsEffortWithin Q n
  effort_within-once n e = subst (λ (R : Problem). IsEffortWithin R n) (sym is-other) (within-to P Q.choices p.problem listed n e)

  pub effort_above-once : (n : ℕ) → IsEffortAbove P n → IsEffortAbove Q n
  effort_above-once n e = subst (λ (R : Problem). IsEffortAbove R n) (sym is-other) (above-to P Q.choices p.problem listed n e)

  -- they have one first word, which comes to the same wirings
  pub first_word-once : (w : List ℕ) → IsFirst P w → IsFirst Q w
  first_word-once w first = subst (λ (R : Problem). IsFirst R w) (sym is-other) (first-to P Q.choices p.problem listed w first)

  pub partial_of-once : (w : List ℕ) → IsWord P w → partial_of P w ≡ partial_of Q w
  partial_of-once w is = partial_of-same P Q.choices p.problem listed w is ∙ sym (ap (λ (R : Problem). partial_of R w) is-other)

  -- an effort within a budget for the one is not above it for the other
  pub not_above-once : (n : ℕ) → IsEffortWithin P n → ¬ IsEffortAbove Q n
  not_above-once n within above = within-not_above Q n (effort_within-once n within) above

  -- a resolve comes to the same wirings, whatever first word of whichever problem is taken
  pub wirings-once : (u w : List ℕ) → IsFirst P u → IsFirst Q w → partial_of P u ≡ partial_of Q w
  wirings-once u w a b = partial_of-once u a.good.0 ∙ ap (partial_of Q) (first-once Q u w (first_word-once u a) b)

-- where no wirings extend those of the problem with its root, no world extends the world with the bundle
pub none-extends_world : (world : World) (b : BundleId) (P : Problem) → IsResolveOf world b P → ((V : List Wiring) → ¬ Extends P.world.known P.world.wirings V P.root) → (after : World) → ¬ ExtendsWorld world after b
none-extends_world world b P p none after extended =
    let root : extended.root ≡ P.root = current-once world.known world.wirings (ordered-at world b P p) b extended.root P.root extended.current p.root in
    let extends : Extends world.known world.wirings after.wirings P.root = subst (λ r. Extends world.known world.wirings after.wirings r) root extended.extends in
    none after.wirings (subst (λ (w : World). Extends w.known w.wirings after.wirings P.root) (sym p.world) extends)

-- the world with the wirings of the first good word does
pub first-extends_world : (world : World) (b : BundleId) (P : Problem) (w : List ℕ) → IsResolveOf world b P → IsFirst P w → ExtendsWorld world (record world { wirings = partial_of P w }) b
first-extends_world world b P w p first = record {
  known = refl;
  root = P.root;
  current = p.root;
  extends = subst (λ (v : World). Extends v.known v.wirings (partial_of P w) P.root) p.world first.good.2;
}
