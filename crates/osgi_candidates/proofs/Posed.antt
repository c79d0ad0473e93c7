-- The rows of a problem, one requirement after another.
use Rattle.std.proofs.Common.{◌≡◌, ◌∙◌, ◌==◌, inl, inr, ℕ, ◌+◌, ◌<◌, cond, List, [], ◌∷◌, ◌++◌, length, take, get_or, map, filter, refl, sym, ap, subst, append_assoc, append-nil, add-one}
use Rattle.std.specs.Prelude.{Bool, true, false, IsTrue, Option, None, Some, find}
use Rattle.std.specs.Option.{option_map, option_map_or}
use Rattle.std.proofs.lemmas.Grind.{flat_map-append}
use Rattle.std.proofs.lemmas.List.{map-append}
use Rattle.std.proofs.lemmas.List.Elements.{filter-append}
use Rattle.osgi_base.specs.declared.ids.RevisionId.{RevisionId}
use Rattle.osgi_candidates.specs.computed.Choices.{AddsChoices, AreChoices, IsChoice, requirements}
use Rattle.osgi_candidates.specs.computed.Collecting.{AreCandidates}
use Rattle.osgi_candidates.specs.computed.Fitting.{IsFit}
use Rattle.osgi_candidates.proofs.Answering.{same_candidate}
use Rattle.osgi_resolver_theory.proofs.Lists.{and-both, and-cases, in-below, in-filter, in-flat_map, in-map, map-in}
use Rattle.osgi_resolver_theory.proofs.Values.{find-none, find-some, nat-same, place-eq, rev-eq}
use Rattle.osgi_resolver_theory.specs.WorldProblems.{all_revisions, asked_requirements, can_be_asked}
use Rattle.osgi_space_rules.proofs.Grow.{in_either, one_more}
use Rattle.osgi_world.specs.Candidates.{CanBeAsked, IsPreferred, IsProblem, IsUnresolved, same_place}
use Rattle.osgi_world.specs.Lists.{In, Two, below}
use Rattle.osgi_world.specs.Lookups.{is_current, is_effective, known_at, requirement_count}
use Rattle.osgi_world.specs.Payloads.{own_requirements, requirements_of}
use Rattle.osgi_world.specs.declared.problem.Choice.{Choice}
use Rattle.osgi_world.specs.declared.problem.Problem.{Problem}
use Rattle.osgi_world.specs.declared.revision.Revision.{Revision}
use Rattle.osgi_world.specs.declared.wiring.CapRef.{CapRef}
use Rattle.osgi_world.specs.declared.wiring.ReqRef.{ReqRef}
use Rattle.osgi_world.specs.declared.world.Known.{Known}
use Rattle.osgi_world.specs.declared.world.World.{World}

-- ---- a filter

not_true : (b : Bool) → ¬ IsTrue b → b ≡ false
not_true true n = absurd (n refl)
not_true false n = refl

filter_none : {X : Type 0} (p : X → Bool) (xs : List X) → ((x : X) → In x xs → ¬ IsTrue (p x)) → filter p xs ≡ []
filter_none p [] none = refl
filter_none p (x ∷ xs) none = ap (λ b. cond b (x ∷ filter p xs) (filter p xs)) (not_true (p x) (none x (inl refl))) ∙ filter_none p xs (λ y i. none y (inr i))

filter_one : {X : Type 0} (p : X → Bool) (x : X) → IsTrue (p x) → filter p (x ∷ []) ≡ x ∷ []
filter_one p x t = ap (λ b. cond b (x ∷ []) []) t

-- ---- rows are added

module _ (w : World) where
  -- none of the requirements can be asked
  pub rows_none : (qs : List ReqRef) (list : List Choice) → ((q : ReqRef) → In q qs → ¬ IsTrue (can_be_asked w.known q)) → AddsChoices w qs list list
  rows_none qs list none = record {
    good = λ g. g;
    listed = sym (ap (λ l. requirements list ++ l) (filter_none (can_be_asked w.known) qs none) ∙ append-nil (requirements list));
  }

  pub rows_one : (old new : List Choice) (q : ReqRef) (cs : List CapRef) → CanBeAsked w.known q → AreCandidates w q cs → new ≡ old ++ record { requirement = q; candidates = cs } ∷ [] → AddsChoices w (q ∷ []) old new
  rows_one old new q cs has are is =
      let one : Choice = record { requirement = q; candidates = cs } in
      record {
        good = λ g c i. elim (in_either old one c (subst (λ l. In c l) is i)) [ inl o ↦ g c o | inr e ↦ subst (IsChoice w) (sym e) (record { asked = has; candidates = are }) ];
        listed =
            ap (λ l. requirements l) is
            ∙ map-append (λ (c : Choice). c.requirement) old (one ∷ [])
            ∙ ap (λ l. requirements old ++ l) (sym (filter_one (can_be_asked w.known) q (and-both (is_current w.known q.owner) (is_effective w.known q) has.current has.effective)));
      }

  pub rows_two : (ps qs : List ReqRef) (a b d : List Choice) → AddsChoices w ps a b → AddsChoices w qs b d → AddsChoices w (ps ++ qs) a d
  rows_two ps qs a b d x y = record {
    good = λ g. y.good (x.good g);
    listed =
        let asked = filter (can_be_asked w.known) in
        y.listed
        ∙ ap (λ l. l ++ asked qs) x.listed
        ∙ append_assoc (requirements a) (asked ps) (asked qs)
        ∙ ap (λ l. requirements a ++ l) (sym (filter-append (can_be_asked w.known) ps qs));
  }

  -- ---- the requirements of one revision

  pub not_asked : (q : ReqRef) → q.index < requirement_count w.known q.owner → ¬ CanBeAsked w.known q → ¬ IsTrue (can_be_asked w.known q)
  not_asked q within never t = let both = and-cases (is_current w.known q.owner) (is_effective w.known q) t in never (record { current = both.0; known = within; effective = both.1 })

  pub not_one : (q : ReqRef) → q.index < requirement_count w.known q.owner → ¬ CanBeAsked w.known q → (n : ReqRef) → In n (q ∷ []) → ¬ IsTrue (can_be_asked w.known n)
  not_one q within never n (inl e) = subst (λ m. ¬ IsTrue (can_be_asked w.known m)) (sym e) (not_asked q within never)
  not_one q within never n (inr i) = absurd i

  abbrev pub first_requirements : RevisionId → ℕ → List ReqRef
  first_requirements r n = map (λ i. record { owner = r; index = i }) (below n)

  below_step : (r : RevisionId) (n : ℕ) → first_requirements r (n + 1) ≡ first_requirements r n ++ record { owner = r; index = n } ∷ []
  below_step r n =
      let at = λ (i : ℕ). let q : ReqRef = record { owner = r; index = i } in q in
      ap (λ k. map at (below k)) (add-one n) ∙ map-append at (below n) (n ∷ [])

  pub first_more : (r : RevisionId) (n : ℕ) (a b d : List Choice) → AddsChoices w (first_requirements r n) a b → AddsChoices w (record { owner = r; index = n } ∷ []) b d → AddsChoices w (first_requirements r (n + 1)) a d
  first_more r n a b d x y = subst (λ l. AddsChoices w l a d) (sym (below_step r n)) (rows_two (first_requirements r n) (record { owner = r; index = n } ∷ []) a b d x y)

  pub count-at : (k : Known) → known_at w.known k.id ≡ Some k → requirement_count w.known k.id ≡ length k.revision.requirements
  count-at k at = ap (λ o. option_map_or (λ (v : Revision). length v.requirements) (option_map (λ (y : Known). y.revision) o) 0) at

  pub first_all : (k : Known) (n : ℕ) (a b : List Choice) → known_at w.known k.id ≡ Some k → n ≡ length k.revision.requirements → AddsChoices w (first_requirements k.id n) a b → AddsChoices w (own_requirements w.known k.id) a b
  first_all k n a b at all x = subst (λ m. AddsChoices w (first_requirements k.id m) a b) (all ∙ sym (count-at k at)) x

  -- of one that is not current none is asked
  pub rows_past : (k : Known) (list : List Choice) → known_at w.known k.id ≡ Some k → k.current ≡ false → AddsChoices w (own_requirements w.known k.id) list list
  rows_past k list at past =
      rows_none (own_requirements w.known k.id) list
      (λ q i t. let m = map-in (λ (i : ℕ). let n : ReqRef = record { owner = k.id; index = i } in n) (below (requirement_count w.known k.id)) q i in
      let current : IsTrue (is_current w.known q.owner) = (and-cases (is_current w.known q.owner) (is_effective w.known q) t).0 in
      let here : IsTrue (is_current w.known k.id) = subst (λ (n : ReqRef). IsTrue (is_current w.known n.owner)) m.2 current in
      let is : is_current w.known k.id ≡ k.current = ap (λ o. option_map_or (λ (y : Known). y.current) o false) at in
      cc (here, is, past))

  -- ---- the requirements of all revisions

  abbrev pub requirements_of_some : List Known → List ReqRef
  requirements_of_some D = requirements_of w.known (all_revisions D)

  some_step : (D : List Known) (k : Known) → requirements_of_some (D ++ k ∷ []) ≡ requirements_of_some D ++ own_requirements w.known k.id
  some_step D k =
      ap (requirements_of w.known) (map-append (λ (k : Known). k.id) D (k ∷ []))
      ∙ flat_map-append (own_requirements w.known) (all_revisions D) (k.id ∷ [])
      ∙ ap (λ l. requirements_of_some D ++ l) (append-nil (own_requirements w.known k.id))

  pub some_more : (D : List Known) (i : ℕ) (k : Known) (a b d : List Choice) → i < length D → k ≡ get_or D i k →
      AddsChoices w (requirements_of_some (take i D)) a b → AddsChoices w (own_requirements w.known k.id) b d → AddsChoices w (requirements_of_some (take (i + 1) D)) a d
  some_more D i k a b d within at x y =
      subst (λ l. AddsChoices w l a d) (sym (ap (λ l. requirements_of_some l) (one_more D i k within at) ∙ some_step (take i D) k))
      (rows_two (requirements_of_some (take i D)) (own_requirements w.known k.id) a b d x y)

  pub rows_are : (none choices : List Choice) → none ≡ [] → AddsChoices w (requirements_of_some w.known) none choices → AreChoices w choices
  rows_are none choices empty x = record {
    good = x.good (λ c i. absurd (subst (λ l. In c l) empty i));
    listed = x.listed ∙ ap (λ l. requirements l ++ asked_requirements w.known) empty;
  }

-- ---- what can be asked is listed

current-some : (o : Option Known) → IsTrue (option_map_or (λ (k : Known). k.current) o false) → (k : Known) × (o ≡ Some k)
current-some None t = absurd (cc t)
current-some (Some k) t = (k, refl)

known-listed : (K : List Known) (r : RevisionId) → IsTrue (is_current K r) → In r (all_revisions K)
known-listed K r t =
    let k = current-some (known_at K r) t in
    let f = find-some (λ (y : Known). y.id.0 == r.0) K k.0 k.1 in
    subst (λ s. In s (all_revisions K)) (rev-eq k.0.id r f.1) (in-map (λ (y : Known). y.id) K k.0 f.0)

asked-listed : (K : List Known) (q : ReqRef) → CanBeAsked K q → In q (asked_requirements K)
asked-listed K q has =
    let own : In q (own_requirements K q.owner)
    = in-map (λ (i : ℕ). let n : ReqRef = record { owner = q.owner; index = i } in n) (below (requirement_count K q.owner)) q.index (in-below (requirement_count K q.owner) q.index has.known) in
    in-filter (can_be_asked K) (requirements_of K (all_revisions K)) q (in-flat_map (own_requirements K) (all_revisions K) q.owner q (known-listed K q.owner has.current) own)
    (and-both (is_current K q.owner) (is_effective K q) has.current has.effective)

-- ---- the problem

same-self : (q : ReqRef) → IsTrue (same_place q q)
same-self q = and-both (q.owner.0 == q.owner.0) (q.index == q.index) (nat-same q.owner.0 q.owner.0 refl) (nat-same q.index q.index refl)

module _ (P : Problem) (are : AreChoices P.world P.choices) where
  abbrev found : ReqRef → Option Choice
  found q = find (λ (c : Choice). same_place c.requirement q) P.choices

  abbrev list : Option Choice → List CapRef
  list o = option_map_or (λ (c : Choice). c.candidates) o []

  has_row : (q : ReqRef) → CanBeAsked P.world.known q → (c : Choice) × In c P.choices × (q ≡ c.requirement)
  has_row q has = map-in (λ (c : Choice). c.requirement) P.choices q (subst (In q) (sym are.listed) (asked-listed P.world.known q has))

  listed-at : (q : ReqRef) (o : Option Choice) → found q ≡ o → CanBeAsked P.world.known q → AreCandidates P.world q (list o)
  listed-at q None e has =
      let h = has_row q has in
      absurd (find-none (λ (c : Choice). same_place c.requirement q) P.choices h.0 e h.1 (subst (λ n. IsTrue (same_place n q)) h.2 (same-self q)))
  listed-at q (Some c) e has =
      let f = find-some (λ (c : Choice). same_place c.requirement q) P.choices c e in
      subst (λ n. AreCandidates P.world n c.candidates) (place-eq c.requirement q f.1) (are.good c f.0).candidates

  ordered-at : (q : ReqRef) (o : Option Choice) → found q ≡ o → ¬ Two (λ (c d : CapRef). ¬ IsPreferred P c d) (list o)
  ordered-at q None e t = elim t [ ]
  ordered-at q (Some c) e t = (are.good c (find-some (λ (c : Choice). same_place c.requirement q) P.choices c e).0).candidates.ordered t

  pub problem_is : IsFit P.world → IsUnresolved P.world.known P.world.wirings P.root → IsProblem P
  problem_is fit root = record {
    world_is = fit.world_is;
    ordered = fit.ordered;
    consistent = fit.consistent;
    root_is = root;
    candidates_are = λ q c has. let x = listed-at q (found q) refl has in (
      λ i. (same_candidate P q c).0 ((x.are c).0 i),
      λ y. (x.are c).1 ((same_candidate P q c).1 y),
    );
    candidates_ordered = λ q. ordered-at q (found q) refl;
  }
