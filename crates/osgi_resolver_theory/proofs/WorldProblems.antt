-- The problem of a world is one.
use Rattle.std.proofs.Common.{◌≡◌, ℕ, ◌<◌, ◌⊎◌, inl, inr, ◌&&◌, ◌==◌, false, IsTrue, List, [], length, map, filter, find, slice_get, Option, None, Some, refl, sym, ◌∙◌, ap, subst, option_and_then}
use Rattle.std.specs.Option.{option_map, option_map_or}
use Rattle.std.proofs.lemmas.Option.{slice_get_within}
use Rattle.osgi_base.specs.declared.ids.RevisionId.{RevisionId}
use Rattle.osgi_world.specs.Candidates.{AreOrdered, CanBeAsked, IsCandidate, IsPreferred, IsProblem, IsResolvable, candidates, same_place}
use Rattle.osgi_world.specs.Lists.{In, Two, below}
use Rattle.osgi_world.specs.Lookups.{capability_at, capability_count, is_current, is_effective, known_at, requirement_count, revision_at}
use Rattle.osgi_world.specs.Payloads.{capabilities_of, own_capabilities, own_requirements, requirements_of}
use Rattle.osgi_world.specs.declared.capability.Capability.{Capability}
use Rattle.osgi_world.specs.declared.problem.Choice.{Choice}
use Rattle.osgi_world.specs.declared.revision.Revision.{Revision}
use Rattle.osgi_world.specs.declared.wiring.CapRef.{CapRef}
use Rattle.osgi_world.specs.declared.wiring.ReqRef.{ReqRef}
use Rattle.osgi_world.specs.declared.world.Known.{Known}
use Rattle.osgi_world.specs.declared.world.World.{World}
use Rattle.osgi_resolver_theory.proofs.Laws.{option-cases}
use Rattle.osgi_resolver_theory.proofs.Lists.{and-both, and-cases, below-in, filter-in, flat_map-in, in-below, in-filter, in-flat_map, in-map, map-in}
use Rattle.osgi_resolver_theory.proofs.Values.{find-none, find-some, place-eq, rev-eq, nat-same}
use Rattle.osgi_resolver_theory.specs.WorldProblems.{all_capabilities, all_revisions, asked_requirements, candidates_in, choice_in, is_candidate, preference, the_problem}
use Rattle.osgi_resolver_theory.proofs.Orders.{all-ordered, equal-same, in-ordered, less-preferred, ordered-in, ordered-two, preference-total}
use Rattle.osgi_resolver_theory.proofs.Tests.{candidate_decides}

-- ---- all revisions, capabilities and requirements

known-listed : (K : List Known) (r : RevisionId) (k : Known) → known_at K r ≡ Some k → In r (all_revisions K)
known-listed K r k e =
    let f = find-some (λ (x : Known). x.id.0 == r.0) K k e in
    subst (λ s. In s (all_revisions K)) (rev-eq k.id r f.1) (in-map (λ (x : Known). x.id) K k f.0)

current-go : (K : List Known) (r : RevisionId) (o : Option Known) → known_at K r ≡ o → IsTrue (option_map_or (λ (k : Known). k.current) o false) → In r (all_revisions K)
current-go K r None e t = cc
current-go K r (Some k) e t = known-listed K r k e

current-listed : (K : List Known) (r : RevisionId) → IsTrue (is_current K r) → In r (all_revisions K)
current-listed K r t = current-go K r (known_at K r) refl t

revision-go : (K : List Known) (r : RevisionId) (v : Revision) (o : Option Known) → known_at K r ≡ o → option_map (λ (k : Known). k.revision) o ≡ Some v → In r (all_revisions K)
revision-go K r v None e f = cc
revision-go K r v (Some k) e f = known-listed K r k e

revision-listed : (K : List Known) (r : RevisionId) (v : Revision) → revision_at K r ≡ Some v → In r (all_revisions K)
revision-listed K r v e = revision-go K r v (known_at K r) refl e

-- a capability that stands at a place has a known owner, and a place within it
capability-go : (K : List Known) (r : RevisionId) (index : ℕ) (a : Capability) (o : Option Revision) → revision_at K r ≡ o → option_and_then (λ (v : Revision). slice_get v.capabilities index) o ≡ Some a →
    In r (all_revisions K) × (index < option_map_or (λ (v : Revision). length v.capabilities) o 0)
capability-go K r index a None e f = cc
capability-go K r index a (Some v) e f = (revision-listed K r v e, slice_get_within v.capabilities index a f)

capability-listed : (K : List Known) (r : RevisionId) (index : ℕ) (a : Capability) → capability_at K r index ≡ Some a → In r (all_revisions K) × (index < capability_count K r)
capability-listed K r index a e = capability-go K r index a (revision_at K r) refl e

all-in : (K : List Known) (c : CapRef) → In c.provider (all_revisions K) → In c.owner (all_revisions K) → c.index < capability_count K c.owner → In c (all_capabilities K)
all-in K c provider owner index =
    in-flat_map (λ p. capabilities_of K p (all_revisions K)) (all_revisions K) c.provider c provider
    (in-flat_map (own_capabilities K c.provider) (all_revisions K) c.owner c owner (in-map (λ i. record { provider = c.provider; owner = c.owner; index = i }) (below (capability_count K c.owner)) c.index (in-below (capability_count K c.owner) c.index index)))

pub asked-in : (K : List Known) (q : ReqRef) → CanBeAsked K q → In q (asked_requirements K)
asked-in K q h =
    in-filter (λ n. is_current K n.owner && is_effective K n) (requirements_of K (all_revisions K)) q
    (in-flat_map (own_requirements K) (all_revisions K) q.owner q (current-listed K q.owner h.current) (in-map (λ i. record { owner = q.owner; index = i }) (below (requirement_count K q.owner)) q.index (in-below (requirement_count K q.owner) q.index h.known)))
    (and-both (is_current K q.owner) (is_effective K q) h.current h.effective)

in-asked : (K : List Known) (q : ReqRef) → In q (asked_requirements K) → CanBeAsked K q
in-asked K q i =
    let f = filter-in (λ n. is_current K n.owner && is_effective K n) (requirements_of K (all_revisions K)) q i in
    let t = and-cases (is_current K q.owner) (is_effective K q) f.1 in
    let o = flat_map-in (own_requirements K) (all_revisions K) q f.0 in
    let m = map-in (λ (i : ℕ). let n : ReqRef = record { owner = o.0; index = i } in n) (below (requirement_count K o.0)) q o.2 in
    record { current = t.0; known = subst (λ (n : ReqRef). n.index < requirement_count K n.owner) (sym m.2) (below-in (requirement_count K o.0) m.0 m.1); effective = t.1 }

-- ---- what the problem lists

found : (W : World) (root : RevisionId) (q : ReqRef) (x : Choice) → find (λ (c : Choice). same_place c.requirement q) (map (choice_in W) (asked_requirements W.known)) ≡ Some x → (candidates (the_problem W root) q ≡ candidates_in W q) × In q (asked_requirements W.known)
found W root q x e =
    let f = find-some (λ (c : Choice). same_place c.requirement q) (map (choice_in W) (asked_requirements W.known)) x e in
    let m = map-in (choice_in W) (asked_requirements W.known) x f.0 in
    let same : m.0 ≡ q = place-eq m.0 q (subst (λ (c : Choice). IsTrue (same_place c.requirement q)) m.2 f.1) in (
      ap (λ o. option_map_or (λ (c : Choice). c.candidates) o []) e ∙ ap (λ (c : Choice). c.candidates) m.2 ∙ ap (candidates_in W) same,
      subst (λ n. In n (asked_requirements W.known)) same m.1,
    )

-- of a requirement that is asked all candidates, and of any other none
lists : (W : World) (root : RevisionId) (q : ReqRef) → ((candidates (the_problem W root) q ≡ candidates_in W q) × In q (asked_requirements W.known)) ⊎ ((candidates (the_problem W root) q ≡ []) × ¬ In q (asked_requirements W.known))
lists W root q = go (option-cases (find (λ (c : Choice). same_place c.requirement q) (map (choice_in W) (asked_requirements W.known))))
  where
    place-same : IsTrue (same_place q q)
    place-same = and-both (q.owner.0 == q.owner.0) (q.index == q.index) (nat-same q.owner.0 q.owner.0 refl) (nat-same q.index q.index refl)

    go : ((x : Choice) × (find (λ (c : Choice). same_place c.requirement q) (map (choice_in W) (asked_requirements W.known)) ≡ Some x)) ⊎ (find (λ (c : Choice). same_place c.requirement q) (map (choice_in W) (asked_requirements W.known)) ≡ None) →
        ((candidates (the_problem W root) q ≡ candidates_in W q) × In q (asked_requirements W.known)) ⊎ ((candidates (the_problem W root) q ≡ []) × ¬ In q (asked_requirements W.known))
    go (inl a) = inl (found W root q a.0 a.1)
    go (inr e) = inr (ap (λ o. option_map_or (λ (c : Choice). c.candidates) o []) e, λ i. find-none (λ (c : Choice). same_place c.requirement q) (map (choice_in W) (asked_requirements W.known)) (choice_in W q) e (in-map (choice_in W) (asked_requirements W.known) q i) place-same)

-- ---- the candidates of a requirement

module _ (W : World) (root : RevisionId) (ordered : AreOrdered W.known W.wirings) (q : ReqRef) (known : q.index < requirement_count W.known q.owner) where
  in-candidate : (c : CapRef) → In c (filter (is_candidate W.known W.wirings q) (all_capabilities W.known)) → IsCandidate (the_problem W root) q c
  in-candidate c i = (candidate_decides (the_problem W root) q c known).0 (filter-in (is_candidate W.known W.wirings q) (all_capabilities W.known) c i).1

  pub listed-candidate : (c : CapRef) → In c (candidates_in W q) → IsCandidate (the_problem W root) q c
  listed-candidate c i = in-candidate c (ordered-in (preference W.known W.wirings) c (filter (is_candidate W.known W.wirings q) (all_capabilities W.known)) i)

  pub candidate-listed : (c : CapRef) → IsCandidate (the_problem W root) q c → In c (candidates_in W q)
  candidate-listed c h =
      let owner = capability-listed W.known c.owner c.index h.satisfies.capability h.satisfies.capability_is in
      in-ordered (preference W.known W.wirings) c (filter (is_candidate W.known W.wirings q) (all_capabilities W.known))
      (λ x y i j e. equal-same (the_problem W root) ordered x y (in-candidate x i).current (in-candidate y j).current e)
      (in-filter (is_candidate W.known W.wirings q) (all_capabilities W.known) c (all-in W.known c (current-listed W.known c.provider h.current) owner.0 owner.1) ((candidate_decides (the_problem W root) q c known).1 h))

  pub candidates-ordered : ¬ Two (λ (c d : CapRef). ¬ IsPreferred (the_problem W root) c d) (candidates_in W q)
  candidates-ordered = ordered-two
      (preference W.known W.wirings) (IsPreferred (the_problem W root)) (candidates_in W q) (all-ordered (preference W.known W.wirings) (preference-total W.known W.wirings) (filter (is_candidate W.known W.wirings q) (all_capabilities W.known)))
      (λ x y i j e. less-preferred (the_problem W root) ordered x y (listed-candidate x i).current (listed-candidate y j).current e)

none-two : {X : Type 0} (R : X → X → Type 0) → ¬ Two R []
none-two R t = elim t [ ]

pub the_problem-is : (W : World) (root : RevisionId) → IsResolvable W root → IsProblem (the_problem W root)
the_problem-is W root is = record {
  world_is = is.is_world;
  ordered = is.ordered;
  consistent = is.consistent;
  root_is = is.unresolved;
  candidates_are = λ q c h. elim (lists W root q) [
    | inl a ↦ (λ i. listed-candidate W root is.ordered q h.known c (subst (In c) a.0 i), λ d. subst (In c) (sym a.0) (candidate-listed W root is.ordered q h.known c d))
    | inr b ↦ absurd (b.1 (asked-in W.known q h))
  ];
  candidates_ordered = λ q. elim (lists W root q) [
    | inl a ↦ subst (λ cs. ¬ Two (λ (c d : CapRef). ¬ IsPreferred (the_problem W root) c d) cs) (sym a.0) (candidates-ordered W root is.ordered q (in-asked W.known q a.1).known)
    | inr b ↦ subst (λ cs. ¬ Two (λ (c d : CapRef). ¬ IsPreferred (the_problem W root) c d) cs) (sym b.0) (none-two (λ (c d : CapRef). ¬ IsPreferred (the_problem W root) c d))
  ];
}
