-- Problems of the resolver: a root to resolve in a world, and for each requirement its candidates, the preferred first.
use Rattle.std.specs.Prelude.{◌≡◌, ◌≢◌, ◌<◌, ◌==◌, ◌&&◌, ◌⊎◌, ◌↔◌, if◌then◌else◌, Bool, IsTrue, List, [], filter, find, map}
use Rattle.std.specs.List.Sorted.{IsNonDecreasing, IsStrictlyIncreasing}
use Rattle.std.specs.Option.{option_map_or}
use Rattle.std.specs.Ordering.{is_gt}
use Rattle.osgi_base.specs.declared.ids.RevisionId.{RevisionId}
use Rattle.osgi_version.specs.VersionValues.{order, parts}
use Rattle.osgi_version.specs.Versions.{Parts, numbered}
use Rattle.osgi_world.specs.Consistency.{Consistent}
use Rattle.osgi_world.specs.Lists.{In, Two}
use Rattle.osgi_world.specs.Lookups.{bundle_of, capability_count, capability_namespace, is_current, is_effective, is_fragment, is_host_of, requirement_count, IsNeeded, SatisfiesAt, capability_at, revision_at}
use Rattle.osgi_world.specs.Payloads.{current_fragments}
use Rattle.osgi_world.specs.Satisfaction.{is_bundle, version_in}
use Rattle.osgi_world.specs.Wirings.{IsWorld, InForce, OnOffer}
use Rattle.osgi_world.specs.declared.capability.Capability.{Capability}
use Rattle.osgi_world.specs.declared.problem.Choice.{Choice}
use Rattle.osgi_world.specs.declared.problem.Problem.{Problem}
use Rattle.osgi_world.specs.declared.revision.Revision.{Revision}
use Rattle.osgi_world.specs.declared.wiring.CapRef.{CapRef}
use Rattle.osgi_world.specs.declared.wiring.ReqRef.{ReqRef}
use Rattle.osgi_world.specs.declared.wiring.Wiring.{Wiring}
use Rattle.osgi_world.specs.declared.world.Known.{Known}
use Rattle.osgi_world.specs.declared.world.World.{World}

abbrev pub same_place : ReqRef → ReqRef → Bool
same_place q n = (q.owner.0 == n.owner.0) && (q.index == n.index)

-- the candidates that the problem lists for a requirement; none where it lists nothing
abbrev pub candidates : Problem → ReqRef → List CapRef
candidates P q = option_map_or (λ (c : Choice). c.candidates) (find (λ (c : Choice). same_place c.requirement q) P.choices) []

-- the current fragments that match the host, and that it permits, by bundle id
abbrev pub matching : Problem → RevisionId → List RevisionId
matching P h = filter (λ f. is_host_of P.world.known f h) (current_fragments P.world.known)

-- c satisfies q, and its provider is current and no fragment, and not the owner of a bundle requirement. A provider in
-- force has c on offer; of another it is its own, or that of a current fragment that matches it
pub record IsCandidate (P : Problem) (q : ReqRef) (c : CapRef) : Type 0 where
  pub satisfies : SatisfiesAt P.world.known q c
  pub current : IsTrue (is_current P.world.known c.provider)
  pub no_fragment : ¬ IsTrue (is_fragment P.world.known c.provider)
  pub not_owner : IsTrue (is_bundle (capability_namespace P.world.known c.owner c.index)) → c.provider ≢ q.owner
  pub stands : (InForce P.world.wirings c.provider × OnOffer P.world.known P.world.wirings c)
      ⊎ (¬ InForce P.world.wirings c.provider) × ((c.owner ≡ c.provider) ⊎ In c.owner (matching P c.provider)) × (c.index < capability_count P.world.known c.owner)

-- the version by which a capability is preferred: a bundle's is its provider's, and any other's is its attribute `version`
-- if that is a Version, else 0.0.0
abbrev pub preference_version : List Known → CapRef → Parts
preference_version K c =
    if is_bundle (capability_namespace K c.owner c.index)
    then option_map_or (λ (v : Revision). parts v.version) (revision_at K c.provider) (numbered 0 0 0)
    else option_map_or (λ (a : Capability). version_in a.attributes) (capability_at K c.owner c.index) (numbered 0 0 0)

-- c has the higher version
abbrev pub is_higher : List Known → CapRef → CapRef → Bool
is_higher K c d = is_gt (order (preference_version K c) (preference_version K d))

-- c is preferred to d: its provider is in force and that of d is not; else its version is higher; else its provider's
-- bundle id is lower, else its owner's revision id, else its place
abbrev pub IsPreferred : Problem → CapRef → CapRef → Type 0
IsPreferred P c d =
    (InForce P.world.wirings c.provider × ¬ InForce P.world.wirings d.provider)
    ⊎ (InForce P.world.wirings c.provider ↔ InForce P.world.wirings d.provider) × (IsTrue (is_higher P.world.known c d)
    ⊎ (¬ IsTrue (is_higher P.world.known d c)) × ((bundle_of P.world.known c.provider < bundle_of P.world.known d.provider)
    ⊎ (c.provider ≡ d.provider) × ((c.owner.0 < d.owner.0) ⊎ (c.owner ≡ d.owner) × (c.index < d.index))))

-- a search can ask for its candidates: it is an effective requirement of a current revision
pub record CanBeAsked (K : List Known) (q : ReqRef) : Type 0 where
  pub current : IsTrue (is_current K q.owner)
  pub known : q.index < requirement_count K q.owner
  pub effective : IsTrue (is_effective K q)

-- r is current, no fragment, and not in force
pub record IsUnresolved (K : List Known) (W : List Wiring) (r : RevisionId) : Type 0 where
  pub current : IsTrue (is_current K r)
  pub no_fragment : ¬ IsTrue (is_fragment K r)
  pub not_in_force : ¬ InForce W r

-- known revisions stand by rising id, and the fragments of a wiring by bundle id; a bundle has at most one current revision
pub record AreOrdered (K : List Known) (W : List Wiring) : Type 0 where
  pub by_id : IsStrictlyIncreasing (map (λ (k : Known). k.id.0) K)
  pub fragments_ordered : (g : Wiring) → In g W → IsNonDecreasing (map (bundle_of K) g.fragments)
  pub one_current : (r s : RevisionId) → IsTrue (is_current K r) → IsTrue (is_current K s) → bundle_of K r ≡ bundle_of K s → r ≡ s

-- the root may be given to a resolve in the world, whatever that then finds
pub record IsResolvable (W : World) (root : RevisionId) : Type 0 where
  -- each revision is known once, and those in force are known, no fragments, and in force once
  pub is_world : IsWorld W.known W.wirings
  -- known revisions and fragments are listed in order, and a bundle has at most one current revision
  pub ordered : AreOrdered W.known W.wirings
  -- the wirings in force keep all rules of consistency
  pub consistent : Consistent W.known W.wirings
  -- the root is current, no fragment, and not in force
  pub unresolved : IsUnresolved W.known W.wirings root

-- the root is unresolved in a consistent world, and the candidates of each requirement that can be asked are listed; every
-- list has each of its candidates once, the preferred first
pub record IsProblem (P : Problem) : Type 0 where
  pub world_is : IsWorld P.world.known P.world.wirings
  pub ordered : AreOrdered P.world.known P.world.wirings
  pub consistent : Consistent P.world.known P.world.wirings
  pub root_is : IsUnresolved P.world.known P.world.wirings P.root
  pub candidates_are : (q : ReqRef) (c : CapRef) → CanBeAsked P.world.known q → In c (candidates P q) ↔ IsCandidate P q c
  pub candidates_ordered : (q : ReqRef) → ¬ Two (λ (c d : CapRef). ¬ IsPreferred P c d) (candidates P q)

-- ---- no candidate

-- a mandatory effective requirement of the root itself, without candidates
pub record IsLacking (P : Problem) (q : ReqRef) : Type 0 where
  pub owner : q.owner ≡ P.root
  pub known : q.index < requirement_count P.world.known P.root
  pub needed : IsNeeded P.world.known q
  pub none : candidates P q ≡ []

-- the first of these
pub record IsFirstLacking (P : Problem) (q : ReqRef) : Type 0 where
  pub lacking : IsLacking P q
  pub first : (n : ReqRef) → IsLacking P n → ¬ (n.index < q.index)
