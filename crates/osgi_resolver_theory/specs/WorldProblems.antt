-- The problem of resolving a revision in a world: each requirement that can be asked, with all of its candidates in the order
-- of preference. The candidates of a requirement are the capabilities for which `is_candidate` holds.
use Rattle.std.specs.Prelude.{ℕ, ◌==◌, ◌&&◌, ◌||◌, not, Bool, false, bytes_eq, nat_lt, List, [], ◌∷◌, map, filter, flat_map}
use Rattle.std.specs.List.{list_any}
use Rattle.std.specs.Option.{option_map_or}
use Rattle.std.specs.Ordering.{bool_cmp, flip_args, match_ordering, nat_cmp, on, then_cmp}
use Rattle.std.specs.declared.cmp.Ordering.{Ordering}
use Rattle.osgi_base.specs.declared.ids.RevisionId.{RevisionId}
use Rattle.osgi_version.specs.VersionValues.{order}
use Rattle.osgi_capability.specs.computed.Satisfied.{is_satisfied}
use Rattle.osgi_world.specs.Candidates.{preference_version}
use Rattle.osgi_world.specs.DueDecisions.{is_in_force}
use Rattle.osgi_world.specs.Lookups.{bundle_of, capability_at, capability_count, capability_name, capability_namespace, is_current, is_effective, is_fragment, is_host_of, requirement_at, revision_at}
use Rattle.osgi_world.specs.Payloads.{capabilities_of, current_fragments, requirements_of}
use Rattle.osgi_world.specs.Satisfaction.{is_bundle, is_package}
use Rattle.osgi_world.specs.declared.capability.Capability.{Capability}
use Rattle.osgi_world.specs.declared.problem.Choice.{Choice}
use Rattle.osgi_world.specs.declared.problem.Problem.{Problem}
use Rattle.osgi_world.specs.declared.requirement.Requirement.{Requirement}
use Rattle.osgi_world.specs.declared.revision.Revision.{Revision}
use Rattle.osgi_world.specs.declared.wiring.CapRef.{CapRef}
use Rattle.osgi_world.specs.declared.wiring.ReqRef.{ReqRef}
use Rattle.osgi_world.specs.declared.wiring.Wire.{Wire}
use Rattle.osgi_world.specs.declared.wiring.Wiring.{Wiring}
use Rattle.osgi_world.specs.declared.world.Known.{Known}
use Rattle.osgi_world.specs.declared.world.World.{World}

abbrev pub same_revision : RevisionId → RevisionId → Bool
same_revision r s = r.0 == s.0

-- ---- whether a capability is on offer

-- the wiring of the host lists the fragment
abbrev pub is_attached : List Wiring → RevisionId → RevisionId → Bool
is_attached W host fragment = list_any (λ (g : Wiring). same_revision g.revision host && list_any (λ e. same_revision fragment e) g.fragments) W

-- what the owner has is in the payload of r
abbrev pub is_owner : List Wiring → RevisionId → RevisionId → Bool
is_owner W r owner = same_revision owner r || is_attached W r owner

-- the wire goes to an export of the package p from a provider other than r
abbrev pub is_import_from_elsewhere : List Known → RevisionId → List ℕ → Wire → Bool
is_import_from_elsewhere K r p w =
    (is_package (capability_namespace K w.capability.owner w.capability.index) && bytes_eq (capability_name K w.capability.owner w.capability.index) p)
    && not (same_revision w.capability.provider r)

-- r has such a wire
abbrev pub imports_elsewhere : List Known → List Wiring → RevisionId → List ℕ → Bool
imports_elsewhere K W r p = list_any (λ (g : Wiring). same_revision g.revision r && list_any (is_import_from_elsewhere K r p) g.wires) W

-- the capability is an export of a package that its provider imports from elsewhere
abbrev pub is_withdrawn : List Known → List Wiring → CapRef → Bool
is_withdrawn K W c = is_package (capability_namespace K c.owner c.index) && imports_elsewhere K W c.provider (capability_name K c.owner c.index)

abbrev pub is_on_offer : List Known → List Wiring → CapRef → Bool
is_on_offer K W c = (is_owner W c.provider c.owner && nat_lt c.index (capability_count K c.owner)) && not (is_withdrawn K W c)

-- ---- candidates

-- the current fragments that match the host and that it permits, by bundle id
abbrev pub matching_fragments : List Known → RevisionId → List RevisionId
matching_fragments K h = filter (λ f. is_host_of K f h) (current_fragments K)

-- its provider's own, or that of a current fragment that matches the provider
abbrev pub is_at_hand : List Known → CapRef → Bool
is_at_hand K c = (same_revision c.owner c.provider || list_any (λ f. same_revision c.owner f) (matching_fragments K c.provider)) && nat_lt c.index (capability_count K c.owner)

-- a provider in force has it on offer; any other has it at hand
abbrev pub is_there : List Known → List Wiring → CapRef → Bool
is_there K W c = (is_in_force W c.provider && is_on_offer K W c) || (not (is_in_force W c.provider) && is_at_hand K c)

-- the capability satisfies the requirement
abbrev pub satisfies : List Known → ReqRef → CapRef → Bool
satisfies K q c =
    option_map_or (λ (n : Requirement).
    option_map_or (λ (a : Capability). option_map_or (λ (v : Revision). is_satisfied n a v.name v.version) (revision_at K c.provider) false) (capability_at K c.owner c.index) false)
    (requirement_at K q) false

-- it is a bundle capability of the requirement's own owner
abbrev pub is_own_bundle : List Known → ReqRef → CapRef → Bool
is_own_bundle K q c = is_bundle (capability_namespace K c.owner c.index) && same_revision c.provider q.owner

abbrev pub is_candidate : List Known → List Wiring → ReqRef → CapRef → Bool
is_candidate K W q c = satisfies K q c && (is_current K c.provider && (not (is_fragment K c.provider) && (not (is_own_bundle K q c) && is_there K W c)))

-- ---- the order of preference

-- providers in force first, then higher versions, lower bundle ids, lower revision ids of owners, and earlier places
abbrev pub preference : List Known → List Wiring → CapRef → CapRef → Ordering
preference K W =
    then_cmp (flip_args (on (λ (c : CapRef). is_in_force W c.provider) bool_cmp))
    (then_cmp (flip_args (on (preference_version K) order))
    (then_cmp (on (λ (c : CapRef). bundle_of K c.provider) nat_cmp)
    (then_cmp (on (λ (c : CapRef). c.owner.0) nat_cmp) (on (λ (c : CapRef). c.index) nat_cmp))))

-- the item put before the first that comes after it; not if an equal one is there
abbrev pub put_in : {X : Type 0} → (X → X → Ordering) → X → List X → List X
put_in cmp x [] = x ∷ []
put_in cmp x (y ∷ ys) = match_ordering (cmp x y) (x ∷ y ∷ ys) (y ∷ ys) (y ∷ put_in cmp x ys)

abbrev pub in_order_of : {X : Type 0} → (X → X → Ordering) → List X → List X
in_order_of cmp [] = []
in_order_of cmp (x ∷ xs) = put_in cmp x (in_order_of cmp xs)

-- ---- the problem

abbrev pub all_revisions : List Known → List RevisionId
all_revisions K = map (λ (k : Known). k.id) K

-- each capability of each revision, with each revision as its provider
abbrev pub all_capabilities : List Known → List CapRef
all_capabilities K = flat_map (λ provider. capabilities_of K provider (all_revisions K)) (all_revisions K)

abbrev pub candidates_in : World → ReqRef → List CapRef
candidates_in W q = in_order_of (preference W.known W.wirings) (filter (is_candidate W.known W.wirings q) (all_capabilities W.known))

abbrev pub choice_in : World → ReqRef → Choice
choice_in W q = record { requirement = q; candidates = candidates_in W q }

-- an effective requirement of a current revision, if it is one of its requirements at all
abbrev pub can_be_asked : List Known → ReqRef → Bool
can_be_asked K q = is_current K q.owner && is_effective K q

-- the effective requirements of the current revisions
abbrev pub asked_requirements : List Known → List ReqRef
asked_requirements K = filter (can_be_asked K) (requirements_of K (all_revisions K))

abbrev pub the_problem : World → RevisionId → Problem
the_problem W root = record { world = W; root = root; choices = map (choice_in W) (asked_requirements W.known) }
