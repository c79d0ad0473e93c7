-- The places of a payload's requirements and capabilities, and the current fragments by bundle id.
use Rattle.std.specs.Prelude.{◌&&◌, is_some, nat_le, if◌then◌else◌, List, [], ◌∷◌, map, filter, flat_map}
use Rattle.osgi_base.specs.declared.ids.RevisionId.{RevisionId}
use Rattle.osgi_world.specs.Lists.{below}
use Rattle.osgi_world.specs.declared.wiring.CapRef.{CapRef}
use Rattle.osgi_world.specs.declared.wiring.ReqRef.{ReqRef}
use Rattle.osgi_world.specs.declared.world.Known.{Known}
use Rattle.osgi_world.specs.Lookups.{requirement_count, capability_count}

-- the places of a revision's own requirements, and of those of several revisions
abbrev pub own_requirements : List Known → RevisionId → List ReqRef
own_requirements K r = map (λ i. record { owner = r; index = i }) (below (requirement_count K r))

abbrev pub requirements_of : List Known → List RevisionId → List ReqRef
requirements_of K owners = flat_map (own_requirements K) owners

-- the same of capabilities, with the revision that provides them
abbrev pub own_capabilities : List Known → RevisionId → RevisionId → List CapRef
own_capabilities K provider r = map (λ i. record { provider = provider; owner = r; index = i }) (below (capability_count K r))

abbrev pub capabilities_of : List Known → RevisionId → List RevisionId → List CapRef
capabilities_of K provider owners = flat_map (own_capabilities K provider) owners

-- a known revision put before the first whose bundle id is not lower
abbrev pub insert_by_bundle : Known → List Known → List Known
insert_by_bundle k [] = k ∷ []
insert_by_bundle k (l ∷ ls) = if nat_le k.bundle.0 l.bundle.0 then k ∷ l ∷ ls else l ∷ insert_by_bundle k ls

-- what is known, by bundle id; of one bundle as it stands
abbrev pub by_bundle : List Known → List Known
by_bundle [] = []
by_bundle (k ∷ ks) = insert_by_bundle k (by_bundle ks)

-- the current fragments, by bundle id
abbrev pub current_fragments : List Known → List RevisionId
current_fragments K = map (λ (k : Known). k.id) (by_bundle (filter (λ (k : Known). k.current && is_some k.revision.host) K))
