-- What was found out of owners.
use Rattle.std.specs.Prelude.{◌≡◌, ◌↔◌, ◌<◌, ℕ, List, IsSome, IsTrue, Option, None, Some, cond, ltb, slice_get, slice_index_or}
use Rattle.std.specs.BTreeMap.{is_at}
use Rattle.std.specs.Map.{lookup}
use Rattle.std.specs.Ordering.{nat_cmp}
use Rattle.std.specs.Global.{Vec}
use Rattle.std.specs.Option.{option_map}
use Rattle.osgi_base.specs.declared.ids.RevisionId.{RevisionId}
use Rattle.osgi_world.specs.Candidates.{CanBeAsked, IsProblem, candidates, matching}
use Rattle.osgi_world.specs.Lookups.{is_current}
use Rattle.osgi_world.specs.declared.problem.Problem.{Problem}
use Rattle.osgi_world.specs.declared.wiring.CapRef.{CapRef}
use Rattle.osgi_world.specs.declared.wiring.ReqRef.{ReqRef}
use Rattle.osgi_world.specs.declared.world.World.{World}
use Rattle.osgi_resolver_decisions.specs.Sure.{AreSure, LacksCandidate}
use Rattle.osgi_resolver_decisions.specs.computed.Asks.{decisions_in, first_due}
use Rattle.osgi_resolver_decisions.specs.computed.Free.{is_free}
use Rattle.osgi_resolver_decisions.specs.declared.owned.Owned.{Owned}

-- P is a problem in the world
pub record IsProblemIn (W : World) (P : Problem) : Type 0 where
  pub world : P.world ≡ W
  pub is : IsProblem P

-- the candidates of the owner's requirements are listed by their places
abbrev pub AreListsOf : World → RevisionId → List (Vec CapRef) → Type 0
AreListsOf W owner lists = (P : Problem) (q : ReqRef) → IsProblemIn W P → q.owner ≡ owner → CanBeAsked P.world.known q → option_map (λ list. list.items) (slice_get lists q.index) ≡ Some (candidates P q)

-- the same of those before this one
abbrev pub AreListsBefore : World → ReqRef → List (Vec CapRef) → Type 0
AreListsBefore W next lists = (P : Problem) (q : ReqRef) → IsProblemIn W P → q.owner ≡ next.owner → q.index < next.index → CanBeAsked P.world.known q → option_map (λ list. list.items) (slice_get lists q.index) ≡ Some (candidates P q)

-- what was found out of the owner is so in the problem
pub record IsRightOf (P : Problem) (owner : RevisionId) (of : Owned) : Type 0 where
  pub candidates_are : (q : ReqRef) → q.owner ≡ owner → CanBeAsked P.world.known q → option_map (λ list. list.items) (slice_get of.lists.items q.index) ≡ Some (candidates P q)
  pub fragments_are : of.fragments.items ≡ matching P owner
  pub first_is : IsTrue (is_current P.world.known owner) → decisions_in of.first ≡ first_due P owner
  pub free_is : IsTrue (is_current P.world.known owner) → of.is_free ≡ is_free P owner
  pub sure_is : IsTrue (is_current P.world.known owner) → IsTrue of.is_sure → AreSure P owner
  pub lacks_is : IsTrue of.lacks_candidate ↔ IsTrue (is_current P.world.known owner) × LacksCandidate P owner

-- what a world offers, and what was found out about each owner that was asked about: about those with small numbers by their numbers,
-- about others in order
pub record FoundOut : Type 0 where
  pub offers : World
  pub low : List (Option Owned)
  pub high : List (ℕ × Owned)

-- what was found out about the owner
abbrev pub found_of : FoundOut → RevisionId → Option Owned
found_of found owner = cond (ltb owner.0 65536) (slice_index_or found.low owner.0 None) (lookup (is_at (nat_cmp owner.0)) found.high)

-- what was found out is so in any problem of the world
abbrev pub AreRight : FoundOut → Type 0
AreRight found = (P : Problem) → IsProblemIn found.offers P → (owner : RevisionId) (of : Owned) → found_of found owner ≡ Some of → IsRightOf P owner of

-- something was found out about the owner
abbrev pub Knows : FoundOut → RevisionId → Type 0
Knows found owner = IsSome (found_of found owner)

-- the world is the same, and what was known still is
pub record KnowsMore (old new : FoundOut) : Type 0 where
  pub offers : new.offers ≡ old.offers
  pub owners : (owner : RevisionId) → Knows old owner → Knows new owner
