-- Owners one of whose requirements has no candidate, and those none of whose can come to be refused by all of its decisions either.
use Rattle.std.specs.Prelude.{◌≡◌, ◌<◌, IsTrue, []}
use Rattle.osgi_base.specs.declared.ids.RevisionId.{RevisionId}
use Rattle.osgi_world.specs.Candidates.{candidates}
use Rattle.osgi_world.specs.Lookups.{is_multiple, requirement_count, IsNeeded}
use Rattle.osgi_world.specs.declared.problem.Problem.{Problem}
use Rattle.osgi_world.specs.declared.wiring.ReqRef.{ReqRef}

-- the requirement has a candidate, and may have one wire alone
pub record IsSure (P : Problem) (q : ReqRef) : Type 0 where
  pub single : ¬ IsTrue (is_multiple P.world.known q)
  pub some : ¬ (candidates P q ≡ [])

-- it is so with each requirement of the owner that is needed
abbrev pub AreSure : Problem → RevisionId → Type 0
AreSure P owner = (q : ReqRef) → q.owner ≡ owner → q.index < requirement_count P.world.known owner → IsNeeded P.world.known q → IsSure P q

-- a requirement of the owner is needed, and has no candidate
abbrev pub LacksCandidate : Problem → RevisionId → Type 0
LacksCandidate P owner = (q : ReqRef) × (q.owner ≡ owner) × (q.index < requirement_count P.world.known owner) × IsNeeded P.world.known q × (candidates P q ≡ [])
