-- Owners that have nothing of space to decide: no attachment, no bundle requirement and no import.
use Rattle.std.specs.Prelude.{ℕ, ◌&&◌, ◌||◌, not, Bool, true, false, List, [], ◌∷◌}
use Rattle.std.specs.List.{list_any}
use Rattle.osgi_base.specs.declared.ids.RevisionId.{RevisionId}
use Rattle.osgi_world.specs.Candidates.{candidates, matching}
use Rattle.osgi_world.specs.Lookups.{is_effective, is_multiple, requirement_namespace}
use Rattle.osgi_world.specs.Payloads.{own_requirements}
use Rattle.osgi_world.specs.Satisfaction.{is_bundle, is_package}
use Rattle.osgi_world.specs.declared.problem.Problem.{Problem}
use Rattle.osgi_world.specs.declared.wiring.CapRef.{CapRef}
use Rattle.osgi_world.specs.declared.wiring.ReqRef.{ReqRef}

abbrev pub is_of_space : List ℕ → Bool
is_of_space namespace = is_bundle namespace || is_package namespace

abbrev pub is_none_of : List CapRef → Bool
is_none_of [] = true
is_none_of (c ∷ cs) = false

-- the requirement has such a decision
abbrev pub asks_space : Problem → ReqRef → Bool
asks_space P q =
    (is_effective P.world.known q && is_of_space (requirement_namespace P.world.known q))
    && not (is_multiple P.world.known q && is_none_of (candidates P q))

abbrev pub is_lone : List RevisionId → Bool
is_lone [] = true
is_lone (f ∷ fs) = false

-- the owner has nothing of space to decide
abbrev pub is_free : Problem → RevisionId → Bool
is_free P m = is_lone (matching P m) && not (list_any (asks_space P) (own_requirements P.world.known m))
