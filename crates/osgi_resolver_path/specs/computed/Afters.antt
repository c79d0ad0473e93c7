-- What one decision more makes due by itself.
use Rattle.std.specs.Prelude.{◌≡◌, ℕ, All, IsTrue, List, [], ◌∷◌}
use Rattle.osgi_base.specs.declared.ids.RevisionId.{RevisionId}
use Rattle.osgi_world.specs.Decisions.{Decision, Made, attaching, choose, pick}
use Rattle.osgi_world.specs.DueDecisions.{fragments_of}
use Rattle.osgi_world.specs.Lookups.{is_current}
use Rattle.osgi_world.specs.declared.problem.Problem.{Problem}
use Rattle.osgi_resolver_decisions.specs.computed.Asks.{asks_of}

-- the host, and the fragments that are attached to it once the one on this fragment has this value
abbrev pub owners_with : Problem → Made → RevisionId → RevisionId → ℕ → List RevisionId
owners_with P D host fragment value = host ∷ fragments_of P ((attaching host fragment, value) ∷ D) host

-- after the decision on the last fragment those of the requirements, and else nothing
abbrev pub IsAskedAfter : Problem → Made → Decision → ℕ → List Decision → Type 0
IsAskedAfter P D (attaching h f) value asks = All (λ (o : RevisionId). IsTrue (is_current P.world.known o)) (owners_with P D h f value) → asks ≡ asks_of P h (owners_with P D h f value)
IsAskedAfter P D (choose h q) value asks = asks ≡ []
IsAskedAfter P D (pick h q c) value asks = asks ≡ []
