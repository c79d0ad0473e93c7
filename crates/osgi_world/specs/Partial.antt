-- The wirings that decisions make, those that are there already among them.
use Rattle.std.specs.Prelude.{ℕ, List, [], ◌++◌, map, filter, flat_map, Option, None, Some, if◌then◌else◌}
use Rattle.osgi_base.specs.declared.ids.RevisionId.{RevisionId}
use Rattle.osgi_world.specs.Candidates.{candidates}
use Rattle.osgi_world.specs.Lists.{item_at}
use Rattle.osgi_world.specs.Lookups.{is_multiple}
use Rattle.osgi_world.specs.declared.problem.Problem.{Problem}
use Rattle.osgi_world.specs.declared.wiring.CapRef.{CapRef}
use Rattle.osgi_world.specs.declared.wiring.ReqRef.{ReqRef}
use Rattle.osgi_world.specs.declared.wiring.Wire.{Wire}
use Rattle.osgi_world.specs.declared.wiring.Wiring.{Wiring}
use Rattle.osgi_world.specs.Decisions.{Made, value_made, is_yes, choose, pick}
use Rattle.osgi_world.specs.DueDecisions.{fragments_of, payload, members}

-- the capability that a value gives a requirement; none by the value that means none
abbrev pub chosen_by : Problem → ReqRef → Option ℕ → List CapRef
chosen_by P q None = []
chosen_by P q (Some v) = item_at (candidates P q) v

-- the capabilities that a requirement of a host's payload has, in the order of its candidates
abbrev pub chosen_for : Problem → Made → RevisionId → ReqRef → List CapRef
chosen_for P D h q =
    if is_multiple P.world.known q
    then filter (λ c. is_yes (value_made D (pick h q c))) (candidates P q)
    else chosen_by P q (value_made D (choose h q))

abbrev pub wires_for : Problem → Made → RevisionId → ReqRef → List Wire
wires_for P D h q = map (λ c. record { requirement = q; capability = c }) (chosen_for P D h q)

-- the wiring of a member: its wires in the order of its payload
abbrev pub wiring : Problem → Made → RevisionId → Wiring
wiring P D m = record { revision = m; wires = flat_map (wires_for P D m) (payload P D m); fragments = fragments_of P D m }

-- what the members add, as far as decided
abbrev pub added : Problem → Made → List Wiring
added P D = map (wiring P D) (members P D)

-- the wirings that are there already, and those that are added
abbrev pub partial : Problem → Made → List Wiring
partial P D = P.world.wirings ++ added P D
