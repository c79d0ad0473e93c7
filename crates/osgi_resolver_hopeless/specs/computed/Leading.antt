-- What leads to a revision along wires, found from this revision backwards.
use Rattle.std.specs.Prelude.{◌≡◌, ℕ}
use Rattle.osgi_base.specs.declared.ids.RevisionId.{RevisionId}
use Rattle.osgi_resolver_path.specs.Wires.{IsWiredTo}
use Rattle.osgi_space_rows.specs.Agree.{id}
use Rattle.osgi_space_sources.specs.computed.Reach.{Reach}
use Rattle.osgi_world.specs.Decisions.{Made}
use Rattle.osgi_world.specs.declared.problem.Problem.{Problem}

-- n is the number of h, or of a member that has a wire to one of these
abbrev pub LeadsBack : Problem → Made → RevisionId → ℕ → Type 0
LeadsBack P D h = Reach (λ n. n ≡ h.0) (λ x n. IsWiredTo P D (id x) n)
