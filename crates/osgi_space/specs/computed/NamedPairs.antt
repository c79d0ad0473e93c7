-- Implied constraints by the names of their packages.
use Rattle.std.specs.Prelude.{ℕ, List}
use Rattle.osgi_space_rows.specs.Agree.{id}
use Rattle.osgi_space_rows.specs.Names.{name_numbered}
use Rattle.osgi_space_sources.specs.declared.given.Given.{Given}
use Rattle.osgi_space.specs.declared.implied_constraints.Implied.{Implied as Named}

-- a pair by its package's name
abbrev pub named_pair : List (List ℕ) → Given → Named
named_pair names g = record { seen_by = id g.source; «package» = name_numbered names g.package }
