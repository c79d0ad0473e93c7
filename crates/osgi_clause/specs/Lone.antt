-- What the clause of a header of one clause says.
use Rattle.std.specs.Prelude.{ℕ, ◌≡◌, not, List, [], ◌∷◌, codes, None, Option, Some}
use Rattle.osgi_header.specs.declared.clause.Clause.{Clause}
use Rattle.osgi_world.specs.declared.requirement.Requirement.{Requirement}
use Rattle.osgi_package.specs.Parameters.{is_directed}
use Rattle.osgi_clause.specs.Members.{IsHost}
use Rattle.osgi_clause.specs.declared.naming.Naming.{Naming}

-- one clause says this, if there is a clause
abbrev pub IsLone : {A : Type 0} → (Clause → A → Type 0) → List Clause → Option A → Type 0
IsLone Says clauses None = clauses ≡ []
IsLone Says clauses (Some made) = (clause : Clause) × (clauses ≡ clause ∷ []) × Says clause made

-- what a clause says of the bundle
pub record SaysNaming (clause : Clause) (naming : Naming) : Type 0 where
  pub name : clause.paths ≡ naming.name ∷ []
  pub singleton : naming.singleton ≡ is_directed (codes "singleton") (codes "true") clause
  pub attach : naming.attach ≡ not (is_directed (codes "fragment-attachment") (codes "never") clause)

abbrev pub SaysHost : Clause → Requirement → Type 0
SaysHost clause requirement = (host : List ℕ) × (clause.paths ≡ host ∷ []) × IsHost clause host requirement
