-- The requirements and capabilities that the clauses of the headers other than Import-Package and Export-Package make.
use Rattle.std.specs.Prelude.{ℕ, ◌≡◌, true, false, List, [], ◌∷◌, ◌++◌, codes, filter, None, Option, Some}
use Rattle.std.specs.List.{AllZip}
use Rattle.osgi_header.specs.declared.clause.Clause.{Clause}
use Rattle.osgi_model.specs.Filters.{ReadsFilter}
use Rattle.osgi_world.specs.declared.capability.Capability.{Capability}
use Rattle.osgi_model.specs.declared.filter.Filter.{Filter}
use Rattle.osgi_world.specs.declared.requirement.Requirement.{Requirement}
use Rattle.osgi_version.specs.Ranges.{ReadsRange}
use Rattle.osgi_version.specs.RangeValues.{range_parts}
use Rattle.osgi_package.specs.Parameters.{IsAttribute, directive_value, is_directed, version_text}
use Rattle.osgi_clause.specs.Directives.{takes_part}

-- the namespace of bundles, as those that are required and as the hosts of fragments
abbrev pub bundle_namespace : List ℕ
bundle_namespace = codes "osgi.wiring.bundle"

-- a bundle that a clause of Require-Bundle or Fragment-Host names: its version within this range, and no other condition
pub record IsBundle (clause : Clause) (bundle : List ℕ) (requirement : Requirement) : Type 0 where
  pub namespace : requirement.namespace ≡ bundle_namespace
  pub name : requirement.name ≡ bundle
  pub range : ReadsRange (version_text (codes "bundle-version") clause) (range_parts requirement.range)
  pub any_exporter : requirement.from_name ≡ None
  pub any_version : ReadsRange [] (range_parts requirement.from_range)
  pub no_attributes : requirement.equal ≡ []
  pub unfiltered : requirement.filter ≡ None
  pub single : requirement.multiple ≡ false
  pub effective : requirement.effective ≡ true

pub record IsRequiredBundle (clause : Clause) (bundle : List ℕ) (requirement : Requirement) : Type 0 where
  pub required : IsBundle clause bundle requirement
  pub optional : requirement.optional ≡ is_directed (codes "resolution") (codes "optional") clause
  pub reexport : requirement.reexport ≡ is_directed (codes "visibility") (codes "reexport") clause

pub record IsHost (clause : Clause) (host : List ℕ) (requirement : Requirement) : Type 0 where
  pub required : IsBundle clause host requirement
  pub mandatory : requirement.optional ≡ false
  pub private : requirement.reexport ≡ false

-- the filter that a directive gives, if there is one
abbrev pub IsFilterOf : Option (List ℕ) → Option Filter → Type 0
IsFilterOf None filter = filter ≡ None
IsFilterOf (Some text) None = ⊥
IsFilterOf (Some text) (Some filter) = ReadsFilter text filter

-- what a clause of Require-Capability asks of one of its namespaces; with `cardinality:=multiple` it may have several wires,
-- and with any other value, or without the directive, one. Attributes have no effect
pub record IsRequired (clause : Clause) (namespace : List ℕ) (requirement : Requirement) : Type 0 where
  pub space : requirement.namespace ≡ namespace
  pub name : requirement.name ≡ namespace
  pub any_version : ReadsRange [] (range_parts requirement.range)
  pub any_exporter : requirement.from_name ≡ None
  pub any_exporters_version : ReadsRange [] (range_parts requirement.from_range)
  pub no_attributes : requirement.equal ≡ []
  pub filtered : IsFilterOf (directive_value (codes "filter") clause) requirement.filter
  pub optional : requirement.optional ≡ is_directed (codes "resolution") (codes "optional") clause
  pub multiple : requirement.multiple ≡ is_directed (codes "cardinality") (codes "multiple") clause
  pub private : requirement.reexport ≡ false
  pub effective : requirement.effective ≡ takes_part clause

-- what a clause of Provide-Capability offers in one of its namespaces
pub record IsProvided (clause : Clause) (namespace : List ℕ) (capability : Capability) : Type 0 where
  pub space : capability.namespace ≡ namespace
  pub name : capability.name ≡ namespace
  pub attributes : AllZip IsAttribute clause.attributes capability.attributes
  pub no_uses : capability.uses ≡ []
  pub no_mandatory : capability.mandatory ≡ []

-- one item for each path of each clause, in order
pub data AreMade {X : Type 0} (Makes : Clause → List ℕ → X → Type 0) : List Clause → List X → Type 0 where
  none : AreMade Makes [] []
  more : {clause : Clause} {clauses : List Clause} {others : List X} (items : List X) → AllZip (Makes clause) clause.paths items → AreMade Makes clauses others →
      AreMade Makes (clause ∷ clauses) (items ++ others)

-- what the clauses that take part in resolving offer
abbrev pub AreProvided : List Clause → List Capability → Type 0
AreProvided clauses = AreMade IsProvided (filter takes_part clauses)
