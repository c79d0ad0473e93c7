-- What is computed of a clause of Export-Package. No public promise speaks of this: it is proved to give what the definitions
-- say.
use Rattle.std.specs.Prelude.{ℕ, ◌≡◌, if◌then◌else◌, List, [], ◌++◌, codes, map, MatchResult, Option, None, Some, Result}
use Rattle.std.specs.List.{list_any}
use Rattle.osgi_base.specs.Verdict.{answers, refuses}
use Rattle.osgi_header.specs.declared.clause.Clause.{Clause}
use Rattle.osgi_world.specs.declared.capability.Capability.{Capability}
use Rattle.osgi_model.specs.declared.value.Attribute.{Attribute}
use Rattle.osgi_package.specs.Only.{IsOnly}
use Rattle.osgi_package.specs.declared.fault.PackageKind.{PackageKind}
use Rattle.osgi_package.specs.declared.fault.PackageKind.TheVariants.{ImplicitAttribute, JavaExport}
use Rattle.osgi_package.specs.Exports.{SaysExports}
use Rattle.osgi_package.specs.Packages.{is_java, package_namespace}
use Rattle.osgi_package.specs.Parameters.{directive_value, is_implicit, Lists}

-- what is wrong with the names of a clause's packages or attributes
abbrev pub named_fault : Clause → Option PackageKind
named_fault clause =
    if list_any is_java clause.paths then Some JavaExport else (if list_any is_implicit clause.attributes then Some ImplicitAttribute else None)

-- what a clause offers of each of its packages
pub record IsOfferOf (clause : Clause) (given : List Attribute) (template : Capability) : Type 0 where
  pub namespace : template.namespace ≡ package_namespace
  pub name : template.name ≡ []
  pub attributes : template.attributes ≡ given
  pub uses : IsOnly (Lists (directive_value (codes "uses") clause)) template.uses
  pub mandatory : IsOnly (Lists (directive_value (codes "mandatory") clause)) template.mandatory

abbrev pub capabilities_of : Capability → List (List ℕ) → List Capability
capabilities_of template paths = map (λ path. record template { name = path }) paths

-- what a clause offers of each of its packages, or its fault
abbrev pub IsOffer : Clause → Result Capability PackageKind → Type 0
IsOffer clause offer =
    MatchResult offer (λ template. IsOnly (SaysExports [] clause) (answers (capabilities_of template clause.paths))) (λ kind. IsOnly (SaysExports [] clause) (refuses kind))

-- what a clause says: its fault; or it adds its capabilities
abbrev pub IsAdded : List Capability → List Capability → Clause → Option PackageKind → Type 0
IsAdded old new clause (Some kind) = IsOnly (SaysExports [] clause) (refuses kind)
IsAdded old new clause None = (others : List Capability) × (new ≡ old ++ others) × IsOnly (SaysExports [] clause) (answers others)
