-- Imports that ask for a package and for nothing else.
use Rattle.std.specs.Prelude.{◌≡◌, ℕ, IsTrue, List, [], None, Some}
use Rattle.osgi_version.specs.RangeValues.{range_parts}
use Rattle.osgi_version.specs.Ranges.{at_least_zero}
use Rattle.osgi_world.specs.Lookups.{requirement_at}
use Rattle.osgi_world.specs.Satisfaction.{is_package}
use Rattle.osgi_world.specs.declared.requirement.Requirement.{Requirement}
use Rattle.osgi_world.specs.declared.wiring.ReqRef.{ReqRef}
use Rattle.osgi_world.specs.declared.world.Known.{Known}

-- an import of any version of its package, from anybody
pub record IsPlain (n : Requirement) : Type 0 where
  pub import : IsTrue (is_package n.namespace)
  pub from_name : n.from_name ≡ None
  pub range : range_parts n.range ≡ at_least_zero
  pub from_range : range_parts n.from_range ≡ at_least_zero
  pub equal : n.equal ≡ []

-- such an import of the package stands at the place
pub record IsPlainFor (K : List Known) (q : ReqRef) (name : List ℕ) : Type 0 where
  pub requirement : Requirement
  pub requirement_is : requirement_at K q ≡ Some requirement
  pub name_is : requirement.name ≡ name
  pub plain : IsPlain requirement
