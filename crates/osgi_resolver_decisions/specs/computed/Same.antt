-- Requirements that ask for the same.
use Rattle.std.specs.Prelude.{◌≡◌, false}
use Rattle.osgi_world.specs.Satisfaction.{is_bundle, is_package}
use Rattle.osgi_world.specs.declared.requirement.Requirement.{Requirement}

-- both are of one namespace, which is not that of bundles or packages, with one name and one filter
pub record AskTheSame (n m : Requirement) : Type 0 where
  pub no_bundle : is_bundle n.namespace ≡ false
  pub no_package : is_package n.namespace ≡ false
  pub namespace : n.namespace ≡ m.namespace
  pub name : n.name ≡ m.name
  pub filter : n.filter ≡ m.filter
