-- Packages by their names.
use Rattle.std.specs.Prelude.{ℕ, ◌||◌, Bool, List, codes, nat_eq}
use Rattle.std.specs.List.{flat_map, starts_with}
use Rattle.std.specs.Str.{bytes_eq}
use Rattle.osgi_header.specs.declared.clause.Clause.{Clause}

-- the namespace of the capabilities and requirements that are packages
abbrev pub package_namespace : List ℕ
package_namespace = codes "osgi.wiring.package"

-- `java`, or a name that begins with `java.`
abbrev pub is_java : List ℕ → Bool
is_java name = bytes_eq name (codes "java") || starts_with nat_eq name (codes "java.")

-- the packages that clauses name, in order
abbrev pub packages : List Clause → List (List ℕ)
packages clauses = flat_map (λ (c : Clause). c.paths) clauses
