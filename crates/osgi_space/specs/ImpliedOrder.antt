-- The order of implied constraints.
use Rattle.std.specs.Prelude.{List}
use Rattle.std.specs.Cmp.Lexicographic.{slice_cmp}
use Rattle.std.specs.List.Sorted.{IsStrictlySortedBy}
use Rattle.std.specs.Ordering.{nat_cmp, on, then_cmp}
use Rattle.std.specs.declared.cmp.Ordering.{Ordering}
use Rattle.osgi_base.specs.declared.ids.RevisionId.{RevisionId}
use Rattle.osgi_space.specs.declared.implied_constraints.Implied.{Implied}

-- by the revision that sees the package, then by the package's bytes
abbrev pub implied_cmp : Implied → Implied → Ordering
implied_cmp = then_cmp (on (λ c. c.seen_by) (on (λ (r : RevisionId). r.0) nat_cmp)) (on (λ c. c.package) (slice_cmp nat_cmp))

-- each once, in this order
abbrev pub AreInOrder : List Implied → Type 0
AreInOrder constraints = IsStrictlySortedBy implied_cmp constraints
