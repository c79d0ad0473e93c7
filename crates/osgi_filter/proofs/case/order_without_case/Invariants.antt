-- What is left decides.
use Rattle.std.proofs.Common.{◌≡◌, drop}
use Rattle.std.specs.Cmp.Lexicographic.{slice_cmp}
use Rattle.std.specs.Ordering.{nat_cmp}
use Rattle.std.specs.Str.{str_to_ascii_lowercase}
use Rattle.osgi_filter.proofs.case.order_without_case.Given as goal

abbrev pub invariant-loop-x : goal.invariant-loop-x
invariant-loop-x l =
    slice_cmp nat_cmp (str_to_ascii_lowercase (drop l.x-index l.a)) (str_to_ascii_lowercase l.right) ≡ slice_cmp nat_cmp (str_to_ascii_lowercase l.a) (str_to_ascii_lowercase l.fn.b)
