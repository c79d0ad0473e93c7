-- When two names are the same.
use Rattle.std.specs.Prelude.{ℕ, Bool, List}
use Rattle.std.specs.Str.{bytes_eq, str_eq_ignore_ascii_case}
use Rattle.osgi_filter.specs.declared.case.Case.{Case}
use Rattle.osgi_filter.specs.declared.case.Case.TheVariants.{Keep, Fold}

-- with case, or without ASCII case
abbrev pub same_name : Case → List ℕ → List ℕ → Bool
same_name Keep = bytes_eq
same_name Fold = str_eq_ignore_ascii_case
