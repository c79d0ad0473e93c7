-- Names as they are compared. No public promise speaks of this.
use Rattle.std.specs.Prelude.{ℕ, List}
use Rattle.std.specs.Str.{str_to_ascii_lowercase}
use Rattle.osgi_filter.specs.declared.case.Case.{Case}
use Rattle.osgi_filter.specs.declared.case.Case.TheVariants.{Keep, Fold}

-- as it is, or without ASCII case
abbrev pub folded : Case → List ℕ → List ℕ
folded Keep name = name
folded Fold name = str_to_ascii_lowercase name
