-- Versions as values: what one says, the order of two, and the text that is printed of one.
use Rattle.std.specs.Prelude.{ℕ, ◌≤◌, List, [], ◌∷◌, ◌++◌}
use Rattle.std.specs.Fmt.{decimal}
use Rattle.std.specs.declared.cmp.Ordering.{Ordering}
use Rattle.std.specs.Ordering.{nat_cmp, ordering_then}
use Rattle.std.specs.Cmp.Lexicographic.{slice_cmp}
use Rattle.osgi_version.specs.Versions.{Parts}
use Rattle.osgi_version.specs.declared.version.TheConstants.{MAX_NUMBER}
use Rattle.osgi_version.specs.declared.version.Version.{Version}

abbrev pub parts : Version → Parts
parts v = record { major = v.major; minor = v.minor; micro = v.micro; qualifier = v.qualifier }

-- the version of three numbers, with the empty qualifier
abbrev pub version_numbered : (major minor micro : ℕ) → (major ≤ MAX_NUMBER) × (minor ≤ MAX_NUMBER) × (micro ≤ MAX_NUMBER) → Version
version_numbered major minor micro fit = record { major = major; minor = minor; micro = micro; qualifier = []; in_range = fit }

-- by the three numbers, then by the qualifier's bytes
abbrev pub order : Parts → Parts → Ordering
order a b = ordering_then (nat_cmp a.major b.major) (ordering_then (nat_cmp a.minor b.minor) (ordering_then (nat_cmp a.micro b.micro) (slice_cmp nat_cmp a.qualifier b.qualifier)))

-- a dot (46) and the qualifier, unless it is empty
abbrev pub qualifier_text : List ℕ → List ℕ
qualifier_text [] = []
qualifier_text (b ∷ q) = 46 ∷ b ∷ q

-- three numbers, and the qualifier unless it is empty, with dots between
abbrev pub parts_text : Parts → List ℕ
parts_text v = decimal v.major ++ 46 ∷ (decimal v.minor ++ 46 ∷ (decimal v.micro ++ qualifier_text v.qualifier))
