-- Ranges that are shared: where none is given, that of all versions.
use Rattle.std.specs.Prelude.{true, false, Option, None, Some}
use Rattle.std.proofs.Common.{lit≤}
use Rattle.osgi_version.specs.VersionValues.{version_numbered}
use Rattle.osgi_version.specs.declared.range.VersionRange.{VersionRange}

abbrev pub all_versions : VersionRange
all_versions = record { low = version_numbered 0 0 0 (lit≤ tt, lit≤ tt, lit≤ tt); low_in = true; high = None; high_in = false }

abbrev pub given_or_all : Option VersionRange → VersionRange
given_or_all None = all_versions
given_or_all (Some range) = range
