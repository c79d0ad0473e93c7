-- What is computed of a text that may be a version. The laws in `laws/VersionReading` show that it is the version that the text
-- reads as.
use Rattle.std.specs.Prelude.{ℕ, true, List, Option, option_and_then}
use Rattle.osgi_version.specs.computed.Run.{advance, run}
use Rattle.osgi_version.specs.computed.VersionMachine.{finish, is_fine, step}
use Rattle.osgi_version.specs.Versions.{Parts}
use Rattle.osgi_version.specs.declared.version_state.VersionState.TheVariants.{Lead}

-- the parts of the version that a text reads as
abbrev pub parts_of : List ℕ → Option Parts
parts_of text = option_and_then (finish text) (run (advance is_fine step true) Lead text)
