-- Why a text is no version, or no range.
use Rattle.std.specs.Prelude.{ℕ, List}
use Rattle.osgi_version.specs.FaultPlaces.{IsLongestPrefix, IsFirstTooBig}
use Rattle.osgi_version.specs.declared.fault.VersionFault.{VersionFault}
use Rattle.osgi_version.specs.declared.fault.VersionFault.TheVariants.{NotVersion, TooBig}

-- `Spelled` are the texts of the grammar, whose numbers may be too large; `Readable` are those whose numbers are not.
-- Where too large numbers are the only fault the place is that of the first such number, else it is the end of the
-- longest prefix that begins some readable text.
abbrev pub IsFault : (Spelled Readable : List ℕ → Type 0) → List ℕ → VersionFault → Type 0
IsFault Spelled Readable text (NotVersion at) = (Spelled text → ⊥) × IsLongestPrefix Readable text at
IsFault Spelled Readable text (TooBig at) = Spelled text × (Readable text → ⊥) × IsFirstTooBig Readable text at
