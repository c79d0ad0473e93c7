-- The two version texts of a range text. No public promise speaks of this.
use Rattle.std.specs.Prelude.{Bool, List, ℕ, Some}
use Rattle.osgi_version.specs.Versions.{Parts, ReadsVersion, IsReadableVersion}
use Rattle.osgi_version.specs.Ranges.{ReadsRange}

pub record IsRangeCut (text : List ℕ) (low_in : Bool) (low high : List ℕ) (high_in : Bool) : Type 0 where
  pub low_reads : IsReadableVersion low
  pub high_reads : IsReadableVersion high
  pub whole : (a b : Parts) → ReadsVersion low a → ReadsVersion high b → ReadsRange text (record { low = a; low_in = low_in; high = Some b; high_in = high_in })
