-- A bundle by its number.
use Rattle.std.specs.Prelude.{ℕ}
use Rattle.osgi_base.specs.declared.ids.BundleId.{BundleId}

abbrev pub numbered : ℕ → BundleId
numbered n = record { 0 = n }
