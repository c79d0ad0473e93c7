-- Package wires of one revision that go to different providers, by rows.
use Rattle.std.specs.Prelude.{◌≢◌, ℕ, List, [], ◌∷◌}
use Rattle.osgi_space_rows.specs.Rows.{RowLists, Imports}
use Rattle.osgi_space_rows.specs.declared.rows.Import.{Import}

-- the first of the rows goes to another provider
abbrev pub FirstDiffers : List Import → ℕ → Type 0
FirstDiffers [] provider = ⊥
FirstDiffers (row ∷ rows) provider = row.provider ≢ provider

-- r has wires for one package to two providers
abbrev pub HasTwoProviders : RowLists → ℕ → Type 0
HasTwoProviders R r = (p x y : ℕ) × Imports R r p x × Imports R r p y × (x ≢ y)
