-- Packages with their sources, as the code collects them.
use Rattle.std.specs.Prelude.{◌≡◌, ◌≢◌, ℕ, ◌⊎◌, List, Any}
use Rattle.osgi_space_rows.specs.Rows.{RowLists, Attaches, Imports, OwnExport, Requires, Reexports}
use Rattle.osgi_space_rows.specs.declared.rows.Import.{Import}
use Rattle.osgi_space_sources.specs.computed.Reach.{Reach}
use Rattle.osgi_space_sources.specs.computed.RowSources.{GivesDirectly, NotImported, Sources}
use Rattle.osgi_space_sources.specs.declared.given.Given.{Given}

-- a fragment of r exports p
abbrev pub AttachedExports : RowLists → ℕ → ℕ → Type 0
AttachedExports R r p = (f : ℕ) × Attaches R r f × OwnExport R f p

-- the source of p is the provider of one of these wires
abbrev pub IsProvider : List Import → ℕ → Given → Type 0
IsProvider imports p g = Any (λ (row : Import). g ≡ record { «package» = p; source = row.provider }) imports

-- r is wired to the source for p
abbrev pub IsImported : RowLists → ℕ → ℕ → Given → Type 0
IsImported R r p g = (g.package ≡ p) × Imports R r p g.source

-- b is wired to the source for p, and is another revision
abbrev pub IsElsewhere : RowLists → ℕ → ℕ → Given → Type 0
IsElsewhere R b p g = (g.package ≡ p) × Imports R b p g.source × (g.source ≢ b)

-- b gives p from the source by its own import and export
abbrev pub IsDirect : RowLists → ℕ → ℕ → Given → Type 0
IsDirect R b p g = (g.package ≡ p) × GivesDirectly R p b g.source

-- b is a bundle that r reaches
abbrev pub IsReached : RowLists → ℕ → ℕ → Type 0
IsReached R r b = Reach (Requires R r) (Reexports R) b

-- r, or a bundle that it reaches, gives p from the source by its own import and export
abbrev pub IsGivenTo : RowLists → ℕ → ℕ → Given → Type 0
IsGivenTo R r p g = ((b : ℕ) × IsReached R r b × IsDirect R b p g) ⊎ IsDirect R r p g

abbrev pub IsSourceOf : RowLists → ℕ → ℕ → Given → Type 0
IsSourceOf R r p g = (g.package ≡ p) × Sources R r p g.source

-- b gives p by its own import and export, and r has no wire for p
abbrev pub IsGivenOf : RowLists → ℕ → ℕ → ℕ → Given → Type 0
IsGivenOf R r b p g = NotImported R r p × IsDirect R b p g

-- the same of the packages that this owner exports
abbrev pub IsGivenByOwner : RowLists → ℕ → ℕ → ℕ → Given → Type 0
IsGivenByOwner R r b o g = (p : ℕ) × OwnExport R o p × IsGivenOf R r b p g

-- and of all packages
abbrev pub IsGivenBy : RowLists → ℕ → ℕ → Given → Type 0
IsGivenBy R r b g = IsGivenOf R r b g.package g

-- a bundle that r reaches gives it so
abbrev pub IsGivenByReached : RowLists → ℕ → Given → Type 0
IsGivenByReached R r g = (b : ℕ) × IsReached R r b × IsGivenBy R r b g

-- r sees it without a wire for the package
abbrev pub IsUnwired : RowLists → ℕ → Given → Type 0
IsUnwired R r g = IsGivenByReached R r g ⊎ IsGivenBy R r r g

-- r is wired to the source for the package
abbrev pub IsWired : RowLists → ℕ → Given → Type 0
IsWired R r g = Imports R r g.package g.source

abbrev pub IsSeen : RowLists → ℕ → Given → Type 0
IsSeen R r g = Sources R r g.package g.source
