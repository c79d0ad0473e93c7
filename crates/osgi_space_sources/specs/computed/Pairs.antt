-- Implied constraints, as the code collects them: packages, each with the revision that sees it in the place of a source.
use Rattle.std.specs.Prelude.{◌≡◌, ◌⊎◌, ℕ, List, Any}
use Rattle.osgi_space_rows.specs.Rows.{RowLists, Attaches, OwnUse}
use Rattle.osgi_space_rows.specs.declared.rows.Import.{Import}
use Rattle.osgi_space_sources.specs.computed.Givens.{IsSeen, IsSourceOf}
use Rattle.osgi_space_sources.specs.computed.Reach.{Reach}
use Rattle.osgi_space_sources.specs.computed.RowSources.{ExportUses, Implied}
use Rattle.osgi_space_sources.specs.declared.given.Given.{Given}

-- e sees the package, since an export of p that the owner has uses it
abbrev pub IsOwnUse : RowLists → ℕ → ℕ → ℕ → Given → Type 0
IsOwnUse R e o p g = (g.source ≡ e) × OwnUse R o p g.package

-- since an export of p by e uses it
abbrev pub IsUse : RowLists → ℕ → ℕ → Given → Type 0
IsUse R e p g = (g.source ≡ e) × ExportUses R e p g.package

-- one of e's own exports of p uses a package, or e has a fragment
abbrev pub MayUse : RowLists → ℕ → ℕ → Type 0
MayUse R e p = ((u : ℕ) × OwnUse R e p u) ⊎ ((f : ℕ) × Attaches R e f)

-- since the export by this source uses it, and the source is one of A
abbrev pub IsUseAmong : RowLists → (ℕ → Type 0) → Given → Given → Type 0
IsUseAmong R A h g = A h.source × IsUse R h.source h.package g

-- since an export by one of these sources uses it
abbrev pub IsUseOfSome : RowLists → (ℕ → Type 0) → List Given → Given → Type 0
IsUseOfSome R A givens g = Any (λ h. IsUseAmong R A h g) givens

abbrev pub IsImplied : RowLists → (ℕ → Type 0) → ℕ → Given → Type 0
IsImplied R A r g = Implied R A r g.source g.package

-- the constraints that r sees itself
abbrev pub IsFirst : RowLists → (ℕ → Type 0) → ℕ → Given → Type 0
IsFirst R A r g = (h : Given) × IsSeen R r h × A h.source × IsUse R h.source h.package g

-- the constraints that follow from one
abbrev pub IsNext : RowLists → (ℕ → Type 0) → Given → Given → Type 0
IsNext R A from g = (h : Given) × IsSourceOf R from.source from.package h × A h.source × IsUse R h.source h.package g

-- since an export by the provider of one of these wires uses it
abbrev pub IsUseOfWired : RowLists → (ℕ → Type 0) → List Import → Given → Type 0
IsUseOfWired R A imports g = Any (λ (row : Import). IsUseAmong R A (record { «package» = row.imported; source = row.provider }) g) imports

-- the constraints that these wires and these sources imply, and those that follow from these
abbrev pub IsFollowing : RowLists → (ℕ → Type 0) → List Import → List Given → Given → Type 0
IsFollowing R A imports givens = Reach (λ g. IsUseOfWired R A imports g ⊎ IsUseOfSome R A givens g) (IsNext R A)
