-- To which sources exports lead. An export is a package with its exporter in the place of a source.
use Rattle.std.specs.Prelude.{◌≡◌, ◌⊎◌, ℕ, List, Contains}
use Rattle.osgi_space_rows.specs.Rows.{RowLists}
use Rattle.osgi_space_rows.specs.computed.Groups.{values_of}
use Rattle.osgi_space_rows.specs.declared.grouped.Grouped.{Grouped}
use Rattle.osgi_space_sources.specs.computed.Exact.{given_cmp}
use Rattle.osgi_space_sources.specs.computed.Givens.{IsSeen, IsSourceOf}
use Rattle.osgi_space_sources.specs.computed.Pairs.{IsNext, IsUse, MayUse}
use Rattle.osgi_space_sources.specs.computed.Reach.{Reach}
use Rattle.osgi_space_sources.specs.computed.RowSources.{Sources}
use Rattle.osgi_space_sources.specs.declared.given.Given.{Given}
use Rattle.osgi_space_sources.specs.declared.lead.Lead.{Lead}

-- a constraint that follows from the export: what it uses, and what follows from that by revisions of A alone
abbrev pub FollowsFrom : RowLists → (ℕ → Type 0) → Given → Given → Type 0
FollowsFrom R A h = Reach (IsUse R h.source h.package) (IsNext R A)

-- the export leads to the source: a constraint follows from the export, and this is a source of its package for the revision that
-- sees it
abbrev pub IsLead : RowLists → (ℕ → Type 0) → Given → Given → Type 0
IsLead R A h s = (g : Given) × FollowsFrom R A h g × IsSourceOf R g.source g.package s

-- it stands under the export
abbrev pub IsUnder : Grouped Given Given → Given → Given → Type 0
IsUnder grouped h s = Contains (values_of given_cmp grouped h) s

-- the lead is to the same source, and is of one that stands under the other's export
abbrev pub LeadsBack : Grouped Given Given → Lead → Lead → Type 0
LeadsBack users from to = IsUnder users from.export to.export × (to.source ≡ from.source)

-- what was found stays
abbrev pub KeepsAll : List Given → List Given → Type 0
KeepsAll old new = (g : Given) → Contains old g → Contains new g

-- it is found, if constraints may come from it and it may use packages
abbrev pub StartsWith : RowLists → (ℕ → Type 0) → List Given → Given → Type 0
StartsWith R A found h = A h.source → MayUse R h.source h.package → Contains found h

-- under each export by a revision of A that r sees stand the sources of packages of D to which it leads
abbrev pub AreLeads : RowLists → (ℕ → Type 0) → (ℕ → Type 0) → Grouped Given Given → ℕ → Type 0
AreLeads R A D leads r = (h s : Given) → IsSeen R r h → A h.source → IsLead R A h s → D s.package → IsUnder leads h s

-- it is a source of its package for r, or r has none
abbrev pub Agrees : RowLists → ℕ → Given → Type 0
Agrees R r s = Sources R r s.package s.source ⊎ ((x : ℕ) → ¬ Sources R r s.package x)
