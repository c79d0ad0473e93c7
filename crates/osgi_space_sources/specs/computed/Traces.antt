-- What is traced of exports: which exports they use, and which sources of disputed packages.
use Rattle.std.specs.Prelude.{◌≡◌, ℕ, List, ◌++◌, Contains}
use Rattle.osgi_space_rows.specs.Rows.{RowLists}
use Rattle.osgi_space_sources.specs.computed.Leads.{IsUnder}
use Rattle.osgi_space_sources.specs.computed.Pairs.{MayUse}
use Rattle.osgi_space_sources.specs.computed.RowSources.{ExportUses, Sources}
use Rattle.osgi_space_sources.specs.declared.given.Given.{Given}
use Rattle.osgi_space_sources.specs.declared.lead.Lead.{Lead}
use Rattle.osgi_space_sources.specs.declared.trace.Trace.{Trace}

-- what was traced stays, the exports in their order
pub record Keeps (old new : Trace) : Type 0 where
  pub exports : (more : List Given) × (new.exports ≡ old.exports ++ more)
  pub users : (h k : Given) → IsUnder old.users h k → IsUnder new.users h k
  pub leads : (l : Lead) → Contains old.leads l → Contains new.leads l

-- the source is noted under the export, if its package is one of D
abbrev pub IsNotedLead : (ℕ → Type 0) → Trace → Given → Given → Type 0
IsNotedLead D t h s = D s.package → Contains t.leads (record { export = h; source = s })

-- its export is there, with the export that uses it, if constraints may come from it and it may use packages
abbrev pub IsFollowed : RowLists → (ℕ → Type 0) → Trace → Given → Given → Type 0
IsFollowed R A t h s = A s.source → MayUse R s.source s.package → Contains t.exports s × IsUnder t.users s h

pub record IsTracedTo (R : RowLists) (A D : ℕ → Type 0) (t : Trace) (h s : Given) : Type 0 where
  pub noted : IsNotedLead D t h s
  pub followed : IsFollowed R A t h s

-- the export uses the package, which its exporter has from the source
abbrev pub UsesFrom : RowLists → Given → Given → Type 0
UsesFrom R h s = ExportUses R h.source h.package s.package × Sources R h.source s.package s.source

-- it is traced to each source of a package that it uses
abbrev pub IsTraced : RowLists → (ℕ → Type 0) → (ℕ → Type 0) → Trace → Given → Type 0
IsTraced R A D t h = (s : Given) → UsesFrom R h s → IsTracedTo R A D t h s

abbrev pub AreTraced : RowLists → (ℕ → Type 0) → (ℕ → Type 0) → Trace → Type 0
AreTraced R A D t = (h : Given) → Contains t.exports h → IsTraced R A D t h
