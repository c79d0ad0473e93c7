-- Clashes, as the code looks for them.
use Rattle.std.specs.Prelude.{◌≡◌, ◌↔◌, ℕ, ◌⊎◌, List, Contains}
use Rattle.osgi_space_rows.specs.Rows.{Imports, Requires, RowLists}
use Rattle.osgi_space_sources.specs.computed.RowSources.{Clash, Implied, Sources}
use Rattle.osgi_space_sources.specs.declared.given.Given.{Given}

-- one of the inner ones is not among the outer ones
abbrev pub Lacks : List Given → List Given → Type 0
Lacks outer inner = (g : Given) × Contains inner g × ¬ Contains outer g

-- r has p from x alone
abbrev pub IsOnlySource : RowLists → ℕ → ℕ → ℕ → Type 0
IsOnlySource R r p x = (y : ℕ) → Sources R r p y ↔ (y ≡ x)

-- r and the revision that sees the package have different sources of it
abbrev pub IsClash : RowLists → ℕ → Given → Type 0
IsClash R r pair = Clash R r pair.source pair.package

-- no implied constraint of r that comes from revisions of A alone is violated
abbrev pub KeepsUsesAmong : RowLists → (ℕ → Type 0) → ℕ → Type 0
KeepsUsesAmong R A r = (e u : ℕ) → Implied R A r e u → ¬ Clash R r e u

-- no implied constraint of r is violated
abbrev pub KeepsUses : RowLists → ℕ → Type 0
KeepsUses R r = KeepsUsesAmong R (λ x. Unit {0}) r

-- r has a wire for a package or for a required bundle
abbrev pub HasWires : RowLists → ℕ → Type 0
HasWires R r = ((p x : ℕ) × Imports R r p x) ⊎ ((c : ℕ) × Requires R r c)

-- r has a violated constraint that comes from revisions of A alone
abbrev pub BreaksUses : RowLists → (ℕ → Type 0) → ℕ → Type 0
BreaksUses R A r = ¬ KeepsUsesAmong R A r
