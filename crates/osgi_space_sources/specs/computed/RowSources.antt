-- Where a package comes from by the rows, and which constraints follow from it.
use Rattle.std.specs.Prelude.{◌≡◌, ◌≢◌, ℕ, ◌⊎◌}
use Rattle.osgi_space_rows.specs.Rows.{RowLists, Imports, Requires, Reexports, Attaches, OwnExport, OwnUse}

-- what this owner has is in the payload of r
abbrev pub Owns : RowLists → ℕ → ℕ → Type 0
Owns R r o = (o ≡ r) ⊎ Attaches R r o

abbrev pub HasExport : RowLists → ℕ → ℕ → Type 0
HasExport R r p = (o : ℕ) × Owns R r o × OwnExport R o p

abbrev pub ExportUses : RowLists → ℕ → ℕ → ℕ → Type 0
ExportUses R e p u = (o : ℕ) × Owns R e o × OwnUse R o p u

abbrev pub ImportsElsewhere : RowLists → ℕ → ℕ → Type 0
ImportsElsewhere R r p = (x : ℕ) × Imports R r p x × (x ≢ r)

abbrev pub Exports : RowLists → ℕ → ℕ → Type 0
Exports R r p = HasExport R r p × ¬ ImportsElsewhere R r p

-- b gives p from x to those that require b
pub data GivesPackage (R : RowLists) (p : ℕ) : ℕ → ℕ → Type 0 where
  substituted : {b x : ℕ} → Imports R b p x → x ≢ b → HasExport R b p → GivesPackage R p b x
  itself : {b : ℕ} → Exports R b p → GivesPackage R p b b
  reexported : {b c x : ℕ} → Reexports R b c → GivesPackage R p c x → GivesPackage R p b x

abbrev pub NotImported : RowLists → ℕ → ℕ → Type 0
NotImported R r p = ¬ ((y : ℕ) × Imports R r p y)

-- x is a source of p for r
abbrev pub Sources : RowLists → ℕ → ℕ → ℕ → Type 0
Sources R r p x = Imports R r p x ⊎ NotImported R r p × (((c : ℕ) × Requires R r c × GivesPackage R p c x) ⊎ (x ≡ r) × Exports R r p)

-- r has an implied constraint for u as e sees it, which comes from revisions of A alone
pub data Implied (R : RowLists) (A : ℕ → Type 0) (r : ℕ) : ℕ → ℕ → Type 0 where
  seen : {e p u : ℕ} → A r → Sources R r p e → A e → ExportUses R e p u → Implied R A r e u
  follows : {e d u v : ℕ} → Implied R A r e u → Sources R e u d → A d → ExportUses R d u v → Implied R A r d v

-- each of the two has a source that the other lacks
pub record Clash (R : RowLists) (r e u : ℕ) : Type 0 where
  pub ours : ℕ
  pub ours_in : Sources R r u ours
  pub ours_out : ¬ Sources R e u ours
  pub theirs : ℕ
  pub theirs_in : Sources R e u theirs
  pub theirs_out : ¬ Sources R r u theirs

-- what b gives by its own import and export
abbrev pub GivesDirectly : RowLists → ℕ → ℕ → ℕ → Type 0
GivesDirectly R p b x = (Imports R b p x × (x ≢ b) × HasExport R b p) ⊎ (x ≡ b) × Exports R b p
