-- Which revisions are the sources of a package for a revision, and the constraints that `uses` implies.
use Rattle.std.specs.Prelude.{◌≡◌, ◌≢◌, ℕ, ◌⊎◌, List}
use Rattle.osgi_base.specs.declared.ids.RevisionId.{RevisionId}
use Rattle.osgi_world.specs.Wirings.{PackageWire, BundleWire, Reexports, HasExport, ExportUses, Exports}
use Rattle.osgi_world.specs.declared.wiring.Wiring.{Wiring}
use Rattle.osgi_world.specs.declared.world.Known.{Known}

-- b gives p from x to those that require b: the least relation with these rules
pub data GivesPackage (K : List Known) (W : List Wiring) (p : List ℕ) : RevisionId → RevisionId → Type 0 where
  -- the provider of b's import, where b exports p too
  substituted : {b x : RevisionId} → PackageWire K W b p x → x ≢ b → HasExport K W b p → GivesPackage K W p b x
  -- b itself
  itself : {b : RevisionId} → Exports K W b p → GivesPackage K W p b b
  -- what a bundle gives that b requires with reexport
  reexported : {b c x : RevisionId} → Reexports K W b c → GivesPackage K W p c x → GivesPackage K W p b x

-- x is a source of p for r: the provider of r's wire for p; if there is no such wire, what r's required bundles give, and
-- r itself where it exports p
abbrev pub Sources : List Known → List Wiring → RevisionId → List ℕ → RevisionId → Type 0
Sources K W r p x =
    PackageWire K W r p x
    ⊎ (¬ ((y : RevisionId) × PackageWire K W r p y)) × (((c : RevisionId) × BundleWire K W r c × GivesPackage K W p c x) ⊎ (x ≡ r) × Exports K W r p)

-- r has an implied constraint for u as e sees it, which comes from revisions of A alone: the least relation with these
-- rules. With every revision in A these are all implied constraints
pub data Implied (K : List Known) (W : List Wiring) (A : RevisionId → Type 0) (r : RevisionId) : RevisionId → List ℕ → Type 0 where
  -- e is a source of p for r, and an export of p by e uses u
  seen : {e : RevisionId} {p u : List ℕ} → A r → Sources K W r p e → A e → ExportUses K W e p u → Implied K W A r e u
  -- d is a source of u for e, and an export of u by d uses v
  follows : {e d : RevisionId} {u v : List ℕ} → Implied K W A r e u → Sources K W e u d → A d → ExportUses K W d u v → Implied K W A r d v

-- r and e have different sources of u: each of the two has one that the other lacks. So both have some, and neither set
-- contains the other
pub record Clash (K : List Known) (W : List Wiring) (r e : RevisionId) (u : List ℕ) : Type 0 where
  pub ours : RevisionId
  pub ours_in : Sources K W r u ours
  pub ours_out : ¬ Sources K W e u ours
  pub theirs : RevisionId
  pub theirs_in : Sources K W e u theirs
  pub theirs_out : ¬ Sources K W r u theirs
