-- What is kept of what was found at a location, with the script.
use Rattle.std.proofs.Common.{ℕ, List, sym, subst}
use Rattle.std.specs.Prelude.{Option, Result, Ok, Err, IfOk}
use Rattle.osgi_depot.specs.Depots.{IsKeptAt}
use Rattle.osgi_depot.specs.computed.Keeping.{IsKept, IsScriptKept}
use Rattle.osgi_depot.specs.declared.storing.Kept.{Kept}
use Rattle.osgi_ops.specs.declared.depot.Stored.{Stored}
use Rattle.osgi_ops.specs.declared.depot.Stored.TheVariants as stored
use Rattle.osgi_outside.specs.Shelves.{IsAsTold, KeepsLimits, RoseWhereFailed, ShelfRow}
use Rattle.osgi_outside.specs.declared.shelf.Found.{Found}
use Rattle.osgi_outside.specs.declared.shelf.Found.TheVariants as found
use Rattle.osgi_session.specs.declared.script.Script.{Script}

module _ (told : Option (List ShelfRow)) (location : List ℕ) (before after : ℕ) (script : Script) where
  -- what is kept of a folder with a revision has that folder's script, and all else one without sections
  pub kept_at : (answer : Found) (kept : Stored) → IsAsTold told location answer → KeepsLimits answer → RoseWhereFailed before after answer → IsKept answer before after kept → IsScriptKept answer kept script →
      IsKeptAt told location kept script
  kept_at (found.Folder folder) (stored.Read revision manifest) as_told within rose kept is = (folder, record { as_told = as_told; within = within }, record { means = kept.0; script = is }, kept.1)
  kept_at (found.Folder folder) (stored.Bad fault) as_told within rose kept is = ((folder, record { as_told = as_told; within = within }, kept), is)
  kept_at (found.Folder folder) stored.NoFolder as_told within rose kept is = absurd kept
  kept_at (found.Folder folder) (stored.TooLarge bytes files) as_told within rose kept is = absurd kept
  kept_at (found.Folder folder) (stored.Failed b a) as_told within rose kept is = absurd kept
  kept_at (found.Folder folder) stored.Skipped as_told within rose kept is = absurd kept
  kept_at found.NoFolder kept as_told within rose same is = subst (λ s. IsKeptAt told location s script) (sym same) (as_told, is)
  kept_at (found.TooLarge bytes files) kept as_told within rose same is = subst (λ s. IsKeptAt told location s script) (sym same) (as_told, within, is)
  kept_at found.Failed kept as_told within rose same is = subst (λ s. IsKeptAt told location s script) (sym same) (rose, is)

-- the same of an answer that may be want of memory
pub all_kept : {E : Type 0} (told : Option (List ShelfRow)) (location : List ℕ) (before after : ℕ) (answer : Found) (r : Result Kept E) → IsAsTold told location answer → KeepsLimits answer → RoseWhereFailed before after answer →
    IfOk r (λ (k : Kept). IsKept answer before after k.stored) → IfOk r (λ (k : Kept). IsScriptKept answer k.stored k.script) →
    IfOk r (λ (k : Kept). IsKeptAt told location k.stored k.script)
all_kept told location before after answer (Ok kept) as_told within rose stored is = kept_at told location before after kept.script answer kept.stored as_told within rose stored is
all_kept told location before after answer (Err error) as_told within rose stored is = tt
