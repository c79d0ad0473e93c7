-- Which items are out, as they are noted.
use Rattle.std.specs.Prelude.{◌≡◌, ℕ, true, false, List, [], ◌∷◌, reverse, slice_index_or}
use Rattle.osgi_links.specs.Held.{has}
use Rattle.osgi_candidate_rows.specs.declared.gone.Gone.{Gone}

-- no item is there twice
abbrev pub AreOnce : List ℕ → Type 0
AreOnce [] = Unit
AreOnce (x ∷ xs) = (has xs x ≡ false) × AreOnce xs

-- each item that is out is noted as such, and the order is that in which they were taken out, the last one last
pub record Tells (gone : Gone) (removed : List ℕ) : Type 0 where
  pub noted : (x : ℕ) → has removed x ≡ true → slice_index_or gone.is_out.items x true ≡ true
  pub order : reverse gone.order.items ≡ removed
  pub once : AreOnce removed
