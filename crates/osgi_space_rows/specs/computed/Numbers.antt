-- What is true of the indices of names.
use Rattle.std.specs.Prelude.{◌≡◌, ◌⊎◌, ℕ, List, Some}
use Rattle.std.specs.BTreeMap.{BTreeMap, get}
use Rattle.std.specs.Cmp.Lexicographic.{slice_cmp}
use Rattle.std.specs.Ordering.{nat_cmp}
use Rattle.osgi_space_rows.specs.Names.{AreOnce, HasNumber}
use Rattle.osgi_space_rows.specs.computed.Digests.{digest_of}

-- the number of each name stands under its digest or under its text, and under a text only the number of that name
pub record AreNumbersOf (by_digest : BTreeMap ℕ ℕ) (by_text : BTreeMap (List ℕ) ℕ) (names : List (List ℕ)) : Type 0 where
  pub found : (text : List ℕ) (number : ℕ) → HasNumber names text number → (get nat_cmp by_digest (digest_of text) ≡ Some number) ⊎ (get (slice_cmp nat_cmp) by_text text ≡ Some number)
  pub named : (text : List ℕ) (number : ℕ) → get (slice_cmp nat_cmp) by_text text ≡ Some number → HasNumber names text number
  pub once : AreOnce names
