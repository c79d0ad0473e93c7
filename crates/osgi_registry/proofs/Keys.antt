-- The entries by the order of their keys: what it finds, writes and takes out is what their equality says.
use Rattle.std.proofs.Common.{◌≡◌, ℕ, List, ap, sym, ◌∙◌, arith, nat_eq}
use Rattle.std.specs.Prelude.{Option}
use Rattle.std.specs.BTreeMap.{is_at}
use Rattle.std.specs.Map.{lookup, remove_entry, set_value}
use Rattle.std.specs.Ordering.{nat_cmp}
use Rattle.std.proofs.lemmas.Bool.Decides.{nat_tests}
use Rattle.osgi_registry.specs.Rows.{LiveService}

at_by : (key other : ℕ) → is_at (nat_cmp key) other ≡ nat_eq key other
at_by key other = grind (arith, nat_tests)

at : (key : ℕ) → is_at (nat_cmp key) ≡ nat_eq key
at key = λ i other. at_by key other i

pub found_by : (key : ℕ) (entries : List (ℕ × LiveService)) (found : Option LiveService) → found ≡ lookup (is_at (nat_cmp key)) entries → lookup (nat_eq key) entries ≡ found
found_by key entries found is = sym (is ∙ ap (λ test. lookup test entries) (at key))

pub set_by : (key : ℕ) (entries written : List (ℕ × LiveService)) (row : LiveService) → written ≡ set_value (is_at (nat_cmp key)) entries row → written ≡ set_value (nat_eq key) entries row
set_by key entries written row is = is ∙ ap (λ test. set_value test entries row) (at key)

pub removed_by : (key : ℕ) (entries left : List (ℕ × LiveService)) → left ≡ remove_entry (is_at (nat_cmp key)) entries → left ≡ remove_entry (nat_eq key) entries
removed_by key entries left is = is ∙ ap (λ test. remove_entry test entries) (at key)
