-- The counts of uses after one more or one less.
use Rattle.std.proofs.Common.{◌≡◌, ℕ, List, [], ◌∷◌, ◌++◌, ap, ◌∙◌, refl, sym, nat_eq}
use Rattle.std.specs.Prelude.{Bool, true, false, cond, filter, Option, None, Some}
use Rattle.std.specs.Map.{lookup, set_value}
use Rattle.std.proofs.lemmas.List.Elements.{filter-append}
use Rattle.indexmap.specs.IndexMap.{insert_entry}
use Rattle.osgi_base.specs.declared.ids.BundleId.{BundleId}
use Rattle.osgi_registry_index.specs.Counts.{with_count}
use Rattle.osgi_registry_index.specs.computed.Uses.{all_uses}

-- an insert puts the user's count
pub counted_by_insert : (user : BundleId) (count : ℕ) (uses : List (ℕ × ℕ)) → insert_entry nat_eq uses user.0 count ≡ with_count user count uses
counted_by_insert user count [] = refl
counted_by_insert user count (first ∷ rest) = ap (λ l. cond (nat_eq user.0 first.0) ((first.0, count) ∷ rest) (first ∷ l)) (counted_by_insert user count rest)

set_by : (user : BundleId) (old count : ℕ) (first : ℕ × ℕ) (rest : List (ℕ × ℕ)) (here : Bool) → (lookup (nat_eq user.0) rest ≡ Some old → set_value (nat_eq user.0) rest count ≡ with_count user count rest) →
    cond here (Some first.1) (lookup (nat_eq user.0) rest) ≡ Some old → cond here ((first.0, count) ∷ rest) (first ∷ set_value (nat_eq user.0) rest count) ≡ cond here ((first.0, count) ∷ rest) (first ∷ with_count user count rest)
set_by user old count first rest true more found = refl
set_by user old count first rest false more found = ap (λ l. first ∷ l) (more found)

-- and so does a write where the user has one
pub counted_by_set : (user : BundleId) (old count : ℕ) (uses : List (ℕ × ℕ)) → lookup (nat_eq user.0) uses ≡ Some old → set_value (nat_eq user.0) uses count ≡ with_count user count uses
counted_by_set user old count [] found = absurd (cc found)
counted_by_set user old count (first ∷ rest) found = set_by user old count first rest (nat_eq user.0 first.0) (counted_by_set user old count rest) found

apart : (first : Option (ℕ × ℕ)) (others : List (ℕ × ℕ)) → all_uses first others ≡ all_uses first [] ++ others
apart None others = refl
apart (Some one) others = refl

-- where the first and the others are left apart, all are
pub left_apart : (keep : ℕ × ℕ → Bool) (first now : Option (ℕ × ℕ)) (others left : List (ℕ × ℕ)) → all_uses now [] ≡ filter keep (all_uses first []) → left ≡ filter keep others →
    all_uses now left ≡ filter keep (all_uses first others)
left_apart keep first now others left one rest =
    apart now left ∙ ap (λ l. l ++ left) one ∙ ap (λ l. filter keep (all_uses first []) ++ l) rest ∙ sym (ap (filter keep) (apart first others) ∙ filter-append keep (all_uses first []) others)
