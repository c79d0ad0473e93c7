-- How often each user holds a service.
use Rattle.std.specs.Prelude.{ℕ, ◌==◌, if◌then◌else◌, List, [], ◌∷◌, unwrap_or}
use Rattle.std.specs.Map.{lookup}
use Rattle.osgi_base.specs.declared.ids.BundleId.{BundleId}

-- how often the user holds it
abbrev pub count_of : BundleId → List (ℕ × ℕ) → ℕ
count_of user uses = unwrap_or (lookup (λ other. user.0 == other) uses) 0

-- the uses with this count of the user. A user's place stays, and a new user goes last
abbrev pub with_count : BundleId → ℕ → List (ℕ × ℕ) → List (ℕ × ℕ)
with_count user count [] = (user.0, count) ∷ []
with_count user count (first ∷ rest) = if user.0 == first.0 then (first.0, count) ∷ rest else first ∷ with_count user count rest
