-- Which revisions the steps of a search wire to which.
use Rattle.std.specs.Prelude.{◌≡◌, ◌==◌, ℕ, cond, List, [], ◌∷◌, ◌++◌, Option, None, Some}
use Rattle.std.specs.Ordering.{nat_cmp}
use Rattle.osgi_space_rows.specs.computed.Groups.{HoldsSame, TakesLast, values_of}
use Rattle.osgi_space_rows.specs.declared.grouped.Grouped.{Grouped}
use Rattle.osgi_world.specs.Decisions.{Step, attached, wired}

-- the revision that the step wires to the one of this number, if it does
abbrev pub holder_by : ℕ → Step → List ℕ
holder_by n (attached host fragment) = []
holder_by n (wired r w) = cond (w.capability.provider.0 == n) (r.0 ∷ []) []

-- those that the steps do: the last step stands first, and who was wired last stands last
abbrev pub holders_of : ℕ → List Step → List ℕ
holders_of n [] = []
holders_of n (s ∷ steps) = holders_of n steps ++ holder_by n s

abbrev pub provider_by : Step → Option ℕ
provider_by (attached host fragment) = None
provider_by (wired r w) = Some w.capability.provider.0

abbrev pub providers_of : List Step → List (Option ℕ)
providers_of [] = []
providers_of (s ∷ steps) = providers_of steps ++ provider_by s ∷ []

-- the revisions that are wired to each number, and the provider of each step that is a wire
pub record AreLinks (holders : Grouped ℕ ℕ) (trail : List (Option ℕ)) (steps : List Step) : Type 0 where
  pub wired_to : (n : ℕ) → values_of nat_cmp holders n ≡ holders_of n steps
  pub trail_is : trail ≡ providers_of steps

-- the last of those that are wired to the provider is taken off, if there is a provider
abbrev pub TakesOff : Grouped ℕ ℕ → Grouped ℕ ℕ → Option ℕ → Type 0
TakesOff old new None = HoldsSame nat_cmp old new
TakesOff old new (Some provider) = TakesLast nat_cmp old new provider
