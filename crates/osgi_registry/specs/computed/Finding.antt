-- What the code computes of a find. No public promise speaks of this.
use Rattle.std.specs.Prelude.{ℕ, ◌≡◌, ◌&&◌, Bool, true, false, List, ◌∷◌, ◌++◌, Option, None, Some, All, MatchOption}
use Rattle.std.specs.Bool.{Decides, OnTrue}
use Rattle.std.specs.List.{list_all}
use Rattle.std.specs.Str.{str_eq_ignore_ascii_case}
use Rattle.osgi_base.specs.declared.ids.BundleId.{BundleId}
use Rattle.osgi_base.specs.declared.ids.ServiceId.{ServiceId}
use Rattle.osgi_model.specs.computed.MatchReader.{matches}
use Rattle.osgi_model.specs.declared.filter.Filter.{Filter}
use Rattle.osgi_ops.specs.Assignable.{IsAssignable}
use Rattle.osgi_ops.specs.Classes.{Fits}
use Rattle.osgi_ops.specs.declared.service.Service.{Service}
use Rattle.osgi_world.specs.declared.world.World.{World}

abbrev pub does_fit : Option Filter → Service → Bool
does_fit None service = true
does_fit (Some filter) service = matches str_eq_ignore_ascii_case service.properties filter

-- the service fits the filter and is assignable for each of its classes
abbrev pub is_open : (BundleId → List ℕ → Bool) → Option Filter → Service → Bool
is_open is_assignable filter service = does_fit filter service && list_all (is_assignable service.owner) service.classes

-- the service of this id may pass the test, and those before it may not
pub record IsFirst (answers : Service → Bool → Type 0) (services : List Service) (id : ServiceId) : Type 0 where
  pub before : List Service
  pub service : Service
  pub after : List Service
  pub are : services ≡ before ++ service ∷ after
  pub others : All (λ s. answers s false) before
  pub passes : answers service true
  pub is : id ≡ service.service

-- the first service that passes a test that answers so, or none where none does
abbrev pub IsFirstFound : (Service → Bool → Type 0) → List Service → Option ServiceId → Type 0
IsFirstFound answers services found = MatchOption found (All (λ s. answers s false) services) (IsFirst answers services)

-- what a test answers that goes by what it is told: it is as computed by each test that agrees with that, and what passes fits the filter
abbrev pub AnswersTold : ((BundleId → List ℕ → Bool) → Type 0) → Option Filter → Service → Bool → Type 0
AnswersTold Agrees filter service answer =
    ((test : BundleId → List ℕ → Bool) → Agrees test → answer ≡ is_open test filter service) × OnTrue answer (does_fit filter service ≡ true)

-- what a test answers that goes by the wirings of a world
abbrev pub AnswersIn : World → BundleId → Option Filter → Service → Bool → Type 0
AnswersIn world asker filter service answer = Decides answer (Fits filter service × All (λ c. IsAssignable world service.owner asker c) service.classes)
