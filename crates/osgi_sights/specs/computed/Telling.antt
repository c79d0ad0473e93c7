-- The sights of an entry as they are made: happening by happening, and of one happening listener by listener.
use Rattle.std.specs.Prelude.{ℕ, ◌≡◌, ◌+◌, List, [], ◌∷◌, ◌++◌, Option, MatchOption}
use Rattle.osgi_base.specs.declared.ids.BundleId.{BundleId}
use Rattle.osgi_base.specs.declared.ids.ListenerId.{ListenerId}
use Rattle.osgi_listeners.specs.Rows.{Listening}
use Rattle.osgi_model.specs.declared.value.Attribute.{Attribute}
use Rattle.osgi_ops.specs.Listening.{Added, AsksFor, LetsPass}
use Rattle.osgi_ops.specs.Moments.{Sight}
use Rattle.osgi_ops.specs.declared.event.Event.{Event}
use Rattle.osgi_ops.specs.declared.event.Event.TheVariants as event
use Rattle.osgi_ops.specs.declared.kind.Kind.{Kind}
use Rattle.osgi_ops.specs.declared.service.Service.{Service}
use Rattle.osgi_sights.specs.Shown.{Shown, service, modified, bundle, framework}
use Rattle.osgi_sights.specs.Sights.{bundle_attributes, framework_attributes, IsSeenBy, Sees}
use Rattle.osgi_sights.specs.computed.Asking.{askers}
use Rattle.osgi_world.specs.declared.world.World.{World}

-- the attributes that are made for filters; of services they read the properties
abbrev pub attributes_of : Shown → List Attribute
attributes_of (service code s) = []
attributes_of (modified old new) = []
attributes_of (bundle code b name version) = bundle_attributes code b name version
attributes_of (framework code) = framework_attributes code

-- they are these, where they were made
abbrev pub AreMade : Shown → Option (List Attribute) → Type 0
AreMade shown made = MatchOption made (Unit {0}) (λ attributes. attributes ≡ attributes_of shown)

-- the event that the listener sees, or that it sees none
abbrev pub IsAnswer : World → Added → Shown → Option Event → Type 0
IsAnswer world a shown answer = MatchOption answer ((seen : Event) → ¬ Sees world a shown seen) (Sees world a shown)

-- the event of a service under this code, or that the listener does not ask for it
abbrev pub IsEventAsked : World → Added → ℕ → Service → Option Event → Type 0
IsEventAsked world a code s answer = MatchOption answer (¬ AsksFor world a s) (λ (seen : Event). AsksFor world a s × (seen ≡ event.Service code s.service))

-- the event, or that the listener is of another kind or its filter does not match the attributes
abbrev pub IsEventPassed : Added → Kind → List Attribute → Event → Option Event → Type 0
IsEventPassed a of_kind attributes its answer =
    MatchOption answer (¬ ((a.kind ≡ of_kind) × LetsPass a.given attributes)) (λ (seen : Event). (a.kind ≡ of_kind) × LetsPass a.given attributes × (seen ≡ its))

-- the event that the listener sees, or that it sees none, of the live listener of an id
abbrev pub IsAnswerOf : Listening → Option BundleId → World → Shown → ListenerId → Option Event → Type 0
IsAnswerOf l removed world shown listener answer =
    MatchOption answer ((seen : Event) → ¬ IsSeenBy l removed world shown listener seen) (IsSeenBy l removed world shown listener)

-- what listeners see of the happening at this place, one after another
pub data Tells (l : Listening) (removed : Option BundleId) (world : World) (shown : Shown) (place : ℕ) : List ListenerId → List Sight → Type 0 where
  all_told : Tells l removed world shown place [] []
  sees : {listener : ListenerId} {seen : Event} {rest : List ListenerId} {sights : List Sight} →
      IsSeenBy l removed world shown listener seen → Tells l removed world shown place rest sights →
      Tells l removed world shown place (listener ∷ rest) (record { listener = listener; place = place; event = seen } ∷ sights)
  misses : {listener : ListenerId} {rest : List ListenerId} {sights : List Sight} →
      ((seen : Event) → ¬ IsSeenBy l removed world shown listener seen) → Tells l removed world shown place rest sights →
      Tells l removed world shown place (listener ∷ rest) sights

-- what those that are asked see of the happening
abbrev pub TellsOf : Listening → Option BundleId → World → Shown → ℕ → List Sight → Type 0
TellsOf l removed world shown place sights = Tells l removed world shown place (askers shown l.rows) sights

-- what is seen of the happenings, the first of which is at this place
pub data TellsAll (l : Listening) (removed : Option BundleId) (world : World) : ℕ → List Shown → List Sight → Type 0 where
  all_told : {place : ℕ} → TellsAll l removed world place [] []
  first_of : {place : ℕ} {shown : Shown} {rest : List Shown} {now later : List Sight} →
      TellsOf l removed world shown place now → TellsAll l removed world (1 + place) rest later → TellsAll l removed world place (shown ∷ rest) (now ++ later)

-- these sights are added to those before
pub record AddsSights (Told : List Sight → Type 0) (old new : List Sight) : Type 0 where
  pub added : List Sight
  pub are : new ≡ old ++ added
  pub told : Told added
