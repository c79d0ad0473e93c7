-- What the live listeners see of what happens at an entry: the definitions of `osgi_ops`, over the rows of the listeners.
use Rattle.std.specs.Prelude.{ℕ, ◌≡◌, ◌⊎◌, ◌==◌, Bool, false, List, [], ◌∷◌, Option, Some, All, AllPairs, Contains, codes}
use Rattle.std.specs.Option.{option_map_or}
use Rattle.osgi_base.specs.declared.ids.BundleId.{BundleId}
use Rattle.osgi_base.specs.declared.ids.ListenerId.{ListenerId}
use Rattle.osgi_listeners.specs.Rows.{Listening, Row, row_at}
use Rattle.osgi_listeners.specs.declared.row.ListenerRow.{ListenerRow}
use Rattle.osgi_model.specs.declared.value.Attribute.{Attribute}
use Rattle.osgi_model.specs.declared.value.Value.TheVariants as value
use Rattle.osgi_ops.specs.Bundles.{system}
use Rattle.osgi_ops.specs.Listening.{Added, AsksFor, ComesBefore, IsAt, LetsPass, number}
use Rattle.osgi_ops.specs.Moments.{Sight}
use Rattle.osgi_ops.specs.Properties.{property}
use Rattle.osgi_ops.specs.declared.event.Event.{Event}
use Rattle.osgi_ops.specs.declared.event.Event.TheVariants as event
use Rattle.osgi_ops.specs.declared.event_codes.TheConstants.{SERVICE_MODIFIED, SERVICE_MODIFIED_ENDMATCH}
use Rattle.osgi_ops.specs.declared.kind.Kind.TheVariants as kind
use Rattle.osgi_sights.specs.Shown.{Shown, service, modified, bundle, framework}
use Rattle.osgi_version.specs.declared.version.Version.{Version}
use Rattle.osgi_world.specs.declared.world.World.{World}

-- the row's listener as it was added
abbrev pub added_of : ListenerRow → Added
added_of row = record { listener = row.listener; owner = row.owner; name = row.name; kind = row.kind; given = row.filter }

-- what filters read of a bundle's happening, and of one of the framework
abbrev pub bundle_attributes : ℕ → BundleId → List ℕ → Version → List Attribute
bundle_attributes code b name version =
    number (codes "event.type") code ∷ number (codes "bundle.id") b.0
    ∷ property (codes "bundle.name") (value.Text name) ∷ property (codes "bundle.version") (value.Version version) ∷ []

abbrev pub framework_attributes : ℕ → List Attribute
framework_attributes code = number (codes "event.type") code ∷ number (codes "bundle.id") system.0 ∷ []

-- the listener sees what is shown as this event, by the wirings of this world
abbrev pub Sees : World → Added → Shown → Event → Type 0
Sees world a (service code s) seen = AsksFor world a s × LetsPass a.given s.properties × (seen ≡ event.Service code s.service)
Sees world a (modified old new) seen =
    AsksFor world a new ×
    ((LetsPass a.given new.properties × (seen ≡ event.Service SERVICE_MODIFIED new.service))
    ⊎ ((¬ LetsPass a.given new.properties) × LetsPass a.given old.properties × (seen ≡ event.Service SERVICE_MODIFIED_ENDMATCH new.service)))
Sees world a (bundle code b name version) seen = (a.kind ≡ kind.Bundle) × LetsPass a.given (bundle_attributes code b name version) × (seen ≡ event.Bundle code b)
Sees world a (framework code) seen = (a.kind ≡ kind.Framework) × LetsPass a.given (framework_attributes code) × (seen ≡ event.Framework code)

-- the listeners of the owner go with the entry, being those of the bundle that it cleans
abbrev pub goes : Option BundleId → BundleId → Bool
goes removed owner = option_map_or (λ (b : BundleId). b.0 == owner.0) removed false

-- the live listener of this id stays, and sees what is shown as this event
pub record IsSeenBy (l : Listening) (removed : Option BundleId) (world : World) (shown : Shown) (listener : ListenerId) (seen : Event) : Type 0 where
  pub row : Row
  pub is : row_at listener l.rows ≡ Some row
  pub stays : goes removed row.listener.owner ≡ false
  pub sees : Sees world (added_of row.listener) shown seen

-- one of the happenings, at this place, is seen so
pub record IsSightOf (l : Listening) (removed : Option BundleId) (world : World) (happened : List Shown) (s : Sight) : Type 0 where
  pub shown : Shown
  pub at : IsAt s.place happened shown
  pub seen : IsSeenBy l removed world shown s.listener s.event

-- exactly what is seen, in order: earlier places first, and of one place the lower listeners
pub record AreSightsOf (l : Listening) (removed : Option BundleId) (world : World) (happened : List Shown) (sights : List Sight) : Type 0 where
  pub only : All (IsSightOf l removed world happened) sights
  pub every : (s : Sight) → IsSightOf l removed world happened s → Contains sights s
  pub in_order : AllPairs ComesBefore sights
