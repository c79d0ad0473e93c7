-- What is shown of what happens at an entry: all that a listener and its filter read of it.
use Rattle.std.specs.Prelude.{ℕ, ◌≡◌, Bool, true, false, List, [], ◌∷◌, Some}
use Rattle.osgi_base.specs.declared.ids.BundleId.{BundleId}
use Rattle.osgi_ops.specs.Listening as listening
use Rattle.osgi_ops.specs.declared.service.Service as declared
use Rattle.osgi_sights.specs.declared.happening.Happening.{Happening}
use Rattle.osgi_sights.specs.declared.happening.Happening.TheVariants as happening
use Rattle.osgi_version.specs.declared.version.Version.{Version}
use Rattle.osgi_world.specs.declared.world.Known.{Known}

pub data Shown : Type 0 where
  -- a service came or went, as it stands or last stood
  service : ℕ → declared.Service → Shown
  -- its properties changed: as it stood, and as it stands
  modified : declared.Service → declared.Service → Shown
  -- something became of a bundle of this name and version
  bundle : ℕ → BundleId → List ℕ → Version → Shown
  framework : ℕ → Shown

-- what the code is told of a happening
abbrev pub shown : Happening → Shown
shown (happening.Service code s) = service code s.now
shown (happening.Modified old new) = modified old.now new.now
shown (happening.Bundle code b name version) = bundle code b name.now version.now
shown (happening.Framework code) = framework code

abbrev pub is_of_service : Shown → Bool
is_of_service (service code s) = true
is_of_service (modified old new) = true
is_of_service (bundle code b name version) = false
is_of_service (framework code) = false

-- a bundle's name and version are those of the known revision
pub record IsCalled (known : Known) (name : List ℕ) (version : Version) : Type 0 where
  pub name_is : known.revision.name ≡ name
  pub version_is : known.revision.version ≡ version

-- this is what is shown of a happening of the history; of a bundle that never had a current revision nothing can be shown
abbrev pub IsShown : Shown → listening.Happening → Type 0
IsShown (service code s) (listening.service code' s') = (code ≡ code') × (s ≡ s')
IsShown (modified old new) (listening.modified old' new') = (old ≡ old') × (new ≡ new')
IsShown (bundle code b name version) (listening.bundle code' b' (Some known)) = (code ≡ code') × (b ≡ b') × IsCalled known name version
IsShown (framework code) (listening.framework code') = code ≡ code'
IsShown _ _ = ⊥

-- so of all happenings, in order
abbrev pub AreShown : List Shown → List listening.Happening → Type 0
AreShown [] [] = Unit {0}
AreShown (first ∷ rest) (happening ∷ others) = IsShown first happening × AreShown rest others
AreShown _ _ = ⊥
