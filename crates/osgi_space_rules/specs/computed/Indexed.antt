-- What is true of the index of wirings.
use Rattle.std.specs.Prelude.{◌≡◌, ◌↔◌, List}
use Rattle.osgi_base.specs.declared.ids.RevisionId.{RevisionId}
use Rattle.osgi_space_rules.specs.computed.Keys.{attachment, wired_place}
use Rattle.osgi_space_rules.specs.declared.keys.Attachment.{Attachment}
use Rattle.osgi_space_rules.specs.declared.keys.WiredPlace.{WiredPlace}
use Rattle.osgi_world.specs.Lists.{In}
use Rattle.osgi_world.specs.Wirings.{Attached, HasWire, InForce}
use Rattle.osgi_world.specs.declared.wiring.ReqRef.{ReqRef}
use Rattle.osgi_world.specs.declared.wiring.Wire.{Wire}
use Rattle.osgi_world.specs.declared.wiring.Wiring.{Wiring}

-- r has a wire for the requirement
abbrev pub IsWired : List Wiring → RevisionId → ReqRef → Type 0
IsWired W r q = (w : Wire) × HasWire W r w × (w.requirement ≡ q)

-- the sets are those of the wirings
abbrev pub AreInForce : List RevisionId → List Wiring → Type 0
AreInForce items W = (r : RevisionId) → In r items ↔ InForce W r

abbrev pub AreAttached : List Attachment → List Wiring → Type 0
AreAttached items W = (h f : RevisionId) → In (attachment h f) items ↔ Attached W h f

abbrev pub AreWired : List WiredPlace → List Wiring → Type 0
AreWired items W = (r : RevisionId) (q : ReqRef) → In (wired_place r q) items ↔ IsWired W r q
