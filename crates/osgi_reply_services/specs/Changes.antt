-- Changes of the registry: which can be made, and what they make of it.
use Rattle.std.specs.Prelude.{◌≡◌, ◌+◌, ◌-◌, ◌^◌, ◌<◌, true, List, [], ◌∷◌, ◌++◌, None, length, map, option_to_list}
use Rattle.osgi_base.specs.declared.ids.Tag.{Tag}
use Rattle.osgi_ops.specs.Listening.{Happening, happenings, modifications}
use Rattle.osgi_ops.specs.Listening as happening
use Rattle.osgi_ops.specs.declared.entry.Entry.{Entry}
use Rattle.osgi_ops.specs.declared.event_codes.TheConstants.{SERVICE_REGISTERED, SERVICE_UNREGISTERING}
use Rattle.osgi_ops.specs.declared.limits.TheConstants.{MAX_SERVICES}
use Rattle.osgi_ops.specs.declared.op.Op.{Op}
use Rattle.osgi_ops.specs.declared.op.Op.TheVariants as op
use Rattle.osgi_ops.specs.declared.reply.Reply.{Reply}
use Rattle.osgi_ops.specs.declared.reply.Reply.TheVariants as answer
use Rattle.osgi_registry.specs.Rows.{change, change_refusal, DiffersAtMostInProperties, RegistryRows, row_at, services_in, use_count, used_more, with_service, without}
use Rattle.osgi_registry.specs.Stands.{StandsAfter, StandsFor}
use Rattle.osgi_reply_services.specs.Served.{IsServedToAll}
use Rattle.osgi_reply_services.specs.declared.change.ServiceChange.{ServiceChange}
use Rattle.osgi_world.specs.declared.world.World.{World}
use Rattle.osgi_reply_services.specs.declared.change.ServiceChange.TheVariants.{AddUse, Insert, Modify, Nothing, Remove, TakeUse}

-- the change can be made of this registry
abbrev pub CanBeMade : ServiceChange → RegistryRows → Type 0
CanBeMade Nothing old = Unit {0}
CanBeMade (Insert service scope) old = (service.service.0 ≡ old.issued + 1) × (old.issued < 2 ^ 32 - 1) × (length old.rows < MAX_SERVICES)
CanBeMade (Modify service) old = DiffersAtMostInProperties service old.rows
CanBeMade (Remove owner service) old = change_refusal owner service old.rows ≡ None
CanBeMade (AddUse user service) old = (¬ (row_at service old.rows ≡ None)) × (use_count user service old.rows < 2 ^ 64 - 1)
CanBeMade (TakeUse user service) old = 0 < use_count user service old.rows

-- and then this is the registry
abbrev pub Changes : ServiceChange → RegistryRows → RegistryRows → Type 0
Changes Nothing old new = new ≡ old
Changes (Insert service scope) old new = (new.rows ≡ old.rows ++ record { service = service; scope = scope; uses = [] } ∷ []) × (new.issued ≡ old.issued + 1)
Changes (Modify service) old new = (new.rows ≡ change service.service (with_service service) old.rows) × (new.issued ≡ old.issued)
Changes (Remove owner service) old new = (new.rows ≡ without service old.rows) × (new.issued ≡ old.issued)
Changes (AddUse user service) old new = (new.rows ≡ change service (used_more user) old.rows) × (new.issued ≡ old.issued)
Changes (TakeUse user service) old new = StandsAfter (op.Unget user service) (answer.Flag true) old new

-- what happens to services when the change is made of this registry
abbrev pub happened : ServiceChange → RegistryRows → List Happening
happened Nothing old = []
happened (Insert service scope) old = happening.service SERVICE_REGISTERED service ∷ []
happened (Modify service) old = modifications (services_in (option_to_list (row_at service.service old.rows))) (service ∷ [])
happened (Remove owner service) old = map (happening.service SERVICE_UNREGISTERING) (services_in (option_to_list (row_at service old.rows)))
happened (AddUse user service) old = []
happened (TakeUse user service) old = []

-- this happens at an entry of the operation and the reply, whatever its tag, after each history that the registry stands for and between any worlds
abbrev pub Happens : Op → Reply → RegistryRows → List Happening → Type 0
Happens op reply registry all =
    (history : List Entry) (tag : Tag) → StandsFor history registry → (before after : World) → happenings history before after (record { tag = tag; op = op; reply = reply }) op reply ≡ all

-- the reply of an operation and its change are decided: the change can be made, once it is made, the operation is served so, and at its entry
-- happens what the change makes happen
pub record IsReplyAndChange (op : Op) (registry : RegistryRows) (reply : Reply) (change : ServiceChange) : Type 0 where
  pub possible : CanBeMade change registry
  pub served : (new : RegistryRows) → Changes change registry new → IsServedToAll op registry new reply
  pub happens : Happens op reply registry (happened change registry)
