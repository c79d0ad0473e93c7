-- The services of a history, read off its entries: what was registered, what of it is live, its properties, and who uses it.
use Rattle.std.specs.Prelude.{ℕ, ◌==◌, ◌+◌, ◌-◌, ◌&&◌, length, not, Bool, false, if◌then◌else◌, List, [], ◌∷◌, ◌++◌, Option, None, Some, filter, find, map, unwrap_or, count_by}
use Rattle.std.specs.List.{list_any}
use Rattle.std.specs.Option.{option_map_or}
use Rattle.osgi_base.specs.declared.ids.BundleId.{BundleId}
use Rattle.osgi_base.specs.declared.ids.ServiceId.{ServiceId}
use Rattle.osgi_model.specs.declared.value.Attribute.{Attribute}
use Rattle.osgi_base.specs.declared.ids.Tag.{Tag}
use Rattle.osgi_ops.specs.Along.{carried, carry, latest}
use Rattle.osgi_ops.specs.Brackets.{Bracket, brackets, closes, making_of_innermost, Making}
use Rattle.osgi_ops.specs.Cleaning.{cleaned_by, cleans}
use Rattle.osgi_ops.specs.Properties.{with_framework}
use Rattle.osgi_ops.specs.Replies.{is_accepted}
use Rattle.osgi_ops.specs.declared.op.Op.{Op}
use Rattle.osgi_ops.specs.declared.op.Op.TheVariants.{Register, Modify, Unregister, Get, GetOwn, EndMake, Unget}
use Rattle.osgi_ops.specs.declared.reply.Reply.{Reply}
use Rattle.osgi_ops.specs.declared.reply.Reply.TheVariants.{Held, Object, Flag}
use Rattle.osgi_ops.specs.declared.entry.Entry.{Entry}
use Rattle.osgi_ops.specs.declared.scope.Scope.{Scope}
use Rattle.osgi_ops.specs.declared.scope.Scope.TheVariants.{Singleton, Prototype}
use Rattle.osgi_ops.specs.declared.service.Service as declared

-- a service as its Register tells it, with the properties that were given, and the entries since
pub record Registered : Type 0 where
  pub service : ServiceId
  pub owner : BundleId
  pub classes : List (List ℕ)
  pub object : List ℕ
  pub scope : Scope
  pub given : List Attribute
  pub since : List Entry

-- what an operation registered, being an accepted Register: its id is one more than the number of services registered earlier
abbrev pub registered_by : ℕ → Op → Reply → List Entry → List Registered
registered_by earlier (Register owner classes object scope properties) reply since =
    if is_accepted reply
    then record { service = record { 0 = earlier + 1 }; owner = owner; classes = classes; object = object; scope = scope; given = properties; since = since } ∷ []
    else []
registered_by earlier _ reply since = []

-- what was registered behind so many earlier ones, in order
abbrev pub registered_after : ℕ → List Entry → List Registered
registered_after earlier [] = []
registered_after earlier (e ∷ since) =
    let here = registered_by earlier e.op e.reply since in here ++ registered_after (earlier + length here) since

-- all that was registered, in order
abbrev pub registered : List Entry → List Registered
registered history = registered_after 0 history

-- the operation takes the service out, being an accepted Unregister of it or a cleaning of its owner
abbrev pub takes_out : ServiceId → BundleId → Op → Reply → Bool
takes_out service owner (Unregister by taken) reply = is_accepted reply && (taken.0 == service.0)
takes_out service owner op reply = cleans owner op reply

-- live from its Register on, until it is taken out
abbrev pub is_live_service : Registered → Bool
is_live_service r = not (list_any (λ e. takes_out r.service r.owner e.op e.reply) r.since)

-- the live services, in order of their registration
abbrev pub live_services : List Entry → List Registered
live_services history = filter is_live_service (registered history)

abbrev pub is_service : ServiceId → Registered → Bool
is_service service r = service.0 == r.service.0

-- the live service of this id, if there is one
abbrev pub live_service_at : ServiceId → List Entry → Option Registered
live_service_at service history = find (is_service service) (live_services history)

-- ---- properties

-- the properties that an operation gives the service in place of those before, being an accepted Modify of it
abbrev pub given_by : ServiceId → Op → Reply → Option (List Attribute)
given_by service (Modify owner modified properties) reply = if is_accepted reply && (modified.0 == service.0) then Some properties else None
given_by service _ reply = None

-- the properties that were given last
abbrev pub given_last : Registered → List Attribute
given_last r = unwrap_or (latest (λ e. given_by r.service e.op e.reply) r.since) r.given

-- the service as it stands: the properties that were given last, and the framework's
abbrev pub service_now : Registered → declared.Service
service_now r = record {
  service = r.service;
  owner = r.owner;
  classes = r.classes;
  object = r.object;
  properties = with_framework (given_last r) r.classes r.scope r.service r.owner;
}

-- the live services as they stand
abbrev pub services : List Entry → List declared.Service
services history = map service_now (live_services history)

-- ---- uses

-- the operation is a Get of the service by the user, or a GetOwn, that answered an object which all share or which the user has already
abbrev pub gets_object : BundleId → ServiceId → Op → Reply → Bool
gets_object user service (Get by got) (Object text) = (by.0 == user.0) && (got.0 == service.0)
gets_object user service (Get by got) (Held object text) = (by.0 == user.0) && (got.0 == service.0)
gets_object user service (GetOwn by got) (Object text) = (by.0 == user.0) && (got.0 == service.0)
gets_object user service (GetOwn by got) (Held object text) = (by.0 == user.0) && (got.0 == service.0)
gets_object user service _ _ = false

-- it is an Unget of the service by the user that answered true
abbrev pub is_unget : BundleId → ServiceId → Op → Reply → Bool
is_unget user service (Unget by let_go) (Flag value) = value && (by.0 == user.0) && (let_go.0 == service.0)
is_unget user service _ _ = false

-- the entries since the bundle's last cleaning
abbrev pub since_cleaning : BundleId → List Entry → List Entry
since_cleaning bundle entries = carry (λ kept e. if cleans bundle e.op e.reply then [] else kept ++ e ∷ []) [] entries

-- how often the user got the service, by Gets and GetOwns that made nothing, since the service's Register and the user's last cleaning
abbrev pub gets : BundleId → Registered → ℕ
gets user r = count_by (λ e. gets_object user r.service e.op e.reply) (since_cleaning user r.since)

-- and how often it gave it back
abbrev pub ungets : BundleId → Registered → ℕ
ungets user r = count_by (λ e. is_unget user r.service e.op e.reply) (since_cleaning user r.since)

-- how often the user holds it by its Gets alone: the use that begins as an object is made is not counted, the Ungets are. So it says how
-- often the user holds the service only where nothing was made
abbrev pub uses_without_makes : BundleId → Registered → ℕ
uses_without_makes user r = gets user r - ungets user r

-- ---- uses by the objects that were made

-- an object of this scope is its user's own, where the user asked for such
abbrev pub is_own : Bool → Scope → Bool
is_own asked Prototype = asked
is_own asked _ = false

-- the scope of a service that was registered, live or not; what never was counts as one with one object for all
abbrev pub scope_of : ServiceId → List Entry → Scope
scope_of service history = option_map_or (λ r. r.scope) (find (is_service service) (registered history)) Singleton

-- what is made is the user's own
abbrev pub makes_own : List Entry → Making → Bool
makes_own history m = is_own m.asked_own (scope_of m.service history)

-- what an operation made, by the open brackets, being the end of a make that answered an object
abbrev pub made_of : Tag → List Bracket → Op → Reply → Option Making
made_of tag opened (EndMake failed) (Held object text) = if closes tag (EndMake failed) opened then making_of_innermost tag.caller opened else None
made_of tag opened _ _ = None

-- what an entry made after these
abbrev pub made : List Entry → Entry → Option Making
made before e = made_of e.tag (brackets before) e.op e.reply

-- a use of a service by a bundle
pub record Use : Type 0 where
  pub user : BundleId
  pub service : ServiceId

abbrev pub use_by : List Entry → Option Making → List Use
use_by before None = []
use_by before (Some m) = if makes_own before m then [] else record { user = m.user; service = m.service } ∷ []

abbrev pub without_user : Option BundleId → List Use → List Use
without_user None all = all
without_user (Some user) all = filter (λ (u : Use). not (user.0 == u.user.0)) all

abbrev pub with_made_use : List Entry → List Use → Entry → List Use
with_made_use before all e = without_user (cleaned_by e.op e.reply) all ++ use_by before (made before e)

-- the uses that began with the making of an object, since their user's last cleaning
abbrev pub made_uses : List Entry → List Use
made_uses history = carried with_made_use [] [] history

abbrev pub is_use_of : BundleId → ServiceId → Use → Bool
is_use_of user service u = (u.user.0 == user.0) && (u.service.0 == service.0)

-- how often the user holds the service, where so many of its uses began with a make
abbrev pub uses_with : ℕ → BundleId → Registered → ℕ
uses_with from_makes user r = (gets user r + from_makes) - ungets user r

-- how often the user holds the service; 0 where it is not live
abbrev pub uses : BundleId → ServiceId → List Entry → ℕ
uses user service history = option_map_or (uses_with (count_by (is_use_of user service) (made_uses history)) user) (live_service_at service history) 0
