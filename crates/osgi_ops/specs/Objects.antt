-- The objects that factories made and that their users hold, read off a history.
use Rattle.std.specs.Prelude.{ℕ, ◌==◌, ◌+◌, ◌&&◌, ◌||◌, nat_lt, not, Bool, false, List, [], ◌∷◌, ◌++◌, Option, None, Some, filter, find, is_some}
use Rattle.std.specs.List.{list_any}
use Rattle.osgi_base.specs.declared.ids.BundleId.{BundleId}
use Rattle.osgi_base.specs.declared.ids.ServiceId.{ServiceId}
use Rattle.osgi_ops.specs.Along.{carried}
use Rattle.osgi_ops.specs.Brackets.{Making}
use Rattle.osgi_ops.specs.Cleaning.{cleans}
use Rattle.osgi_ops.specs.Makes.{made_count}
use Rattle.osgi_ops.specs.Services.{live_service_at, made, makes_own, uses}
use Rattle.osgi_ops.specs.declared.entry.Entry.{Entry}
use Rattle.osgi_ops.specs.declared.object_id.ObjectId.{ObjectId}
use Rattle.osgi_ops.specs.declared.op.Op.{Op}
use Rattle.osgi_ops.specs.declared.op.Op.TheVariants.{UngetOwn}
use Rattle.osgi_ops.specs.declared.reply.Reply.{Reply}
use Rattle.osgi_ops.specs.declared.reply.Reply.TheVariants.{Done, Held}

-- an object of a service that a user holds. The user has it for each use of the service, or it is the user's own
pub record HeldObject : Type 0 where
  pub object : ObjectId
  pub service : ServiceId
  pub user : BundleId
  pub own : Bool
  pub text : List ℕ

abbrev pub text_in : Reply → List ℕ
text_in (Held object text) = text
text_in _ = []

-- what an entry made after these, if it made one; its number is one more than that of those made before
abbrev pub object_by : List Entry → Entry → Option Making → List HeldObject
object_by before e None = []
object_by before e (Some m) = record { object = record { 0 = made_count before + 1 }; service = m.service; user = m.user; own = makes_own before m; text = text_in e.reply } ∷ []

-- the operation gave this object of its user's own back
abbrev pub is_given_back : HeldObject → Op → Reply → Bool
is_given_back o (UngetOwn user service object) Done = (user.0 == o.user.0) && (service.0 == o.service.0) && (object.0 == o.object.0) && o.own
is_given_back o _ _ = false

-- an object stays, after these entries, the last of which is e: its service is live, its user was not cleaned, and the user has a use of the
-- service, or did not give back what is its own
abbrev pub is_still_held : List Entry → Entry → HeldObject → Bool
is_still_held after e o =
    is_some (live_service_at o.service after) && not (cleans o.user e.op e.reply) && not (is_given_back o e.op e.reply) && (o.own || nat_lt 0 (uses o.user o.service after))

abbrev pub with_object : List Entry → List HeldObject → Entry → List HeldObject
with_object before held e = filter (is_still_held (before ++ e ∷ []) e) (held ++ object_by before e (made before e))

-- the objects that are held, in the order in which they were made
abbrev pub objects : List Entry → List HeldObject
objects history = carried with_object [] [] history

abbrev pub is_bundle_object : BundleId → ServiceId → HeldObject → Bool
is_bundle_object user service o = not o.own && (o.user.0 == user.0) && (o.service.0 == service.0)

-- the object that a user has for each of its uses of a service
abbrev pub bundle_object : BundleId → ServiceId → List Entry → Option HeldObject
bundle_object user service history = find (is_bundle_object user service) (objects history)

-- the user holds this object of the service as its own
abbrev pub holds_own : BundleId → ServiceId → ObjectId → List Entry → Bool
holds_own user service object history =
    list_any (λ (o : HeldObject). o.own && (o.user.0 == user.0) && (o.service.0 == service.0) && (o.object.0 == object.0)) (objects history)
