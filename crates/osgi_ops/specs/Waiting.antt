-- The bundles that wait until a class of theirs is loaded.
use Rattle.std.specs.Prelude.{◌==◌, not, Bool, if◌then◌else◌, List, [], ◌∷◌, Option, None, Some, filter}
use Rattle.std.specs.Option.{option_map_or}
use Rattle.osgi_base.specs.declared.ids.BundleId.{BundleId}
use Rattle.osgi_ops.specs.Along.{carried}
use Rattle.osgi_ops.specs.Bundles.{lists_bundle}
use Rattle.osgi_ops.specs.Levels.{Refresh, refresh}
use Rattle.osgi_ops.specs.Replies.{is_accepted}
use Rattle.osgi_ops.specs.declared.entry.Entry.{Entry}
use Rattle.osgi_ops.specs.declared.op.Op.{Op}
use Rattle.osgi_ops.specs.declared.op.Op.TheVariants as op
use Rattle.osgi_ops.specs.declared.reply.Reply.{Reply}
use Rattle.osgi_ops.specs.declared.reply.Reply.TheVariants as answer

-- what becomes of those that wait: a bundle begins to wait, or waits no longer, or none of a refresh does
pub data WaitChange : Type 0 where
  wait_begins : BundleId → WaitChange
  wait_ends : BundleId → WaitChange
  drops : WaitChange

-- what an operation with its reply says of them
abbrev pub waited_by : Op → Reply → Option WaitChange
waited_by (op.Await asked) (answer.Waiting bundle) = Some (wait_begins bundle)
waited_by (op.BeginStart asked transient) (answer.Begun bundle row) = Some (wait_ends bundle)
waited_by (op.BeginStop target transient) (answer.Begun bundle row) = Some (wait_ends bundle)
waited_by (op.BeginStop target transient) (answer.Idle bundle) = Some (wait_ends bundle)
waited_by (op.Update bundle location) reply = if is_accepted reply then Some (wait_ends bundle) else None
waited_by (op.Uninstall bundle) reply = if is_accepted reply then Some (wait_ends bundle) else None
waited_by op.DropWirings reply = if is_accepted reply then Some drops else None
waited_by _ _ = None

abbrev pub without : BundleId → List BundleId → List BundleId
without bundle list = filter (λ (b : BundleId). not (b.0 == bundle.0)) list

abbrev pub with_wait : List BundleId → Option WaitChange → List BundleId → List BundleId
with_wait members None list = list
with_wait members (Some (wait_begins bundle)) list = bundle ∷ without bundle list
with_wait members (Some (wait_ends bundle)) list = without bundle list
with_wait members (Some drops) list = filter (λ (b : BundleId). not (lists_bundle members b.0)) list

-- the bundles of a refresh, where there is one
abbrev pub members_of : Option Refresh → List BundleId
members_of at = option_map_or (λ (r : Refresh). r.members) at []

-- the bundles that wait
abbrev pub waiting : List Entry → List BundleId
waiting history = carried (λ before list e. with_wait (members_of (refresh before)) (waited_by e.op e.reply) list) [] [] history

abbrev pub is_waiting : BundleId → List Entry → Bool
is_waiting bundle history = lists_bundle (waiting history) bundle.0
