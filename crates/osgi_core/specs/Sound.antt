-- Histories of which every step is sound.
use Rattle.std.specs.Prelude.{◌≡◌, List, []}
use mathlib.Core.List.{IsPrefix}
use Rattle.osgi_base.specs.declared.ids.BundleId.{BundleId}
use Rattle.osgi_base.specs.declared.ids.ListenerId.{ListenerId}
use Rattle.osgi_ops.specs.Along.{AllAlong}
use Rattle.osgi_legal.specs.Legal.{IsReplayed}
use Rattle.osgi_ops.specs.Listening.{due, handed}
use Rattle.osgi_ops.specs.Moments.{Told, world_after}
use Rattle.osgi_ops.specs.Settings.{Setting}
use Rattle.osgi_ops.specs.Soundness.{AllSound}
use Rattle.osgi_ops.specs.declared.entry.Entry.{Entry}
use Rattle.osgi_ops.specs.declared.op.Op.TheVariants as op
use Rattle.osgi_ops.specs.declared.refusal.Refusal.TheVariants.{Unresolvable}
use Rattle.osgi_ops.specs.declared.refusal.Unmet.{Unmet}
use Rattle.osgi_ops.specs.declared.reply.Reply.TheVariants as answer
use Rattle.osgi_world.specs.Consistency.{ExtendsWorld}
use Rattle.osgi_world.specs.declared.world.World.{World}

-- where the entry refuses a bundle as unresolvable, no world extends the one before the entry consistently and with the bundle's
-- current revision in force
abbrev pub IsTrulyUnresolvable : List Told → Told → Type 0
IsTrulyUnresolvable before t =
    (bundle : BundleId) (cause : Unmet) → t.entry.op ≡ op.Resolve bundle → t.entry.reply ≡ answer.Refused (Unresolvable cause) → (world : World) → ¬ ExtendsWorld (world_after before) world bundle

-- after every step of what was told the wirings in force are consistent, and each bundle that was refused as unresolvable was so; and
-- what each listener was handed is a beginning of the events that it saw, since it was added, in order
pub record IsSoundTelling (told : List Told) : Type 0 where
  pub worlds : AllSound told
  pub unresolvable : AllAlong IsTrulyUnresolvable [] told
  pub handed : (listener : ListenerId) → IsPrefix (handed listener told) (due listener told)

-- the history replays from the empty framework and ends with this world, sound at every step
pub record IsSoundlyTold (setting : Setting) (history : List Entry) (world : World) : Type 0 where
  pub replayed : IsReplayed setting history world
  pub sound : IsSoundTelling replayed.told
