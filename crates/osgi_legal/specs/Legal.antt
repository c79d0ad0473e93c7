-- Which histories a framework can have, and what one call does.
use Rattle.std.specs.Prelude.{◌≡◌, ◌<◌, ◌≤◌, List, [], ◌∷◌, ◌++◌, length}
use Rattle.osgi_ops.specs.Along.{AllAlong}
use Rattle.osgi_ops.specs.Listening.{AreSights}
use Rattle.osgi_ops.specs.Moments.{entries_in, Moment, moment, Sight, sights_in, Told, world_after}
use Rattle.osgi_legal.specs.Operations.{IsReply}
use Rattle.osgi_ops.specs.Settings.{Setting}
use Rattle.osgi_ops.specs.Worlds.{Leaves}
use Rattle.osgi_ops.specs.declared.asked.Asked.{Asked}
use Rattle.osgi_ops.specs.declared.entry.Entry.{Entry}
use Rattle.osgi_ops.specs.declared.op.Op.{Op}
use Rattle.osgi_ops.specs.declared.refusal.Refusal.TheVariants.{HistoryFull}
use Rattle.osgi_ops.specs.declared.reply.Reply.{Reply}
use Rattle.osgi_ops.specs.declared.reply.Reply.TheVariants.{Refused}
use Rattle.osgi_world.specs.declared.world.World.{World}

abbrev pub entry_of : Moment → Op → Reply → Entry
entry_of now op reply = record { tag = now.tag; op = op; reply = reply }

-- an operation at a moment: there is room for its entry, it has the reply that it is due, it leaves a world that it may leave, and these
-- are what the listeners see of it
pub record IsAllowedNow (now : Moment) (op : Op) (reply : Reply) (world : World) (sights : List Sight) : Type 0 where
  pub room : length now.before < now.setting.bounds.entries
  pub replied : IsReply now op reply
  pub left : Leaves now op reply world
  pub seen : AreSights now.before now.world world (entry_of now op reply) sights

-- an entry with the world after it and what is seen of it, after what was told before
abbrev pub IsAllowed : Setting → List Told → Told → Type 0
IsAllowed setting before t = IsAllowedNow (moment setting before t.entry.tag) t.entry.op t.entry.reply t.world t.sights

abbrev pub AreAllowed : Setting → List Told → Type 0
AreAllowed setting told = AllAlong (IsAllowed setting) [] told

-- the history replays from the empty framework, and then this is the world: some telling of it, each entry with the world after it, is
-- allowed step by step and ends with that world
pub record IsReplayed (setting : Setting) (history : List Entry) (world : World) : Type 0 where
  pub told : List Told
  pub tells : entries_in told ≡ history
  pub ends : world_after told ≡ world
  pub allowed : AreAllowed setting told

-- a history that replays from the empty framework
abbrev pub Legal : Setting → List Entry → Type 0
Legal setting history = (world : World) × IsReplayed setting history world

-- the moment is one of a history that replays: some telling of it has its entries, ends with its world, and was seen so
pub record IsTold (now : Moment) : Type 0 where
  pub told : List Told
  pub tells : entries_in told ≡ now.before
  pub ends : world_after told ≡ now.world
  pub seen : sights_in told ≡ now.sights
  pub allowed : AreAllowed now.setting told

-- the moment is one at which this is asked for: who asks is the moment's, and the moment is one of a history that replays
pub record IsAskedAt (asked : Asked) (now : Moment) : Type 0 where
  pub tag : now.tag ≡ asked.tag
  pub told : IsTold now

-- one call, at a moment, with the history and the world after it. A full history refuses whatever is asked, and nothing changes; any
-- other gains the call's own entry, an allowed one
pub record IsStep (now : Moment) (after : List Entry) (world : World) (op : Op) (reply : Reply) : Type 0 where
  pub full : now.setting.bounds.entries ≤ length now.before → (reply ≡ Refused HistoryFull) × (after ≡ now.before) × (world ≡ now.world)
  pub room : length now.before < now.setting.bounds.entries →
      (sights : List Sight) × IsAllowedNow now op reply world sights × (after ≡ now.before ++ entry_of now op reply ∷ [])
