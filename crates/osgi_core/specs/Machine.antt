-- The machine as contracts see it.
use Rattle.std.specs.Prelude.{◌≡◌, true, List}
use Rattle.osgi_base.specs.declared.ids.Tag.{Tag}
use Rattle.osgi_ops.specs.Brackets.{is_own_end}
use Rattle.osgi_legal.specs.Legal.{IsReplayed}
use Rattle.osgi_ops.specs.Moments.{Moment, Seen, sights_in}
use Rattle.osgi_ops.specs.Settings.{Setting}
use Rattle.osgi_ops.specs.declared.entry.Entry.{Entry}
use Rattle.osgi_ops.specs.declared.op.Op.{Op}
use Rattle.osgi_tables.specs.Asked.{is_hand_or_job_end}
use Rattle.osgi_world.specs.declared.world.World.{World}

-- what it runs under, which never changes, its history, and the world after it
pub record Machine : Type 0 where
  pub setting : Setting
  pub entries : List Entry
  pub world : World

-- what listeners saw in its history, as a telling of it says; each says the same
abbrev pub AreSightsOf : Machine → List Seen → Type 0
AreSightsOf machine sights = (t : IsReplayed machine.setting machine.entries machine.world) × (sights_in t.told ≡ sights)

-- the moment at which the tag's operation is asked of it, where listeners saw this
abbrev pub moment_of : Machine → Tag → List Seen → Moment
moment_of machine tag sights = record { setting = machine.setting; before = machine.entries; world = machine.world; sights = sights; tag = tag }

-- the operation is the end of a hand or of a job that the tag's line began, while that is its caller's innermost bracket
abbrev pub IsOwnHandOrJobEnd : Tag → Op → List Entry → Type 0
IsOwnHandOrJobEnd tag op history = (is_hand_or_job_end op ≡ true) × (is_own_end tag op history ≡ true)
