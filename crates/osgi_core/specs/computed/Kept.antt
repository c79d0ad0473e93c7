-- What is true of the machine's fields between calls.
use Rattle.std.specs.Prelude.{List}
use Rattle.osgi_base.specs.declared.ids.Tag.{Tag}
use Rattle.osgi_core.specs.Sound.{IsSoundlyTold}
use Rattle.osgi_ops.specs.Moments.{sights_in}
use Rattle.osgi_ops.specs.Settings.{Setting}
use Rattle.osgi_ops.specs.declared.entry.Entry.{Entry}
use Rattle.osgi_tables.specs.Replied.{StandsFor}
use Rattle.osgi_tables.specs.declared.tables.Tables.{Tables}

-- its history replays to the world that it has, sound at every step, and its tables stand for that history with what listeners saw in it,
-- whoever asks next
pub record IsKept (setting : Setting) (history : List Entry) (tables : Tables) : Type 0 where
  pub told : IsSoundlyTold setting history tables.wirings.world
  pub stands : (tag : Tag) → StandsFor (record { setting = setting; before = history; world = tables.wirings.world; sights = sights_in told.replayed.told; tag = tag }) tables
