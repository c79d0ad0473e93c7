-- The rows of a world.
use Rattle.std.specs.Prelude.{◌≡◌}
use Rattle.osgi_space_rows.specs.Worlds.{AreRowsIn, WorldLists}
use Rattle.osgi_world.specs.declared.world.World.{World}

-- the rows are those of the world's wirings
pub record AreRowsOfWorld (rows : WorldLists) (world : World) : Type 0 where
  pub known : rows.known ≡ world.known
  pub are : AreRowsIn rows world.wirings
