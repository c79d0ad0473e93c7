-- Rows that are kept while a world grows.
use Rattle.std.specs.Prelude.{◌≤◌, List, length, take}
use Rattle.osgi_world.specs.declared.wiring.Wiring.{Wiring}
use Rattle.osgi_world.specs.declared.world.Known.{Known}
use Rattle.osgi_space_rows.specs.Agree.{AreRowsOf}
use Rattle.osgi_space_rows.specs.AllKnown.{AreAllKnown}
use Rattle.osgi_space_rows.specs.Names.{name_numbered}
use Rattle.osgi_space_rows.specs.Worlds.{AreNumbered}
use Rattle.osgi_space_sources.specs.computed.Disputes.{AreNoted}
use Rattle.osgi_space.specs.declared.kept_rows.KeptRows.{KeptRows}

-- the rows are those of the first so many known revisions and wirings of the world, and each possible source in them is noted. The
-- requirements, capabilities and fragments of these wirings are of these revisions
pub record FollowsRows (kept : KeptRows) (K : List Known) (W : List Wiring) : Type 0 where
  pub known : kept.known ≤ length K
  pub wirings : kept.wirings ≤ length W
  pub all_known : AreAllKnown (take kept.known K) (take kept.wirings W)
  pub rows : AreRowsOf (take kept.known K) (take kept.wirings W) (name_numbered kept.named.names) kept.named.rows
  pub numbered : AreNumbered kept.named.names kept.named.rows
  pub noted : AreNoted kept.named.rows kept.possible
