-- What is kept of a world between resolves belongs to a part of it, from which it has grown.
use Rattle.osgi_candidates.specs.Following.{CoversFirst}
use Rattle.osgi_resolver.specs.declared.index.Index.{Index}
use Rattle.osgi_space.specs.Kept.{FollowsRows}
use Rattle.osgi_world.specs.declared.world.World.{World}

-- the offers are those of a beginning of this world, and so are the rows, perhaps of another one
pub record FollowsWorld (index : Index) (world : World) : Type 0 where
  pub offers : CoversFirst index.offers world.known world.wirings
  pub rows : FollowsRows index.rows world.known world.wirings
