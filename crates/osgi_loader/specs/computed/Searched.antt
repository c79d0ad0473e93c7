-- What is added to those that are searched.
use Rattle.std.specs.Prelude.{◌≡◌, ◌++◌, ℕ, List}
use Rattle.osgi_base.specs.declared.ids.RevisionId.{RevisionId}
use Rattle.osgi_ops.specs.Loading.{GivesFrom}
use Rattle.osgi_world.specs.declared.world.World.{World}

-- exactly the revisions from which the bundle gives p, rising, are added at the end
pub record AddsGiven (world : World) (p : List ℕ) (c : RevisionId) (old new : List RevisionId) : Type 0 where
  pub given : List RevisionId
  pub are : GivesFrom world p c given
  pub added : new ≡ old ++ given
