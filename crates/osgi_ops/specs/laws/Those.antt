-- Exactly the bundles of which something holds, said in other words.
use Rattle.std.proofs.Common.{◌↔◌, List, get_or}
use Rattle.osgi_base.specs.declared.ids.BundleId.{BundleId}
use Rattle.osgi_ops.specs.Closures.{IsClosure, IsMember, Rises}
use Rattle.osgi_ops.specs.Conditions.{AreThose}
use Rattle.osgi_world.specs.declared.world.World.{World}

pub those-said : (P Q : BundleId → Type 0) (Before : BundleId → BundleId → Type 0) (list : List BundleId) → ((b : BundleId) → P b ↔ Q b) → AreThose P Before list → AreThose Q Before list
those-said P Q Before list same are = record {
  only = λ k d less. (same (get_or list k d)).0 (are.only k d less);
  every = λ b q. are.every b ((same b).1 q);
  in_order = are.in_order;
}

pub closure-those : (world : World) (Asked : BundleId → Type 0) (list : List BundleId) → AreThose (IsMember world Asked) Rises list → IsClosure world Asked list
closure-those world Asked list are = record { only = are.only; every = are.every; rising = are.in_order }
