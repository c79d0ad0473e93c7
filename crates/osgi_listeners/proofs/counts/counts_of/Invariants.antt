-- The sights so far are counted.
use Rattle.std.proofs.Common.{◌≡◌, ◌==◌, ℕ, count_by, take}
use Rattle.std.specs.BTreeMap.{get}
use Rattle.std.specs.Map.{count_at}
use Rattle.std.specs.Ordering.{nat_cmp}
use Rattle.osgi_listeners.specs.declared.sight.Sight.{Sight}
use Rattle.osgi_listeners.proofs.counts.counts_of.Given as goal

abbrev pub invariant-loop-sight : goal.invariant-loop-sight
invariant-loop-sight l = (id : ℕ) → count_at (get nat_cmp l.counts) id ≡ count_by (λ (s : Sight). s.listener.0 == id) (take l.sight-index l.sights)
