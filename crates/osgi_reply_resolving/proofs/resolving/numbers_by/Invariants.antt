-- The set, and what is noted of the wirings that are left, come to all.
use Rattle.std.proofs.Common.{◌≡◌, ℕ, drop}
use Rattle.std.specs.Prelude.{◌||◌}
use Rattle.std.specs.BTreeSet.{contains}
use Rattle.std.specs.List.{list_any}
use Rattle.std.specs.Ordering.{nat_cmp}
use Rattle.osgi_reply_resolving.specs.computed.Searched.{is_by_wiring}
use Rattle.osgi_reply_resolving.proofs.resolving.numbers_by.Given as goal

abbrev pub invariant-loop-wiring : goal.invariant-loop-wiring
invariant-loop-wiring l =
    (n : ℕ) → (contains nat_cmp l.numbers n || list_any (is_by_wiring l.wirings.world l.bundles n) (drop l.wiring-index l.added)) ≡ list_any (is_by_wiring l.wirings.world l.bundles n) l.added
