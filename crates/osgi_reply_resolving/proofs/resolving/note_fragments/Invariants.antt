-- The set, and what is noted of the fragments that are left, come to all.
use Rattle.std.proofs.Common.{◌≡◌, ℕ, drop}
use Rattle.std.specs.Prelude.{◌||◌}
use Rattle.std.specs.BTreeSet.{contains}
use Rattle.std.specs.List.{list_any}
use Rattle.std.specs.Ordering.{nat_cmp}
use Rattle.osgi_reply_resolving.specs.computed.Searched.{is_by}
use Rattle.osgi_reply_resolving.proofs.resolving.note_fragments.Given as goal

abbrev pub invariant-loop-fragment : goal.invariant-loop-fragment
invariant-loop-fragment l =
    (n : ℕ) → (contains nat_cmp l.numbers n || list_any (is_by l.wirings.world l.bundles n) (drop l.fragment-index l.fragments)) ≡ (contains nat_cmp l.initial.numbers n || list_any (is_by l.wirings.world l.bundles n) l.fragments)
