-- One listener more has room for what is counted for it.
use Rattle.std.proofs.Common.{◌≡◌, ◌∷◌, [], ℕ, List, map, subst, sym, rules}
use Rattle.std.specs.Map.Iter.{deref_pair}
use Rattle.std.proofs.lemmas.List.{map-append}
use Rattle.std.proofs.lemmas.Map.Iter.{iter_end}
use Rattle.osgi_listeners.proofs.Counting.{AreReserved, counts_reserved, reserved_next, rising_still}
use Rattle.osgi_listeners.proofs.Loops.{roomier_then}
use Rattle.osgi_listeners.proofs.counts.reserve_counts.Goals as goal

pub reserve_at-requires : goal.reserve_at-requires
reserve_at-requires c = record { rising = rising_still _ _ c.loop-id.invariant.roomier c.requires.rising }

pub loop-id-preserved : goal.loop-id-preserved
loop-id-preserved c =
    record {
      roomier = roomier_then _ _ _ c.loop-id.invariant.roomier c.reserve_at.ensures.roomier;
      room =
          subst (λ (counts : List (ℕ × ℕ)). AreReserved counts c.reserve_at.new.slots) (sym (map-append deref_pair c.loop-id.yielded ((c.in-Some.id, c.in-Some.count) ∷ [])))
          (reserved_next (map deref_pair c.loop-id.yielded) (c.in-Some.id.now, c.in-Some.count.now) c.loop-id.slots c.reserve_at.new.slots c.reserve_at.ensures.roomier c.loop-id.invariant.room c.in_ok-reserve_at.ensures.room);
    }

pub returns-clause-room : goal.returns-clause-room
returns-clause-room c =
    let all : map deref_pair c.loop-id.yielded ≡ c.args.counts.now.entries = search (rules, iter_end) in
    counts_reserved c.args.counts.now.entries c.loop-id.slots (subst (λ (counts : List (ℕ × ℕ)). AreReserved counts c.loop-id.slots) all c.loop-id.invariant.room)
