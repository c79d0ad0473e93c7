-- The places so far.
use Rattle.std.proofs.Common.{◌≡◌, length, take}
use Rattle.osgi_filter.specs.computed.NameOrder.{places_of}
use Rattle.osgi_filter.proofs.name_order.count_up.Given as goal

abbrev pub invariant-loop-place : goal.invariant-loop-place
invariant-loop-place l = record { as_long : length l.places ≡ length l.fn.places; counted : take l.place l.places ≡ places_of l.place }
