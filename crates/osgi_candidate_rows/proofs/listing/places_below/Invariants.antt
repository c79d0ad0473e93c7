-- The places so far.
use Rattle.std.proofs.Common.{◌≡◌}
use Rattle.osgi_links.specs.Held.{count_up}
use Rattle.osgi_candidate_rows.proofs.listing.places_below.Given as goal

abbrev pub invariant-loop-place : goal.invariant-loop-place
invariant-loop-place l = l.list.items ≡ count_up 0 l.place
