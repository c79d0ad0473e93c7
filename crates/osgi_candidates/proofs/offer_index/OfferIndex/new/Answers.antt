-- An index of nothing.
use Rattle.std.proofs.Common.{refl}
use Rattle.osgi_candidates.specs.declared.offer_index.OfferIndex.{OfferIndex}
use Rattle.osgi_candidates.proofs.Following.{follows_none}
use Rattle.osgi_candidates.proofs.offer_index.OfferIndex.new.Goals as goal

pub returns : goal.returns
returns c =
    let index : OfferIndex = record { known = 0; wirings = 0; names = c.new.result; held = c.new-2.result; in_use = c.new-3.result } in
    record { follows = follows_none index refl refl c.new.ensures.empty c.new-2.ensures.empty c.new-3.ensures.empty }
