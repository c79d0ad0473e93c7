-- Pieces stand in a text just where the test says so.
use Rattle.std.proofs.Common.{◌≡◌}
use Rattle.std.proofs.lemmas.Bool.Decides.{same_from_decides}
use Rattle.osgi_model.specs.computed.MatchReader.{stand}
use Rattle.osgi_model.specs.laws.Standing.{stand_decides}
use Rattle.osgi_filter.proofs.passing.text_passes.Goals as goal

pub returns-in-Pieces : goal.returns-in-Pieces
returns-in-Pieces c =
    let computed : c.stand.result ≡ stand c.items.result.now c.bytes-in-Pieces.result.now = same_from_decides _ _ c.stand.ensures.stand (stand_decides c.items.result.now c.bytes-in-Pieces.result.now) in
    record { passes = rw (c.in-Pieces.is) (rw (← c.items.ensures.items, ← c.bytes-in-Pieces.ensures.bytes) computed) }
