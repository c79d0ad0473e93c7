-- The pieces by the reader on lists.
use Rattle.std.proofs.Common.{◌≡◌, ◌-◌, length, drop, get_or, ◌∙◌, arith, false, true, [], rules, length-take, length-drop}
use Rattle.std.proofs.lemmas.List.{take_rest}
use Rattle.osgi_filter.specs.laws.ValueReading.{pieces_start, pieces_go, piece_less}
use Rattle.osgi_filter.proofs.values.pieces_at.Goals as goal

pub loop-pieces-init : goal.loop-pieces-init
loop-pieces-init c = rw (c.in_ok-push.ensures.added, c.in_ok-pieces.ensures.empty) (pieces_start c.args.first c.args.bytes.now)

pub loop-pieces-smaller : goal.loop-pieces-smaller
loop-pieces-smaller c =
    let less = piece_less true false c.loop-pieces.rest.now [] c.in_ok-piece.piece c.in_ok-piece.remainder.now c.in_ok-piece.ensures.piece in
    omega (arith, less, c.in-42.len_at_least, length-take (length c.in_ok-piece.remainder.now - 1) (drop 1 c.in_ok-piece.remainder.now), length-drop 1 c.in_ok-piece.remainder.now)

pub loop-pieces-preserved : goal.loop-pieces-preserved
loop-pieces-preserved c =
    let star : get_or c.in_ok-piece.remainder.now 0 0 ≡ 42 = search rules in
    rw (c.in_ok-push-2.ensures.added, take_rest c.in_ok-piece.remainder.now 1)
    (pieces_go c.loop-pieces.pieces c.loop-pieces.rest.now c.in_ok-piece.piece c.in_ok-piece.remainder.now c.in-42.len_at_least star c.in_ok-piece.ensures.piece ∙ c.loop-pieces.invariant)
