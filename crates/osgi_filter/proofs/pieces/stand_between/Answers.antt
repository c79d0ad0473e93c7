-- A piece at its first place leaves the others the most room.
use Rattle.std.proofs.Common.{◌+◌, List, ℕ, length, drop, arith, subst, ap, sym, ◌∙◌, Some, None}
use Rattle.std.proofs.lemmas.Bool.{false≢true}
use Rattle.memchr.specs.Find.{FindsNeedle}
use Rattle.osgi_filter.proofs.Between.{never, passed}
use Rattle.osgi_filter.proofs.pieces.stand_between.Goals as goal

pub returns-in_default : goal.returns-in_default
returns-in_default c =
    let nowhere = subst (λ (x : List ℕ). FindsNeedle c.loop-piece.rest.now x 0 None) c.bytes.ensures.bytes c.in_default.ensures in
    record { stand = (λ h. absurd (false≢true h), λ h. absurd (never c.args.pieces.now c.loop-piece.piece-index c.piece-item.result c.args.text.now c.loop-piece.rest.now c.loop-piece-test.true c.piece-item.is c.loop-piece.invariant.same nowhere h)) }

pub overflow_add-at : goal.overflow_add-at
overflow_add-at c =
    let found = subst (λ (x : List ℕ). FindsNeedle c.loop-piece.rest.now x 0 (Some c.in-Some.at)) (c.bytes.ensures.bytes ∙ sym c.bytes-in-loop-piece.ensures.bytes) c.in-Some.ensures in
    omega (arith, found.1.fits, c.loop-piece.invariant.within)

pub loop-piece-preserved : goal.loop-piece-preserved
loop-piece-preserved c =
    let found = subst (λ (x : List ℕ). FindsNeedle c.loop-piece.rest.now x 0 (Some c.in-Some.at)) c.bytes.ensures.bytes c.in-Some.ensures in
    record {
      same =
          passed c.args.pieces.now c.loop-piece.piece-index c.piece-item.result c.args.text.now c.loop-piece.rest.now c.loop-piece-test.true c.piece-item.is c.loop-piece.invariant.same c.in-Some.at c.split_at.result.1.now found
          (c.split_at.ensures.back ∙ ap (λ (x : List ℕ). drop (c.in-Some.at + length x) c.loop-piece.rest.now) c.bytes-in-loop-piece.ensures.bytes);
      within = omega (arith, c.split_at.ensures.back_len, c.loop-piece.invariant.within);
    }
