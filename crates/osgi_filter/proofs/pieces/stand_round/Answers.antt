-- The text is its first piece, what is between, and its last piece.
use Rattle.std.proofs.Common.{List, ◌++◌, ℕ, ap, sym, ◌∙◌}
use Rattle.std.proofs.lemmas.Bool.{false≢true}
use Rattle.osgi_filter.proofs.Between.{end, start, no_end, no_front, round}
use Rattle.osgi_filter.proofs.pieces.stand_round.Goals as goal

pub returns-in_default : goal.returns-in_default
returns-in_default c =
    record { stand = (λ h. absurd (false≢true h), λ h. absurd (no_front c.args.first.now c.args.between.now c.args.last.now c.args.text.now c.in_default.ensures.cases h)) }

pub returns-in_default-strip_suffix : goal.returns-in_default-strip_suffix
returns-in_default-strip_suffix c =
    let begun = c.in-Some.ensures.cases in
    let whole = start c.args.first.now c.args.between.now c.args.last.now c.args.text.now begun.0 ∙ ap (λ (x : List ℕ). c.args.first.now ++ x) (sym begun.1) in
    record { stand = (λ h. absurd (false≢true h), λ h. absurd (no_end c.args.first.now c.args.between.now c.args.last.now c.args.text.now c.in-Some.remainder.now whole c.in_default-strip_suffix.ensures.cases h)) }

pub returns : goal.returns
returns c =
    let begun = c.in-Some.ensures.cases in
    let ended = c.in-Some-strip_suffix.ensures.cases in
    let whole = start c.args.first.now c.args.between.now c.args.last.now c.args.text.now begun.0 ∙ ap (λ (x : List ℕ). c.args.first.now ++ x) (sym begun.1) in
    let rest = end c.args.first.now c.args.between.now c.args.last.now c.args.text.now c.in-Some.remainder.now ended.0 ∙ ap (λ (x : List ℕ). x ++ c.args.last.now) (sym ended.1) in
    let same = round c.args.first.now c.args.between.now c.args.last.now c.args.text.now c.in-Some.remainder.now c.in-Some-strip_suffix.middle.now whole rest in
    record { stand = (λ h. same.0 (c.stand_between.ensures.stand.0 h), λ h. c.stand_between.ensures.stand.1 (same.1 h)) }
