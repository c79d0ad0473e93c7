-- The first dot parts the text.
use Rattle.std.proofs.Common.{◌+◌, ℕ, ap, sym, ◌∙◌, take, drop, length, arith}
use Rattle.std.proofs.lemmas.List.{drop_all, take_all}
use Rattle.osgi_filter.proofs.Dots.{place_none, place_some}
use Rattle.osgi_filter.proofs.spelled.cut.Goals as goal

pub returns-in-Some-clause-front : goal.returns-in-Some-clause-front
returns-in-Some-clause-front c =
    c.split_at.ensures.front ∙ ap (λ (n : ℕ). take n c.args.bytes.now) (sym (place_some c.args.bytes.now c.in-Some.at c.in-Some.ensures))

pub returns-in-Some-clause-back : goal.returns-in-Some-clause-back
returns-in-Some-clause-back c =
    c.split_at-in-Some.ensures.back ∙ ap (λ (n : ℕ). drop (n + 1) c.args.bytes.now) (sym (place_some c.args.bytes.now c.in-Some.at c.in-Some.ensures))

pub returns-in-None-clause-front : goal.returns-in-None-clause-front
returns-in-None-clause-front c =
    let bytes = c.args.bytes.now in
    sym (ap (λ (n : ℕ). take n bytes) (place_none bytes c.in-None.ensures) ∙ take_all (length bytes) bytes (omega arith))

pub returns-in-None-clause-back : goal.returns-in-None-clause-back
returns-in-None-clause-back c =
    let bytes = c.args.bytes.now in
    sym (ap (λ (n : ℕ). drop (n + 1) bytes) (place_none bytes c.in-None.ensures) ∙ drop_all (length bytes + 1) bytes (omega arith))
