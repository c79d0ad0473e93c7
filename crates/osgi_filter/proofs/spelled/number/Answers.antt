-- Digits are parsed as their number.
use Rattle.std.proofs.Common.{◌∙◌}
use Rattle.osgi_filter.proofs.Dots.{no_part, parsed_part}
use Rattle.osgi_filter.proofs.spelled.number.Goals as goal

pub returns-in_default : goal.returns-in_default
returns-in_default c = record { number = λ n is few. no_part c.args.digits.now n c.in_default.ensures.cases.0 is }

pub returns : goal.returns
returns c =
    record { number = λ n is few. c.unwrap_or.ensures ∙ parsed_part c.args.digits.now n c.parse.result (rw c.in-Ok.ensures.cases.0 at c.parse.ensures.value.0) is few }
