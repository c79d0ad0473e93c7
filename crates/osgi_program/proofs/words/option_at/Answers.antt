-- The words begin with one option at most.
use Rattle.osgi_program.proofs.WordLaws.{budget_only, handings_only, neither}
use Rattle.osgi_program.proofs.words.option_at.Goals as goal

pub returns-in-Some-clause-only : goal.returns-in-Some-clause-only
returns-in-Some-clause-only c = budget_only c.args.words.now c.in-Some.rest.now c.in-Some.number c.in-Some.ensures.reads c.in-Some.ensures.only

pub returns-in_err-number-in-None-clause-only : goal.returns-in_err-number-in-None-clause-only
returns-in_err-number-in-None-clause-only c = λ given rest is. absurd (neither c.args.words.now c.in-None.ensures.only c.in_err-number-in-None.ensures.only given rest is)

pub returns-in_ok-number-in-None-clause-only : goal.returns-in_ok-number-in-None-clause-only
returns-in_ok-number-in-None-clause-only c =
    handings_only c.args.words.now c.in_ok-number-in-None.rest.now c.in_ok-number-in-None.number c.in-None.ensures.only c.in_ok-number-in-None.ensures.only
