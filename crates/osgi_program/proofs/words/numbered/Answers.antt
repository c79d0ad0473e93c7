-- An option has its number.
use Rattle.std.proofs.Common.{ℕ, List, sym, subst}
use Rattle.osgi_program.specs.Words.{IsNumberUpTo}
use Rattle.osgi_program.proofs.words.numbered.Goals as goal

pub returns-in_err-word-clause-only : goal.returns-in_err-word-clause-only
returns-in_err-word-clause-only c = λ number rest gives. absurd (c.in_err-word.ensures.only gives.0 rest gives.1)

pub returns-in_err-number-clause-only : goal.returns-in_err-number-clause-only
returns-in_err-number-clause-only c = λ number rest gives.
    (let same = c.in_ok-word.ensures.only gives.0 rest gives.1 in
    absurd (cc (c.in_err-number.ensures.only number (subst (λ (w : List ℕ). IsNumberUpTo c.args.most w number) (sym same.0) gives.2))))

pub returns-clause-only : goal.returns-clause-only
returns-clause-only c = λ number rest gives.
    (let same = c.in_ok-word.ensures.only gives.0 rest gives.1 in
    (cc (c.in_ok-number.ensures.only number (subst (λ (w : List ℕ). IsNumberUpTo c.args.most w number) (sym same.0) gives.2)), same.1))
