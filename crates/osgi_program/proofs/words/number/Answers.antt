-- A word that is no id is no number.
use Rattle.osgi_program.proofs.WordLaws.{as_id}
use Rattle.osgi_program.proofs.words.number.Goals as goal

pub returns-in_err-number-clause-only : goal.returns-in_err-number-clause-only
returns-in_err-number-clause-only c = λ number is. absurd (cc (c.in_err-number.ensures.only (record { 0 = number }) (as_id c.args.most c.args.word.now number is)))
