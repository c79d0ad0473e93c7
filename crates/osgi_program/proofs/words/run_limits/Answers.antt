-- The words ask for a run exactly where the first is `run` and the others are its options.
use Rattle.std.proofs.Common.{◌≡◌, ◌∷◌, rules}
use Rattle.std.specs.Prelude.{codes}
use Rattle.osgi_program.proofs.WordLaws.{run_asked, run_only}
use Rattle.osgi_program.proofs.words.run_limits.Goals as goal

pub returns-then-eq-clause-reads : goal.returns-then-eq-clause-reads
returns-then-eq-clause-reads c =
    let is : c.args.words.now ≡ codes "run" ∷ c.in_ok-first.rest.now = search rules in
    run_asked c.args.words.now c.in_ok-first.rest.now c.options.result is c.options.ensures.reads

pub returns-then-eq-clause-only : goal.returns-then-eq-clause-only
returns-then-eq-clause-only c =
    let is : c.args.words.now ≡ codes "run" ∷ c.in_ok-first.rest.now = search rules in
    run_only c.args.words.now c.in_ok-first.rest.now c.options.result is c.options.ensures.only
