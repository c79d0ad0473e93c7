-- The option that is next is one that was not given before.
use Rattle.osgi_program.proofs.WordLaws.{more_asked, more_only, no_more, twice}
use Rattle.osgi_program.proofs.words.Chosen.more.Goals as goal

pub returns-in_err-choice-clause-only : goal.returns-in_err-choice-clause-only
returns-in_err-choice-clause-only c = λ some bounds asks. absurd (no_more c.args.words.now c.args.self.budget c.args.self.handings bounds some c.in_err-choice.ensures.only asks)

pub returns-in_err-more-clause-only : goal.returns-in_err-more-clause-only
returns-in_err-more-clause-only c = λ some bounds asks.
    absurd (twice c.in_ok-choice.choice c.in_ok-choice.number c.args.words.now c.in_ok-choice.rest.now c.args.self.budget c.args.self.handings bounds c.in_err-more.ensures.once c.in_ok-choice.ensures.only some asks)

pub returns-clause-reads : goal.returns-clause-reads
returns-clause-reads c = λ bounds asks.
    more_asked c.in_ok-choice.choice c.in_ok-choice.number c.args.words.now c.in_ok-choice.rest.now c.args.self.budget c.args.self.handings bounds c.in_ok-more.ensures.once c.in_ok-choice.ensures.reads
    (rw (c.in_ok-more.ensures.budget, c.in_ok-more.ensures.handings) at asks)

pub returns-clause-only : goal.returns-clause-only
returns-clause-only c = λ some bounds asks.
    rw (c.in_ok-more.ensures.budget, c.in_ok-more.ensures.handings)
    (more_only c.in_ok-choice.choice c.in_ok-choice.number c.args.words.now c.in_ok-choice.rest.now c.args.self.budget c.args.self.handings bounds c.in_ok-more.ensures.once c.in_ok-choice.ensures.only some asks)
