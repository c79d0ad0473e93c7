-- Where no word is left, the options that were given are all there are.
use Rattle.std.proofs.Common.{ℕ, List, sym, ◌∙◌, subst}
use Rattle.std.specs.Prelude.{Option}
use Rattle.osgi_ops.specs.Settings.{Bounds, bounds_of}
use Rattle.osgi_program.specs.computed.Options.{AsksMore}
use Rattle.osgi_program.proofs.WordLaws.{all_read, all_read_only, empty_words, limits_of, some_words}
use Rattle.osgi_program.proofs.words.options.Goals as goal

pub returns-in_err-next-clause-only : goal.returns-in_err-next-clause-only
returns-in_err-next-clause-only c = λ bounds asks.
    absurd (c.in_err-next.ensures.only (some_words c.loop-rest.rest.now c.loop-rest-test.ensures) bounds (c.loop-rest.invariant.only bounds asks))

pub returns-clause-reads : goal.returns-clause-reads
returns-clause-reads c =
    let budget : Option ℕ = c.loop-rest.chosen.budget in
    let handings : Option ℕ = c.loop-rest.chosen.handings in
    let none = empty_words c.loop-rest.rest.now c.loop-rest-test.ensures in
    let here : AsksMore budget handings c.loop-rest.rest.now (limits_of budget handings)
    = subst (λ (w : List (List ℕ)). AsksMore budget handings w (limits_of budget handings)) (sym none) (all_read budget handings) in
    c.loop-rest.invariant.reads (bounds_of c.limits.result) (subst (λ (b : Bounds). AsksMore budget handings c.loop-rest.rest.now b) (sym c.limits.ensures.bounds) here)

pub returns-clause-only : goal.returns-clause-only
returns-clause-only c = λ bounds asks.
    c.limits.ensures.bounds ∙ all_read_only c.loop-rest.rest.now c.loop-rest.chosen.budget c.loop-rest.chosen.handings bounds (empty_words c.loop-rest.rest.now c.loop-rest-test.ensures)
    (c.loop-rest.invariant.only bounds asks)
