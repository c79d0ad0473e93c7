-- The answer is true at the first that is disputed.
use Rattle.std.proofs.Common.{Any, refl}
use Rattle.std.proofs.lemmas.Bool.{false≢true}
use Rattle.std.proofs.lemmas.List.{get_or_default}
use Rattle.osgi_space_sources.specs.computed.Disputes.{IsDisputed}
use Rattle.osgi_space_sources.specs.declared.given.Given.{Given}
use Rattle.osgi_space_sources.specs.laws.Adding.{any-at, none-more, none-whole}
use Rattle.osgi_space_sources.proofs.uses.has_disputed.Goals as goal

pub returns-then-has : goal.returns-then-has
returns-then-has c =
    let P : Given → Type 0 = λ g. IsDisputed c.args.disputed.now g.package in
    let givens = c.args.givens.now in
    let at = get_or_default givens c.loop-given.given-index _ _ c.loop-given-test.true in
    let any : Any P givens = any-at P givens c.loop-given.given-index _ c.loop-given-test.true at (c.has.ensures.has.0 c.if-has.true) in
    record { disputed = (λ t. any, λ a. refl) }

pub loop-given-preserved : goal.loop-given-preserved
loop-given-preserved c =
    let givens = c.args.givens.now in
    let at = get_or_default givens c.loop-given.given-index _ _ c.loop-given-test.true in
    none-more (λ (g : Given). IsDisputed c.args.disputed.now g.package) givens c.loop-given.given-index _ c.loop-given-test.true at c.loop-given.invariant
    (λ t. let yes = c.has.ensures.has.1 t in let no = c.if-has.false in cc)

pub returns : goal.returns
returns c =
    let P : Given → Type 0 = λ g. IsDisputed c.args.disputed.now g.package in
    let none : ¬ Any P c.args.givens.now = none-whole P c.args.givens.now c.loop-given.given-index c.loop-given-test.false c.loop-given.invariant in
    record { disputed = (λ t. absurd (false≢true t), λ any. absurd (none any)) }
