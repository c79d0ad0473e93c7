-- The answer is true at the first that is not among the outer ones.
use Rattle.std.proofs.Common.{refl, Any, Contains}
use Rattle.std.proofs.lemmas.Bool.{false≢true}
use Rattle.std.proofs.lemmas.List.{get_or_default}
use Rattle.osgi_space_sources.specs.declared.given.Given.{Given}
use Rattle.osgi_space_sources.specs.laws.Adding.{any-at, any-in, any-of, none-more, none-whole}
use Rattle.osgi_space_sources.proofs.clash.lacks.Goals as goal

pub returns-then-not-has : goal.returns-then-not-has
returns-then-not-has c =
    let P : Given → Type 0 = λ g. ¬ Contains c.args.outer.now g in
    let inner = c.args.inner.now in
    let at = get_or_default inner c.loop-given.given-index _ _ c.loop-given-test.true in
    let any : Any P inner = any-at P inner c.loop-given.given-index _ c.loop-given-test.true at
    (λ there. let yes = c.has.ensures.has.1 ((c.in_ok-found.ensures.same _).1 there) in let no = c.if-not-has.true in cc) in
    record { lacks = (λ t. (any.1, any-in P inner any, any.4), λ l. refl) }

pub loop-given-preserved : goal.loop-given-preserved
loop-given-preserved c =
    let inner = c.args.inner.now in
    let at = get_or_default inner c.loop-given.given-index _ _ c.loop-given-test.true in
    none-more (λ (g : Given). ¬ Contains c.args.outer.now g) inner c.loop-given.given-index _ c.loop-given-test.true at c.loop-given.invariant
    (λ missing. missing ((c.in_ok-found.ensures.same _).0 (c.has.ensures.has.0 c.if-not-has.false)))

pub returns : goal.returns
returns c =
    let P : Given → Type 0 = λ g. ¬ Contains c.args.outer.now g in
    let none : ¬ Any P c.args.inner.now = none-whole P c.args.inner.now c.loop-given.given-index c.loop-given-test.false c.loop-given.invariant in
    record { lacks = (λ t. absurd (false≢true t), λ l. absurd (none (any-of P c.args.inner.now l.0 l.1 l.2))) }
