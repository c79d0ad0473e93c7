-- The answer is false at the first that is violated.
use Rattle.std.proofs.Common.{Any, refl}
use Rattle.std.proofs.lemmas.Bool.{false≢true}
use Rattle.std.proofs.lemmas.List.{get_or_default}
use Rattle.osgi_space_sources.specs.computed.Clashes.{IsClash}
use Rattle.osgi_space_sources.specs.laws.Adding.{any-at, none-more, none-whole}
use Rattle.osgi_space_sources.proofs.uses.are_kept.Goals as goal

pub loop-pair-preserved : goal.loop-pair-preserved
loop-pair-preserved c =
    let pairs = c.args.pairs.now in
    let at = get_or_default pairs c.loop-pair.pair-index _ _ c.loop-pair-test.true in
    none-more (IsClash c.args.rows.now c.args.revision) pairs c.loop-pair.pair-index _ c.loop-pair-test.true at c.loop-pair.invariant
    (λ clash. let yes = c.in_ok-is_violated.ensures.violated.1 clash in let no = c.if-branch.false in cc)

pub returns-then-branch : goal.returns-then-branch
returns-then-branch c =
    let pairs = c.args.pairs.now in
    let at = get_or_default pairs c.loop-pair.pair-index _ _ c.loop-pair-test.true in
    let any : Any (IsClash c.args.rows.now c.args.revision) pairs =
    any-at (IsClash c.args.rows.now c.args.revision) pairs c.loop-pair.pair-index _ c.loop-pair-test.true at (c.in_ok-is_violated.ensures.violated.0 c.if-branch.true) in
    record { uses = (λ t. absurd (false≢true t), λ none. absurd (none any)) }

pub returns : goal.returns
returns c = record { uses = (λ t. none-whole (IsClash c.args.rows.now c.args.revision) c.args.pairs.now c.loop-pair.pair-index c.loop-pair-test.false c.loop-pair.invariant, λ none. refl) }
