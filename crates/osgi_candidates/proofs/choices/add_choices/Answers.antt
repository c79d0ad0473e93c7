-- One more requirement, all of them, and a revision that is not current.
use Rattle.std.proofs.Common.{◌≡◌, ◌<◌, [], length, ap, sym, subst, ◌∙◌, arith}
use Rattle.osgi_candidates.proofs.Posed.{count-at, first_all, first_more, rows_none, rows_past}
use Rattle.osgi_world.specs.declared.revision.Revision.{Revision}
use Rattle.osgi_candidates.proofs.choices.add_choices.Goals as goal

pub returns-then-not-known : goal.returns-then-not-known
returns-then-not-known c = record { added = λ fit at. rows_past c.args.offers.now c.args.known.now c.args.choices.now at c.if-not-known.true }

pub loop-index-init : goal.loop-index-init
loop-index-init c = λ fit at. rows_none c.args.offers.now [] c.args.choices.now (λ q i. absurd i)

pub loop-index-preserved : goal.loop-index-preserved
loop-index-preserved c = λ fit at.
    let w = c.args.offers.now in
    let k = c.args.known.now in
    let n = c.loop-index.index in
    let count = ap length (c.items-index-end.ensures.items ∙ ap (λ (v : Revision). v.requirements) c.get.ensures.value) in
    let within = subst (λ m. n < m) (count ∙ sym (count-at w k at)) c.loop-index-test.true in
    first_more w k.id n c.args.choices.now c.loop-index.choices c.add_choice.new.choices (c.loop-index.invariant fit at) (c.in_ok-add_choice.ensures.added fit within)

pub returns : goal.returns
returns c =
    let k = c.args.known.now in
    let count = ap length (c.items-index-end.ensures.items ∙ ap (λ (v : Revision). v.requirements) c.get.ensures.value) in
    let all : c.loop-index.index ≡ length k.revision.requirements = omega arith in
    record { added = λ fit at. first_all c.args.offers.now k c.loop-index.index c.args.choices.now c.loop-index.choices at all (c.loop-index.invariant fit at) }
