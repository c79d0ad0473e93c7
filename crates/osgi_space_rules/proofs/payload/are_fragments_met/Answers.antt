-- The next fragment, and the first that is not met.
use Rattle.std.proofs.Common.{get_or}
use Rattle.osgi_space_rules.specs.computed.Holding.{IsMet}
use Rattle.osgi_space_rules.proofs.Grow.{each_fails, each_step}
use Rattle.osgi_space_rules.proofs.Items.{no_revision, there}
use Rattle.osgi_space_rules.proofs.OneValue.{not_true}
use Rattle.osgi_space_rules.proofs.payload.are_fragments_met.Goals as goal

pub loop-fragment-preserved : goal.loop-fragment-preserved
loop-fragment-preserved c =
    let fragments = c.items-fragment-items.result.now in
    let i = c.loop-fragment.fragment-index in
    let within = c.loop-fragment-test.true in
    each_step (IsMet c.args.known.now c.args.index.now c.args.wiring.now.revision) fragments i (get_or fragments i no_revision) within (there fragments i no_revision within) c.loop-fragment.invariant (c.is_met.ensures.met.0 c.if-not-is_met.false)

pub returns-then-not-is_met : goal.returns-then-not-is_met
returns-then-not-is_met c =
    let fragments = c.items-fragment-items.result.now in
    let i = c.loop-fragment.fragment-index in
    let within = c.loop-fragment-test.true in
    rw (← c.items-fragment-items.ensures.items) (record {
      met = each_fails (IsMet c.args.known.now c.args.index.now c.args.wiring.now.revision) fragments i (get_or fragments i no_revision) within (there fragments i no_revision within) (λ met. not_true c.is_met.result c.if-not-is_met.true (c.is_met.ensures.met.1 met));
    })
