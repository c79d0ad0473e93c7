-- The next fragment, and the first that does not match.
use Rattle.std.proofs.Common.{get_or, sym, ◌∙◌, IsTrue}
use Rattle.osgi_space_rules.proofs.Grow.{each_fails, each_step}
use Rattle.osgi_space_rules.proofs.Items.{no_revision, there}
use Rattle.osgi_space_rules.proofs.OneValue.{not_true}
use Rattle.osgi_world.specs.Lookups.{is_host_of}
use Rattle.osgi_space_rules.proofs.payload.do_fragments_match.Goals as goal

pub loop-fragment-preserved : goal.loop-fragment-preserved
loop-fragment-preserved c =
    let fragments = c.items-fragment-items.result.now in
    let i = c.loop-fragment.fragment-index in
    let within = c.loop-fragment-test.true in
    each_step (λ f. IsTrue (is_host_of c.args.known.now f c.args.wiring.now.revision)) fragments i (get_or fragments i no_revision) within (there fragments i no_revision within) c.loop-fragment.invariant (sym c.is_host_of.ensures.host ∙ c.if-not-is_host_of.false)

pub returns-then-not-is_host_of : goal.returns-then-not-is_host_of
returns-then-not-is_host_of c =
    let fragments = c.items-fragment-items.result.now in
    let i = c.loop-fragment.fragment-index in
    let within = c.loop-fragment-test.true in
    rw (← c.items-fragment-items.ensures.items) (record {
      matching = each_fails (λ f. IsTrue (is_host_of c.args.known.now f c.args.wiring.now.revision)) fragments i (get_or fragments i no_revision) within (there fragments i no_revision within) (not_true _ (sym c.is_host_of.ensures.host ∙ c.if-not-is_host_of.true));
    })
