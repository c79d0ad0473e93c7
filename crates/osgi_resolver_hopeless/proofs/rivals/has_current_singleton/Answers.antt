-- The next revision, and the first that is a current singleton.
use Rattle.std.proofs.Common.{get_or}
use Rattle.osgi_base.specs.declared.ids.RevisionId.{RevisionId}
use Rattle.osgi_space_rules.proofs.Grow.{at_in, each_done, each_step}
use Rattle.osgi_space_rules.proofs.Items.{no_revision, there}
use Rattle.osgi_space_rules.proofs.OneValue.{not_true}
use Rattle.osgi_resolver_hopeless.proofs.Answering.{no, yes}
use Rattle.osgi_resolver_hopeless.specs.computed.Rivals.{IsCurrentSingleton}
use Rattle.osgi_resolver_hopeless.proofs.rivals.has_current_singleton.Goals as goal

pub loop-revision-init : goal.loop-revision-init
loop-revision-init c = λ r here. elim here [ ]

pub loop-revision-preserved : goal.loop-revision-preserved
loop-revision-preserved c =
    let revisions = c.args.revisions.now in
    let i = c.loop-revision.revision-index in
    let within = c.loop-revision-test.true in
    let r = get_or revisions i no_revision in
    each_step (λ (t : RevisionId). ¬ IsCurrentSingleton c.args.known.now t) revisions i r within (there revisions i no_revision within) c.loop-revision.invariant
    (λ single. not_true _ c.if-is_current_singleton.false (c.is_current_singleton.ensures.singleton.1 single))

pub returns-then-is_current_singleton : goal.returns-then-is_current_singleton
returns-then-is_current_singleton c =
    let revisions = c.args.revisions.now in
    let i = c.loop-revision.revision-index in
    let within = c.loop-revision-test.true in
    let r = get_or revisions i no_revision in
    record { some = yes (r, at_in revisions i r within (there revisions i no_revision within), c.is_current_singleton.ensures.singleton.0 c.if-is_current_singleton.true) }

pub returns : goal.returns
returns c = record {
  some =
      let none = each_done (λ (t : RevisionId). ¬ IsCurrentSingleton c.args.known.now t) c.args.revisions.now c.loop-revision.revision-index c.loop-revision-test.false c.loop-revision.invariant in
      no (λ some. none some.0 some.1 some.2);
}
