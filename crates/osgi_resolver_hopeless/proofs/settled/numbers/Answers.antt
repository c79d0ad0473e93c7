-- One number more.
use Rattle.std.proofs.Common.{◌+◌, ℕ, List, get_or, sym, subst, take}
use Rattle.osgi_space_rules.proofs.Items.{no_revision, there}
use Rattle.osgi_resolver_hopeless.proofs.Gathering.{Numbers, all-numbers, no-numbers, one-number}
use Rattle.osgi_resolver_hopeless.proofs.settled.numbers.Goals as goal

pub loop-revision-init : goal.loop-revision-init
loop-revision-init c = no-numbers c.in_ok-numbers.numbers.items c.in_ok-numbers.ensures.items c.args.revisions.now

pub loop-revision-preserved : goal.loop-revision-preserved
loop-revision-preserved c =
    let revisions = c.args.revisions.now in
    let i = c.loop-revision.revision-index in
    let within = c.loop-revision-test.true in
    let x = get_or revisions i no_revision in
    subst (λ (list : List ℕ). Numbers list (take (i + 1) revisions)) (sym c.in_ok-push.ensures.items)
    (one-number c.loop-revision.numbers.items revisions i x within (there revisions i no_revision within) c.loop-revision.invariant)

pub returns : goal.returns
returns c = record { numbers = all-numbers c.loop-revision.numbers.items c.args.revisions.now c.loop-revision.revision-index c.loop-revision-test.false c.loop-revision.invariant }
