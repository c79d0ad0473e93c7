-- The next member, and the first that is amiss.
use Rattle.std.proofs.Common.{sym, subst, get_or}
use Rattle.osgi_base.specs.declared.ids.RevisionId.{RevisionId}
use Rattle.osgi_space_rules.proofs.Grow.{at_in, each_done, each_step}
use Rattle.osgi_space_rules.proofs.Items.{no_revision, there}
use Rattle.osgi_space_rules.proofs.OneValue.{not_true}
use Rattle.osgi_resolver_hopeless.proofs.Answering.{no, yes}
use Rattle.osgi_resolver_hopeless.specs.computed.Stuck.{IsAmiss}
use Rattle.osgi_resolver_path.specs.Standing.{made}
use Rattle.osgi_world.specs.DueDecisions.{members}
use Rattle.osgi_world.specs.Lists.{In}
use Rattle.osgi_resolver_hopeless.proofs.stuck.is_one_amiss.Goals as goal

pub loop-member-init : goal.loop-member-init
loop-member-init c = λ P L m here. elim here [ ]

pub loop-member-preserved : goal.loop-member-preserved
loop-member-preserved c = λ P L.
    let list = c.members-member-items.result.now in
    let i = c.loop-member.member-index in
    let within = c.loop-member-test.true in
    let m = get_or list i no_revision in
    let at = there list i no_revision within in
    let is_member : In m (members P (made P c.args.path.now)) = subst (In m) (c.members-member-items.ensures.members P L) (at_in _ i m within at) in
    each_step (λ (r : RevisionId). ¬ IsAmiss P (made P c.args.path.now) r) list i m within at (c.loop-member.invariant P L) (λ s. not_true _ c.if-branch.false ((c.in_ok-is_amiss.ensures.amiss P L is_member).1 s))

pub returns-then-branch : goal.returns-then-branch
returns-then-branch c = record {
  amiss = λ P L.
      let list = c.members-member-items.result.now in
      let i = c.loop-member.member-index in
      let within = c.loop-member-test.true in
      let m = get_or list i no_revision in
      let at = there list i no_revision within in
      let is_member : In m (members P (made P c.args.path.now)) = subst (In m) (c.members-member-items.ensures.members P L) (at_in _ i m within at) in
      yes (m, is_member, (c.in_ok-is_amiss.ensures.amiss P L is_member).0 c.if-branch.true);
}

pub returns : goal.returns
returns c = record {
  amiss = λ P L.
      let list = c.members-member-items.result.now in
      let none = each_done (λ (r : RevisionId). ¬ IsAmiss P (made P c.args.path.now) r) list c.loop-member.member-index c.loop-member-test.false (c.loop-member.invariant P L) in
      no (λ some. none some.0 (subst (In some.0) (sym (c.members-member-items.ensures.members P L)) some.1) some.2);
}
