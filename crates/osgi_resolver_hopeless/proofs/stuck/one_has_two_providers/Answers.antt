-- The next member, and the first that has two providers.
use Rattle.std.proofs.Common.{sym, subst, get_or}
use Rattle.osgi_base.specs.declared.ids.RevisionId.{RevisionId}
use Rattle.osgi_space_rules.proofs.Grow.{at_in, each_done, each_step}
use Rattle.osgi_space_rules.proofs.Items.{no_revision, there}
use Rattle.osgi_space_rules.proofs.OneValue.{not_true}
use Rattle.osgi_resolver_hopeless.proofs.Answering.{no, yes}
use Rattle.osgi_resolver_hopeless.proofs.TwoProviders.{two-told}
use Rattle.osgi_resolver_hopeless.specs.computed.Stuck.{TwoProviders}
use Rattle.osgi_resolver_path.specs.Standing.{made}
use Rattle.osgi_world.specs.Lists.{In}
use Rattle.osgi_world.specs.Partial.{partial}
use Rattle.osgi_resolver_hopeless.proofs.stuck.one_has_two_providers.Goals as goal

pub loop-member-init : goal.loop-member-init
loop-member-init c = λ P L m here. elim here [ ]

pub loop-member-preserved : goal.loop-member-preserved
loop-member-preserved c = λ P L.
    let members = c.members-member-items.result.now in
    let i = c.loop-member.member-index in
    let within = c.loop-member-test.true in
    let m = get_or members i no_revision in
    let told = two-told c.args.path.now P L c.rows.result.now c.rows.ensures.known (c.rows.ensures.rows P L) _ (sym c.rows-in-loop-member.ensures.rows) m _ c.has_two_providers.ensures.two in
    each_step (λ (r : RevisionId). ¬ TwoProviders P.world.known (partial P (made P c.args.path.now)) r) members i m within (there members i no_revision within) (c.loop-member.invariant P L)
    (λ two. not_true _ c.if-has_two_providers.false (told.1 two))

pub returns-then-has_two_providers : goal.returns-then-has_two_providers
returns-then-has_two_providers c = record {
  two = λ P L.
      let members = c.members-member-items.result.now in
      let i = c.loop-member.member-index in
      let within = c.loop-member-test.true in
      let m = get_or members i no_revision in
      let told = two-told c.args.path.now P L c.rows.result.now c.rows.ensures.known (c.rows.ensures.rows P L) _ (sym c.rows-in-loop-member.ensures.rows) m _ c.has_two_providers.ensures.two in
      yes (m, subst (In m) (c.members-member-items.ensures.members P L) (at_in members i m within (there members i no_revision within)), told.0 c.if-has_two_providers.true);
}

pub returns : goal.returns
returns c = record {
  two = λ P L.
      let members = c.members-member-items.result.now in
      let none = each_done (λ (r : RevisionId). ¬ TwoProviders P.world.known (partial P (made P c.args.path.now)) r) members c.loop-member.member-index c.loop-member-test.false (c.loop-member.invariant P L) in
      no (λ some. none some.0 (subst (In some.0) (sym (c.members-member-items.ensures.members P L)) some.1) some.2);
}
