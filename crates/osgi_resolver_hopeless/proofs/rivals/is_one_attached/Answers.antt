-- The next member, and the first with such a fragment.
use Rattle.std.proofs.Common.{List, get_or, subst, sym, ◌∙◌, refl}
use Rattle.osgi_base.specs.declared.ids.RevisionId.{RevisionId}
use Rattle.osgi_space_rules.proofs.Grow.{at_in, each_done, each_step}
use Rattle.osgi_space_rules.proofs.Items.{no_revision, there}
use Rattle.osgi_space_rules.proofs.OneValue.{not_true}
use Rattle.osgi_resolver_hopeless.specs.computed.Rivals.{IsCurrentSingleton}
use Rattle.osgi_resolver_path.specs.Standing.{made}
use Rattle.osgi_world.specs.DueDecisions.{fragments_of}
use Rattle.osgi_world.specs.Lists.{In}
use Rattle.osgi_world.specs.declared.world.Known.{Known}
use Rattle.osgi_resolver_hopeless.proofs.rivals.is_one_attached.Goals as goal

pub loop-host-init : goal.loop-host-init
loop-host-init c = λ P L all m here. elim here [ ]

pub loop-host-preserved : goal.loop-host-preserved
loop-host-preserved c = λ P L all.
    let members = c.args.hosts.now in
    let i = c.loop-host.host-index in
    let within = c.loop-host-test.true in
    let m = get_or members i no_revision in
    let at = there members i no_revision within in
    let are = c.in_ok-fragments.ensures.fragments P L (all m (at_in members i m within at)) in
    let K = c.args.path.now.world.known in
    each_step (λ (t : RevisionId). (r : RevisionId) → In r (fragments_of P (made P c.args.path.now) t) → ¬ IsCurrentSingleton K r) members i m within at (c.loop-host.invariant P L all)
    (λ r j single. not_true _ c.if-has_current_singleton.false (c.has_current_singleton.ensures.some.1 (
      r,
      subst (λ (xs : List RevisionId). In r xs) (sym are ∙ sym c.as_slice.ensures.value) j,
      subst (λ (known : List Known). IsCurrentSingleton known r) (sym c.known_at.ensures.known) single,
    )))

pub returns-then-has_current_singleton : goal.returns-then-has_current_singleton
returns-then-has_current_singleton c = record { some = λ P L all m r i j single. refl }

pub returns : goal.returns
returns c = record {
  some = λ P L all m r i j single.
      let K = c.args.path.now.world.known in
      absurd (each_done (λ (t : RevisionId). (r : RevisionId) → In r (fragments_of P (made P c.args.path.now) t) → ¬ IsCurrentSingleton K r) c.args.hosts.now c.loop-host.host-index c.loop-host-test.false (c.loop-host.invariant P L all) m i r j single);
}
