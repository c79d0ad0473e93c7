-- The next capability, and the first that is not refused.
use Rattle.std.proofs.lemmas.List.{get_or_default}
use Rattle.osgi_space_rules.proofs.Grow.{each_all, each_done, each_fails, each_step}
use Rattle.osgi_space_rules.proofs.OneValue.{not_true}
use Rattle.osgi_resolver_hopeless.specs.computed.Stuck.{IsRefused}
use Rattle.osgi_resolver_path.specs.Standing.{made}
use Rattle.osgi_resolver_hopeless.proofs.unmet.are_refused.Goals as goal

pub loop-capability-init : goal.loop-capability-init
loop-capability-init c = λ P L capability here. elim here [ ]

pub loop-capability-preserved : goal.loop-capability-preserved
loop-capability-preserved c = λ P L.
    let candidates = c.args.candidates.now in
    let i = c.loop-capability.capability-index in
    let within = c.loop-capability-test.true in
    each_step (IsRefused (made P c.args.path.now) c.args.member c.args.requirement) candidates i _ within (get_or_default candidates i _ _ within) (c.loop-capability.invariant P L) ((c.is_refused.ensures.refused P L).0 c.if-not-is_refused.false)

pub returns-then-not-is_refused : goal.returns-then-not-is_refused
returns-then-not-is_refused c = record {
  refused = λ P L.
      let candidates = c.args.candidates.now in
      let i = c.loop-capability.capability-index in
      let within = c.loop-capability-test.true in
      each_fails (IsRefused (made P c.args.path.now) c.args.member c.args.requirement) candidates i _ within (get_or_default candidates i _ _ within) (λ refused. not_true _ c.if-not-is_refused.true ((c.is_refused.ensures.refused P L).1 refused));
}

pub returns : goal.returns
returns c = record {
  refused = λ P L.
      let candidates = c.args.candidates.now in
      let Q = IsRefused (made P c.args.path.now) c.args.member c.args.requirement in
      each_all Q candidates (each_done Q candidates c.loop-capability.capability-index c.loop-capability-test.false (c.loop-capability.invariant P L));
}
