-- By the kind of the decision.
use Rattle.std.proofs.Common.{◌≡◌, ◌∙◌, ap, refl, sym, subst}
use Rattle.osgi_base.specs.declared.ids.RevisionId.{RevisionId}
use Rattle.osgi_resolver_hopeless.proofs.Answering.{no}
use Rattle.osgi_resolver_hopeless.proofs.Latest.{attach-by, choose-by, host-is, last-attached, last-picked, other-by, pick-by, pick-is}
use Rattle.osgi_resolver_path.specs.Standing.{made}
use Rattle.osgi_resolver_decisions.specs.DecisionOf.{decision_of}
use Rattle.osgi_space_rows.specs.Agree.{id}
use Rattle.osgi_world.specs.Decisions.{host}
use Rattle.osgi_world.specs.DueDecisions.{fragments_of, payload}
use Rattle.osgi_world.specs.Lists.{In}
use Rattle.osgi_resolver_hopeless.proofs.stuck.is_amiss_by.Goals as goal

pub returns-then-host-member : goal.returns-then-host-member
returns-then-host-member c = record {
  amiss = λ P L is_member x. no (other-by P (made P c.args.path.now) c.args.member c.args.last.decision c.args.last.value (decision_of c.args.last.decision) refl
      (λ e. c.if-host-member.true (ap (λ (r : RevisionId). r.0) (c.host.ensures.host ∙ e))));
}

pub returns-in-Attach : goal.returns-in-Attach
returns-in-Attach c = record {
  amiss = λ P L is_member x.
      let s = c.args.path.now in
      let m = c.args.member in
      let d = c.args.last.decision in
      let f = c.in-Attach.fragment in
      let own : m ≡ host (decision_of d) = sym (ap id c.if-host-member.false) ∙ c.host.ensures.host in
      let h = host-is P (made P s) m d c.args.last.value _ c.in-Attach.is own in
      attach-by P (made P s) m d c.args.last.value _ f _ c.in-Attach.is h
      (c.is_attached_amiss.ensures.amiss P L is_member (λ at. subst (λ (r : RevisionId). In f (fragments_of P (made P s) r)) h (last-attached s P L c.args.last x _ f c.in-Attach.is at)));
}

pub returns-in-Choose : goal.returns-in-Choose
returns-in-Choose c = record { amiss = λ P L is_member x. no (choose-by P (made P c.args.path.now) c.args.member c.args.last.decision c.args.last.value _ _ c.in-Choose.is) }

pub returns-in-Pick : goal.returns-in-Pick
returns-in-Pick c = record {
  amiss = λ P L is_member x.
      let s = c.args.path.now in
      let m = c.args.member in
      let d = c.args.last.decision in
      let q = c.in-Pick.requirement in
      let own : m ≡ host (decision_of d) = sym (ap id c.if-host-member.false) ∙ c.host.ensures.host in
      let h = host-is P (made P s) m d c.args.last.value _ c.in-Pick.is own in
      let is = pick-is d _ m q _ c.in-Pick.is h in
      pick-by P (made P s) m d c.args.last.value _ q _ _ c.in-Pick.is h
      (c.is_refused_amiss.ensures.amiss P L is_member _ x is (subst (λ (r : RevisionId). In q (payload P (made P s) r)) h (last-picked s P L c.args.last x _ q _ c.in-Pick.is)));
}
