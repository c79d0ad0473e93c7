-- Of an owner of a member's payload.
use Rattle.std.proofs.Common.{◌≡◌, ◌⊎◌, ◌<◌, IsTrue, sym, subst}
use Rattle.osgi_base.specs.declared.ids.RevisionId.{RevisionId}
use Rattle.osgi_resolver_decisions.specs.computed.Known.{Knows}
use Rattle.osgi_resolver_path.proofs.OnWay.{asked-at, lists-at}
use Rattle.osgi_resolver_path.specs.Standing.{made}
use Rattle.osgi_resolver_theory.proofs.States.{in-payload}
use Rattle.osgi_world.specs.DueDecisions.{fragments_of, payload}
use Rattle.osgi_world.specs.Lists.{In}
use Rattle.osgi_world.specs.Lookups.{is_current, requirement_count}
use Rattle.osgi_resolver_path.proofs.path.Path.lacks_candidate.Goals as goal

pub returns : goal.returns
returns c = record {
  lacks = λ P of m i own.
      let on = c.self.invariant in
      let in_it = lists-at c.self.inside.world.now c.self.inside.root c.self.inside.lists c.self.inside.spaces c.self.inside.course on c.args.self.now (sym c.self.view_is) P of in
      let is = c.lacks_candidate.ensures.lacks P in_it in (
        λ t. (is.0 t).2,
        λ l.
            let D = made P c.args.self.now in
            let q = l.0 in
            let j : In q (payload P D m) = in-payload P D m q (subst (λ (o : RevisionId). (o ≡ m) ⊎ In o (fragments_of P D m)) (sym l.1) own) (subst (λ (o : RevisionId). q.index < requirement_count P.world.known o) (sym l.1) l.2) in
            let asked = asked-at c.self.inside.world.now c.self.inside.root c.self.inside.lists c.self.inside.spaces c.self.inside.course on c.args.self.now (sym c.self.view_is) P m q of i j l.3.effective in
            is.1 (subst (Knows c.self.inside.lists) l.1 asked.knows, subst (λ (o : RevisionId). IsTrue (is_current P.world.known o)) l.1 asked.has.current, l),
      );
}
