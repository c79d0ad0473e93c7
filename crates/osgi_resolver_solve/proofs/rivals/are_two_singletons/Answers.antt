-- Both are current singletons, and they are two.
use Rattle.std.proofs.Common.{ap}
use Rattle.osgi_base.specs.declared.ids.RevisionId.{RevisionId}
use Rattle.osgi_resolver_solve.proofs.rivals.are_two_singletons.Goals as goal

pub returns : goal.returns
returns c = record {
  rivals = λ t name.
      let one = c.is_current_singleton.ensures.singleton c.if-not-is_current_singleton.false in
      let other = c.is_current_singleton-2.ensures.singleton t in
      record {
        different = λ e. c.if-other-one.false (ap (λ (r : RevisionId). r.0) e);
        name = name;
        current = (other.0, one.0);
        singletons = (other.1, one.1);
      };
}
