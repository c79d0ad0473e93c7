-- A current singleton is newly in use, or none is.
use Rattle.std.proofs.Common.{inl, inr}
use Rattle.osgi_space_rules.proofs.OneValue.{not_true}
use Rattle.osgi_resolver_hopeless.proofs.Tested.{new-single}
use Rattle.osgi_resolver_hopeless.proofs.onward.has_new_rivals.Goals as goal

pub returns-then-not-attached : goal.returns-then-not-attached
returns-then-not-attached c = record {
  rivals = λ P L t. let f = t in cc;
  all = λ P L h.
      let n = new-single c.args.path.now P L c.args.last h in
      elim n.1 [
        | inl e ↦ absurd (not_true _ c.if-not-joined.true (c.is_singleton-joined.ensures.singleton.1 (n.0, e, n.2)))
        | inr e ↦ absurd (not_true _ c.if-not-attached.true (c.is_singleton-attached.ensures.singleton.1 (n.0, e, n.2)))
      ];
}

pub returns : goal.returns
returns c = record {
  rivals = λ P L t. c.in_ok-has_rivals.ensures.rivals P L t;
  all = λ P L h. c.in_ok-has_rivals.ensures.all P c.args.last L h;
}
