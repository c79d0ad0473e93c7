-- It is put at the end, or the list stays.
use Rattle.std.proofs.Common.{inl, inr, refl}
use Rattle.osgi_space_rules.proofs.Grow.{pushed}
use Rattle.osgi_space_rules.proofs.OneValue.{not_true}
use Rattle.osgi_resolver_hopeless.proofs.concerned.add_touched.Goals as goal

pub returns-then-not-touched : goal.returns-then-not-touched
returns-then-not-touched c = record { those = λ n i. inl i; kept = λ n i. i; added = λ t. absurd (not_true _ c.if-not-touched.true t) }

pub returns : goal.returns
returns c =
    let put = pushed c.args.list.now.items c.push.new.self.items c.args.revision c.in_ok-push.ensures.items in
    record { those = λ n i. (put n).0 i; kept = λ n i. (put n).1 (inl i); added = λ t. (put c.args.revision).1 (inr refl) }
