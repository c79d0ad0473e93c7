-- One reason after the other.
use Rattle.std.proofs.Common.{inl, inr, refl, ◌∙◌, sym, subst}
use Rattle.osgi_space_rules.proofs.OneValue.{not_true}
use Rattle.osgi_resolver_hopeless.proofs.Answering.{known-is, yes}
use Rattle.osgi_resolver_hopeless.specs.computed.Stuck.{SameName}
use Rattle.osgi_resolver_path.specs.Standing.{made}
use Rattle.osgi_world.specs.DueDecisions.{fragments_of}
use Rattle.osgi_world.specs.Lists.{Two}
use Rattle.osgi_resolver_hopeless.proofs.stuck.is_amiss.Goals as goal

pub returns-then-is_unmet : goal.returns-then-is_unmet
returns-then-is_unmet c = record {
  amiss = λ P L is_member.
      let are = c.as_slice.ensures.value ∙ c.in_ok-fragments.ensures.fragments P L is_member in
      yes (inl ((c.is_unmet.ensures.unmet P L is_member are).0 c.if-is_unmet.true));
}

pub returns : goal.returns
returns c = record {
  amiss = λ P L is_member.
      let D = made P c.args.path.now in
      let are = c.as_slice.ensures.value ∙ c.in_ok-fragments.ensures.fragments P L is_member in
      let are-2 = c.as_slice-2.ensures.value ∙ c.in_ok-fragments.ensures.fragments P L is_member in
      let known = known-is c.args.path.now P L c.args.path.now.world.known refl in (
        λ t. inr (subst (λ K. Two (SameName K) (fragments_of P D c.args.member)) known (subst (Two (SameName c.args.path.now.world.known)) are-2 (c.in_ok-has_two_versions.ensures.two.0 t))),
        λ s. elim s [
          | inl u ↦ absurd (not_true _ c.if-is_unmet.false ((c.is_unmet.ensures.unmet P L is_member are).1 u))
          | inr v ↦ c.in_ok-has_two_versions.ensures.two.1 (subst (Two (SameName c.args.path.now.world.known)) (sym are-2) (subst (λ K. Two (SameName K) (fragments_of P D c.args.member)) (sym known) v))
        ],
      );
}
