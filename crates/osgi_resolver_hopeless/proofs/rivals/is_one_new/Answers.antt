-- A member, or a fragment of one.
use Rattle.std.proofs.Common.{inl, inr, List, subst, sym, refl}
use Rattle.osgi_base.specs.declared.ids.RevisionId.{RevisionId}
use Rattle.osgi_space_rules.proofs.OneValue.{not_true}
use Rattle.osgi_resolver_hopeless.specs.computed.Rivals.{IsCurrentSingleton}
use Rattle.osgi_world.specs.Lists.{In}
use Rattle.osgi_world.specs.declared.world.Known.{Known}
use Rattle.osgi_resolver_hopeless.proofs.rivals.is_one_new.Goals as goal

pub returns-then-has_current_singleton : goal.returns-then-has_current_singleton
returns-then-has_current_singleton c = record { some = λ P L r new single. refl }

pub returns : goal.returns
returns c = record {
  some = λ P L r new single.
      let are = c.members-members.ensures.members P L in
      elim new [
        | inl i ↦ absurd (not_true _ c.if-has_current_singleton.false (c.has_current_singleton.ensures.some.1 (
          r,
          subst (λ (xs : List RevisionId). In r xs) (sym are) i,
          subst (λ (known : List Known). IsCurrentSingleton known r) (sym c.known_at.ensures.known) single,
        )))
        | inr f ↦ c.in_ok-is_one_attached.ensures.some P L (λ m i. subst (λ (xs : List RevisionId). In m xs) are i) f.0 r (subst (λ (xs : List RevisionId). In f.0 xs) (sym are) f.1) f.2 single
      ];
}
