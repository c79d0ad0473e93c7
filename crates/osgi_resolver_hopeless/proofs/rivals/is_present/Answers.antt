-- Among the new ones, or in use in the world.
use Rattle.std.proofs.Common.{inl, inr, sym, subst}
use Rattle.osgi_space_rules.proofs.OneValue.{not_true}
use Rattle.osgi_resolver_hopeless.proofs.Answering.{yes}
use Rattle.osgi_world.specs.Wirings.{InUse}
use Rattle.osgi_world.specs.declared.world.World.{World}
use Rattle.osgi_resolver_hopeless.proofs.rivals.is_present.Goals as goal

pub returns-then-has : goal.returns-then-has
returns-then-has c = record { present = yes (inl (c.has.ensures.has.0 c.if-has.true)) }

pub returns : goal.returns
returns c =
    let used = c.is_in_use.ensures.in_use in
    record {
      present = (
        λ t. inr (subst (λ (w : World). InUse w.wirings c.args.revision) c.offers.ensures.world (used.0 t)),
        λ p. elim p [
          | inl there ↦ absurd (not_true _ c.if-has.false (c.has.ensures.has.1 there))
          | inr old ↦ used.1 (subst (λ (w : World). InUse w.wirings c.args.revision) (sym c.offers.ensures.world) old)
        ],
      );
    }
