-- The next wiring, the last one and the first that is refused.
use Rattle.osgi_space_rules.specs.computed.Entries.{IsImport}
use Rattle.osgi_space_rules.specs.computed.Growing.{HasEntry, Nothing, AnyOf}
use Rattle.osgi_space_rules.specs.computed.Keys.{package_cmp}
use Rattle.osgi_space_rules.proofs.Grow.{grow_done, grow_step}
use Rattle.osgi_space_rules.proofs.OneValue.{not_true, refused_at}
use Rattle.osgi_space_rules.proofs.Providers.{not_one, providers_are}
use Rattle.osgi_world.specs.declared.wiring.Wiring.{Wiring}
use Rattle.osgi_space_rules.proofs.imports.package_providers.Goals as goal

pub loop-wiring-preserved : goal.loop-wiring-preserved
loop-wiring-preserved c =
    grow_step (λ (g : Wiring) e. AnyOf (λ wire. IsImport c.args.known.now g.revision wire e) g.wires) _ _ _ c.args.wirings.now c.loop-wiring.wiring-index c.wiring-item.result c.loop-wiring-test.true c.wiring-item.is c.loop-wiring.invariant
    (c.in_ok-add_imports.ensures.added.added c.if-not-branch.false)

pub returns-then-not-branch : goal.returns-then-not-branch
returns-then-not-branch c = record {
  providers =
      not_one c.args.known.now c.args.wirings.now
      (refused_at (λ (g : Wiring) e. AnyOf (λ wire. IsImport c.args.known.now g.revision wire e) g.wires) Nothing (HasEntry package_cmp c.loop-wiring.providers) c.args.wirings.now c.loop-wiring.wiring-index c.wiring-item.result c.loop-wiring-test.true c.wiring-item.is c.loop-wiring.invariant
      (c.in_ok-add_imports.ensures.added.refused (not_true c.in_ok-add_imports.field-0 c.if-not-branch.true)));
}

pub returns : goal.returns
returns c = record {
  providers =
      providers_are c.args.known.now c.args.wirings.now c.loop-wiring.providers
      (grow_done _ Nothing (HasEntry package_cmp c.loop-wiring.providers) c.args.wirings.now c.loop-wiring.wiring-index c.loop-wiring-test.false c.loop-wiring.invariant);
}
