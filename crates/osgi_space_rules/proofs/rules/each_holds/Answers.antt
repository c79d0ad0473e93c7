-- The next wiring, the last one and the first that does not keep the rules.
use Rattle.std.proofs.Common.{◌↔◌, IsTrue, subst}
use Rattle.std.specs.Prelude.{true, false}
use Rattle.osgi_space_rules.specs.computed.Growing.{Each}
use Rattle.osgi_space_rules.specs.computed.Holding.{WiringHolds}
use Rattle.osgi_space_rules.proofs.Grow.{each_all, each_done, each_fails, each_step}
use Rattle.osgi_space_rules.proofs.OneValue.{not_true}
use Rattle.osgi_space_rules.proofs.rules.each_holds.Goals as goal

pub loop-wiring-preserved : goal.loop-wiring-preserved
loop-wiring-preserved c =
    each_step (WiringHolds c.args.known.now c.args.index.now) c.all-wiring-items.result.now c.loop-wiring.wiring-index c.wiring-item.result c.loop-wiring-test.true c.wiring-item.is c.loop-wiring.invariant (c.in_ok-wiring_holds.ensures.holds.0 c.if-not-branch.false)

pub returns-then-not-branch : goal.returns-then-not-branch
returns-then-not-branch c =
    let P = WiringHolds c.args.known.now c.args.index.now in
    let fails = each_fails P c.all-wiring-items.result.now c.loop-wiring.wiring-index c.wiring-item.result c.loop-wiring-test.true c.wiring-item.is (λ holds. not_true c.in_ok-wiring_holds.field-0 c.if-not-branch.true (c.in_ok-wiring_holds.ensures.holds.1 holds)) in
    record { each = subst (λ l. IsTrue false ↔ Each P l) c.all-wiring-items.ensures.wirings fails }

pub returns : goal.returns
returns c =
    let P = WiringHolds c.args.known.now c.args.index.now in
    let all = each_all P c.all-wiring-items.result.now (each_done P c.all-wiring-items.result.now c.loop-wiring.wiring-index c.loop-wiring-test.false c.loop-wiring.invariant) in
    record { each = subst (λ l. IsTrue true ↔ Each P l) c.all-wiring-items.ensures.wirings all }
