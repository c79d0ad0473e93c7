-- The next wire, the last one and the first that is refused.
use Rattle.std.proofs.Common.{get_or}
use Rattle.osgi_space_rules.specs.computed.Entries.{IsImport}
use Rattle.osgi_space_rules.specs.computed.Growing.{HasEntry}
use Rattle.osgi_space_rules.specs.computed.Keys.{package_cmp}
use Rattle.osgi_space_rules.proofs.Grow.{grow_done, grow_step}
use Rattle.osgi_space_rules.proofs.Items.{no_wire, there}
use Rattle.osgi_space_rules.proofs.OneValue.{extends_all, not_true, refused_extends}
use Rattle.osgi_space_rules.proofs.imports.add_imports.Goals as goal

pub loop-wire-preserved : goal.loop-wire-preserved
loop-wire-preserved c =
    let wires = c.items-wire-items.result.now in
    let i = c.loop-wire.wire-index in
    let within = c.loop-wire-test.true in
    grow_step (λ wire e. IsImport c.args.known.now c.args.wiring.now.revision wire e) _ _ _ wires i (get_or wires i no_wire) within (there wires i no_wire within) c.loop-wire.invariant (c.in_ok-add_import.ensures.added.added c.if-not-branch.false)

pub returns-then-not-branch : goal.returns-then-not-branch
returns-then-not-branch c =
    let wires = c.items-wire-items.result.now in
    let i = c.loop-wire.wire-index in
    let within = c.loop-wire-test.true in
    let fails = refused_extends (λ wire e. IsImport c.args.known.now c.args.wiring.now.revision wire e) (HasEntry package_cmp c.args.providers.now) (HasEntry package_cmp c.loop-wire.providers) (HasEntry package_cmp c.add_import.new.providers) wires i (get_or wires i no_wire) within (there wires i no_wire within) c.loop-wire.invariant (c.in_ok-add_import.ensures.added.refused (not_true c.in_ok-add_import.field-0 c.if-not-branch.true)) in
    rw (← c.items-wire-items.ensures.items) (record { added = fails })

pub returns : goal.returns
returns c =
    let all = grow_done (λ wire e. IsImport c.args.known.now c.args.wiring.now.revision wire e) (HasEntry package_cmp c.args.providers.now) (HasEntry package_cmp c.loop-wire.providers) c.items-wire-items.result.now c.loop-wire.wire-index c.loop-wire-test.false c.loop-wire.invariant in
    rw (← c.items-wire-items.ensures.items) (record { added = extends_all (HasEntry package_cmp c.args.providers.now) (HasEntry package_cmp c.loop-wire.providers) _ all })
