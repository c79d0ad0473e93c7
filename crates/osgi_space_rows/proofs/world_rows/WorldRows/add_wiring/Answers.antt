-- The wires and the fragments of a wiring.
use Rattle.std.proofs.Common.{subst, [], ◌∷◌}
use Rattle.osgi_space_rows.specs.Worlds.{AddsWirings}
use Rattle.osgi_space_rows.proofs.Growth.{wiring-adds}
use Rattle.osgi_space_rows.proofs.world_rows.WorldRows.add_wiring.Goals as goal

pub returns : goal.returns
returns c =
    let r = c.args.wiring.now.revision in
    let wires = subst (λ ws. AddsWirings c.args.self.now c.add_wires.new.self (record { revision = r; wires = ws; fragments = [] } ∷ [])) c.items.ensures.items c.in_ok-add_wires.ensures.added in
    let fragments = subst (λ fs. AddsWirings c.add_wires.new.self c.add_fragments.new.self (record { revision = r; wires = []; fragments = fs } ∷ [])) c.items-2.ensures.items c.in_ok-add_fragments.ensures.added in
    record { added = wiring-adds c.args.self.now c.add_wires.new.self c.add_fragments.new.self c.args.wiring.now wires fragments }
