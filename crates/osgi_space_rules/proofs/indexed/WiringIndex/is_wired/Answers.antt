-- The set of the requirements that have wires.
use Rattle.std.proofs.Common.{◌↔◌, sym, subst}
use Rattle.osgi_space_rules.specs.computed.Indexed.{IsWired}
use Rattle.osgi_space_rules.specs.declared.keys.WiredPlace.{WiredPlace}
use Rattle.osgi_space_rules.proofs.Exact.{wired_exact, wired_total}
use Rattle.osgi_space_rules.proofs.Found.{decided}
use Rattle.osgi_world.specs.Lists.{In}
use Rattle.osgi_space_rules.proofs.indexed.WiringIndex.is_wired.Goals as goal

pub returns : goal.returns
returns c =
    let wired = c.self.inside.wired in
    let is = IsWired c.self.inside.wirings.now c.args.id c.args.requirement in
    let means = subst (λ (k : WiredPlace). In k wired ↔ is) (sym c.new.ensures.place) (c.self.invariant.2 c.args.id c.args.requirement) in
    rw (← c.self.view_is) (record { wired = decided wired_total wired_exact wired c.new.result c.has.result is c.has.ensures.has means })
