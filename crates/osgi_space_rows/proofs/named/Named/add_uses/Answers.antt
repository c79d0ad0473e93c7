-- One use more.
use Rattle.std.proofs.Common.{◌+◌, [], ◌∷◌, take}
use Rattle.osgi_space_rows.specs.computed.Payloads.{Used}
use Rattle.osgi_space_rows.proofs.Payload.{adds-none, adds-then, unused, used-more}
use Rattle.osgi_space_rows.proofs.named.Named.add_uses.Goals as goal

pub loop-used-init : goal.loop-used-init
loop-used-init c = λ name has. adds-none c.args.self.now (Used c.args.owner name []) c.requires.named (unused c.args.owner name)

pub add_use-requires : goal.add_use-requires
add_use-requires c =
    let so_far = c.loop-used.invariant c.requires.known.0 c.requires.known.1 in
    record { named = so_far.named; known = (c.requires.known.0, so_far.kept c.requires.known.0 c.args.exported c.requires.known.1) }

pub loop-used-preserved : goal.loop-used-preserved
loop-used-preserved c = λ name has.
    let uses = c.args.uses.now in
    let so_far = c.loop-used.invariant name has in
    adds-then c.args.self.now c.loop-used.self c.add_use.new.self (Used c.args.owner name (take c.loop-used.used-index uses)) (Used c.args.owner name (c.used-item.result ∷ []))
    (Used c.args.owner name (take (c.loop-used.used-index + 1) uses)) so_far (c.in_ok-add_use.ensures.adds name (so_far.kept name c.args.exported has))
    (used-more c.args.owner name c.used-item.result uses c.loop-used.used-index c.loop-used-test.true c.used-item.is)
