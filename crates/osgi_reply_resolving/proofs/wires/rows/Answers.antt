-- What the wiring names is known.
use Rattle.std.proofs.Common.{IsSome, subst, sym}
use Rattle.std.specs.Prelude.{All}
use Rattle.osgi_reply_resolving.proofs.WiresShown.{fragments_known, wires_known}
use Rattle.osgi_ops.specs.WireRows.{fragment_row, wire_row}
use Rattle.osgi_reply_resolving.proofs.wires.rows.Goals as goal

pub wire_rows-requires : goal.wire_rows-requires
wire_rows-requires c =
    let W = c.args.wirings.now.world in
    record { known = subst (All (λ w. IsSome (wire_row W.known w))) (sym c.items.ensures.items) (wires_known W c.args.wirings.now.issued c.args.revision c.in-Some.wiring.now c.requires.holds c.in-Some.ensures.wiring) }

pub fragment_rows-requires : goal.fragment_rows-requires
fragment_rows-requires c =
    let W = c.args.wirings.now.world in
    record { known = subst (All (λ f. IsSome (fragment_row W.known f))) (sym c.items-2.ensures.items) (fragments_known W c.args.wirings.now.issued c.args.revision c.in-Some.wiring.now c.requires.holds c.in-Some.ensures.wiring) }
