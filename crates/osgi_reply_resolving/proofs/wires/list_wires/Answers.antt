-- The rows of the current revision's wiring.
use Rattle.std.proofs.Common.{refl, sym}
use Rattle.osgi_reply_resolving.proofs.WiresShown.{wires_listed, wires_missing}
use Rattle.osgi_reply_resolving.proofs.wires.list_wires.Goals as goal

pub returns-in_default : goal.returns-in_default
returns-in_default c = record { replied = wires_missing c.args.tables.now c.args.bundle (sym (rw c.wirings-wirings.ensures.wirings at c.in_default.ensures.current)) }

pub rows-requires-clause-current : goal.rows-requires-clause-current
rows-requires-clause-current c = record { known = c.in-Some.known.now; is = sym c.in-Some.ensures.current; id = refl }

pub returns : goal.returns
returns c = record {
  replied = wires_listed c.args.tables.now c.args.bundle c.in-Some.known.now c.in_ok-rows.rows c.in_ok-rows.fragments (sym (rw c.wirings-wirings.ensures.wirings at c.in-Some.ensures.current)) (rw c.wirings-wirings.ensures.wirings at c.in_ok-rows.ensures.rows);
}
