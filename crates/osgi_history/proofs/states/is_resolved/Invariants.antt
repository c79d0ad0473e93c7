-- Whether the entries so far leave it resolved.
use Rattle.std.proofs.Common.{◌≡◌, take}
use Rattle.std.specs.Prelude.{false, unwrap_or}
use Rattle.osgi_legal.specs.States.{resolves_by}
use Rattle.osgi_ops.specs.Along.{latest}
use Rattle.osgi_history.proofs.states.is_resolved.Given as goal

abbrev pub invariant-loop-entry : goal.invariant-loop-entry
invariant-loop-entry l = l.resolved ≡ unwrap_or (latest (λ e. resolves_by l.bundle e.op e.reply) (take l.entry-index l.entries)) false
