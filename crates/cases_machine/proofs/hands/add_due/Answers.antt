-- The history that the machine hands over is legal under the machine's own limits and depot.
use Rattle.std.proofs.Common.{ap, ◌∙◌}
use Rattle.osgi_core.specs.Machine.{Machine}
use Rattle.cases_machine.proofs.hands.add_due.Goals as goal

pub due-requires : goal.due-requires
due-requires c =
    let parts = c.into_parts-depot in
    let rows = parts.ensures.depot ∙ ap (λ (m : Machine). m.setting.depot) c.replace.ensures.value in
    record { legal = rw (c.items.ensures.items, c.limits-limits.ensures.limits parts.result.0 rows, ← c.replace.ensures.value) parts.ensures.legal }
