-- The tables of the empty history.
use Rattle.std.proofs.Common.{arith, refl}
use Rattle.osgi_ops.specs.Settings.{setting_of}
use Rattle.osgi_core.proofs.Keeping.{kept_none}
use Rattle.osgi_core.proofs.machine.Core.new.Goals as goal

pub invariant_of-result : goal.invariant_of-result
invariant_of-result c =
    rw c.new.ensures.items (
      kept_none (setting_of c.args.limits c.in_ok-first_tables.field-0.depot) c.in_ok-first_tables.field-0 refl c.in_ok-first_tables.ensures.budget c.in_ok-first_tables.ensures.services c.in_ok-first_tables.ensures.bundles c.in_ok-first_tables.ensures.brackets
          c.in_ok-first_tables.ensures.listeners c.in_ok-first_tables.ensures.handings c.in_ok-first_tables.ensures.world c.in_ok-first_tables.ensures.issued c.in_ok-first_tables.ensures.holds
          c.in_ok-first_tables.ensures.jobs,
      record { open_ends = refl; room = omega arith },
    )
