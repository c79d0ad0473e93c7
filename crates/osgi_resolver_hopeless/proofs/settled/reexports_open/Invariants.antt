-- None of the rows so far is that of a reexported bundle that is not decided.
use Rattle.std.proofs.Common.{take}
use Rattle.osgi_resolver_hopeless.specs.computed.Open.{IsOpenReexport}
use Rattle.osgi_resolver_hopeless.specs.computed.Stuck.{AtMember}
use Rattle.osgi_space_rows.specs.declared.rows.Required.{Required}
use Rattle.osgi_world.specs.Lists.{In}
use Rattle.osgi_resolver_hopeless.proofs.settled.reexports_open.Given as goal

abbrev pub invariant-loop-row : goal.invariant-loop-row
invariant-loop-row l = AtMember l.path l.fn.revision (λ P D. (row : Required) → In row (take l.row-index l.row-items) → ¬ IsOpenReexport P D row)
