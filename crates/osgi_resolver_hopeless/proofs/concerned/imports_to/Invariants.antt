-- Those of the revisions so far were added.
use Rattle.std.proofs.Common.{◌≡◌, ℕ, take}
use Rattle.osgi_space_rows.specs.Rows.{imports_of}
use Rattle.osgi_space_rows.specs.declared.rows.Import.{Import}
use Rattle.osgi_world.specs.Lists.{In}
use Rattle.osgi_resolver_hopeless.proofs.concerned.imports_to.Given as goal

abbrev pub invariant-loop-revision : goal.invariant-loop-revision
invariant-loop-revision l = (n : ℕ) (row : Import) → In n (take l.revision-index l.revisions) → In row (imports_of l.rows n) → row.provider ≡ l.host → In row l.list.items
