-- Those of the wires so far that go to the host were added.
use Rattle.std.proofs.Common.{◌≡◌, take}
use Rattle.osgi_space_rows.specs.declared.rows.Import.{Import}
use Rattle.osgi_world.specs.Lists.{In}
use Rattle.osgi_resolver_hopeless.proofs.concerned.add_imports.Given as goal

abbrev pub invariant-loop-row : goal.invariant-loop-row
invariant-loop-row l = record {
  kept : (row : Import) → In row l.fn.list.items → In row l.list.items;
  added : (row : Import) → In row (take l.row-index l.row-items) → row.provider ≡ l.host → In row l.list.items;
}
