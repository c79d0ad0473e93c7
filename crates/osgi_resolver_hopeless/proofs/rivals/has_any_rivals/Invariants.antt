-- None of the new revisions so far has a rival.
use Rattle.std.proofs.Common.{ℕ, take}
use Rattle.osgi_resolver_hopeless.specs.computed.Rivals.{HasRival}
use Rattle.osgi_space_rows.specs.Agree.{id}
use Rattle.osgi_world.specs.Lists.{In}
use Rattle.osgi_resolver_hopeless.proofs.rivals.has_any_rivals.Given as goal

abbrev pub invariant-loop-revision : goal.invariant-loop-revision
invariant-loop-revision l = (n : ℕ) → In n (take l.revision-index l.revision-items) → ¬ HasRival l.path l.revision-items (id n)
