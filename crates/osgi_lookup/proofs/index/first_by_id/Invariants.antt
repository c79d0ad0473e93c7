-- The index is that of the revisions so far.
use Rattle.std.proofs.Common.{take}
use Rattle.osgi_lookup.specs.computed.Index.{IsIndexOf}
use Rattle.osgi_lookup.proofs.index.first_by_id.Given as goal

abbrev pub invariant-loop-known : goal.invariant-loop-known
invariant-loop-known l = IsIndexOf l.by_id (take l.known-index l.all)
