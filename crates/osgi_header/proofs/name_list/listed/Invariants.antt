-- The names so far are the parts so far.
use Rattle.std.proofs.Common.{◌≡◌, map}
use Rattle.osgi_header.specs.computed.ClauseReader.{trimmed}
use Rattle.osgi_header.proofs.name_list.listed.Given as goal

abbrev pub invariant-loop-part : goal.invariant-loop-part
invariant-loop-part l = l.names ≡ map trimmed (map (λ part. part.now) l.yielded)
