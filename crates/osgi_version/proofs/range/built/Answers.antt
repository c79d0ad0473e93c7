-- A plain version is a range.
use Rattle.osgi_version.specs.Ranges.{plain}
use Rattle.osgi_version.proofs.range.built.Goals as goal

pub returns-in_ok-known-in-None : goal.returns-in_ok-known-in-None
returns-in_ok-known-in-None c = record { reads = plain c.in_ok-known-in-None.ensures.reads }
