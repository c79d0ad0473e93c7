-- The range machine is a reader, and a text has one reading.
use Rattle.osgi_version.proofs.RangeReader.{range_reader}
use Rattle.osgi_version.proofs.Unique.{range_one, no_range}
use Rattle.osgi_version.proofs.range.VersionRange.parse.Goals as goal

pub examine-requires : goal.examine-requires
examine-requires c = record { reader = range_reader }

pub returns-in_ok-range-in-Ok-clause-only : goal.returns-in_ok-range-in-Ok-clause-only
returns-in_ok-range-in-Ok-clause-only c = λ r h. range_one c.args.bytes.now _ r c.in_ok-range-in-Ok.ensures.reads h

pub returns-in-Err-clause-only : goal.returns-in-Err-clause-only
returns-in-Err-clause-only c = λ r h. no_range c.args.bytes.now c.in-Err.fault r c.in-Err.ensures.state h
