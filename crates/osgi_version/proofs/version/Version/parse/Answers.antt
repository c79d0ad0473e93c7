-- A qualifier that was read has the right bytes, and a text has one reading.
use Rattle.osgi_version.proofs.PrintReads.{words}
use Rattle.osgi_version.proofs.Unique.{reads_one}
use Rattle.osgi_version.proofs.version.Version.parse.Goals as goal

pub of-requires : goal.of-requires
of-requires c = record { words = words c.args.bytes.now _ c.in-Ok.ensures.reads.spells }

pub returns-in_ok-of-in-Ok-clause-only : goal.returns-in_ok-of-in-Ok-clause-only
returns-in_ok-of-in-Ok-clause-only c = λ v h. rw c.in_ok-of-in-Ok.ensures.bytes (reads_one c.args.bytes.now _ v c.in-Ok.ensures.reads h)
