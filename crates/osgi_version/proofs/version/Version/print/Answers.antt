-- The numbers are in range and the qualifier has the right bytes.
use Rattle.std.proofs.Common.{arith}
use Rattle.osgi_version.specs.VersionValues.{parts}
use Rattle.osgi_version.proofs.PrintReads.{print_reads}
use Rattle.osgi_version.proofs.version.Version.print.Goals as goal

pub returns-clause-reads_back : goal.returns-clause-reads_back
returns-clause-reads_back c =
    let fits = c.args.self.now.in_range in
    rw (c.in_ok-out.ensures.text, c.bytes-qualifier.ensures.bytes)
    (print_reads (parts c.args.self.now) (record { major = omega arith; minor = omega arith; micro = omega arith }) c.bytes-qualifier.ensures.words)
