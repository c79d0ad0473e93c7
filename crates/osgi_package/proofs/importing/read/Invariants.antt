-- The clauses so far gave their requirements, and their packages were seen.
use Rattle.std.proofs.Common.{take}
use Rattle.std.specs.Prelude.{Ok}
use Rattle.osgi_package.specs.computed.Answers.{IsTheAnswer}
use Rattle.osgi_package.specs.computed.ImportReader.{AreSeen}
use Rattle.osgi_package.specs.Imports.{SaysImports}
use Rattle.osgi_package.specs.Packages.{packages}
use Rattle.osgi_package.proofs.importing.read.Given as goal

abbrev pub invariant-loop-number : goal.invariant-loop-number
invariant-loop-number l = record {
  answer : IsTheAnswer SaysImports (take l.number l.clauses) (Ok l.requirements);
  seen : AreSeen l.seen (packages (take l.number l.clauses));
}
