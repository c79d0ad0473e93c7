-- The clauses so far gave their capabilities.
use Rattle.std.proofs.Common.{take}
use Rattle.std.specs.Prelude.{Ok}
use Rattle.osgi_package.specs.computed.Answers.{IsTheAnswer}
use Rattle.osgi_package.specs.Exports.{SaysExports}
use Rattle.osgi_package.proofs.exporting.read.Given as goal

abbrev pub invariant-loop-number : goal.invariant-loop-number
invariant-loop-number l = IsTheAnswer SaysExports (take l.number l.clauses) (Ok l.capabilities)
