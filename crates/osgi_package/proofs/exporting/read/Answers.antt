-- Each clause that is read is added, or stops the reading.
use Rattle.std.proofs.Common.{[], sym, subst}
use Rattle.std.specs.Prelude.{Ok}
use Rattle.osgi_header.specs.declared.clause.Clause.{Clause}
use Rattle.osgi_package.specs.computed.Answers.{IsTheAnswer}
use Rattle.osgi_package.specs.computed.ExportReader.{IsAdded}
use Rattle.osgi_package.specs.Exports.{SaysExports}
use Rattle.osgi_package.proofs.Answering.{answer_more, answer_stops, starts}
use Rattle.osgi_package.proofs.exporting.read.Goals as goal

pub loop-number-init : goal.loop-number-init
loop-number-init c = subst (λ items. IsTheAnswer SaysExports [] (Ok items)) (sym c.in_ok-capabilities.ensures.empty) (starts SaysExports)

pub returns-in-Some : goal.returns-in-Some
returns-in-Some c =
    let clause : Clause = c.index-clauses-number.result in
    let faulty = subst (IsAdded c.loop-number.capabilities c.add_clause.new.capabilities clause) c.in-Some.is c.in_ok-kind.ensures.added in
    record {
      answer = answer_stops SaysExports c.args.clauses.now c.loop-number.number clause c.loop-number.capabilities c.in-Some.kind c.loop-number-test.true c.index-clauses-number.is
          c.loop-number.invariant faulty;
    }

pub loop-number-preserved : goal.loop-number-preserved
loop-number-preserved c =
    let clause : Clause = c.index-clauses-number.result in
    let added = subst (IsAdded c.loop-number.capabilities c.add_clause.new.capabilities clause) c.in_default.is c.in_ok-kind.ensures.added in
    answer_more SaysExports c.args.clauses.now c.loop-number.number clause c.loop-number.capabilities c.add_clause.new.capabilities added.0 c.loop-number-test.true
    c.index-clauses-number.is added.1 c.loop-number.invariant added.2
