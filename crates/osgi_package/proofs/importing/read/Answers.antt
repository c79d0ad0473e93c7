-- Each clause that is read is added, or stops the reading.
use Rattle.std.proofs.Common.{ℕ, List, [], sym, subst, take}
use Rattle.std.specs.Prelude.{Ok}
use Rattle.osgi_header.specs.declared.clause.Clause.{Clause}
use Rattle.osgi_package.specs.computed.Answers.{IsTheAnswer}
use Rattle.osgi_package.specs.computed.ImportReader.{IsAdded}
use Rattle.osgi_package.specs.Imports.{SaysImports}
use Rattle.osgi_package.proofs.Answering.{answer_stops, starts}
use Rattle.osgi_package.proofs.ImportReading.{no_packages, read_more}
use Rattle.osgi_package.proofs.importing.read.Goals as goal

pub loop-number-init : goal.loop-number-init
loop-number-init c = record {
  answer = subst (λ items. IsTheAnswer SaysImports [] (Ok items)) (sym c.in_ok-requirements.ensures.empty) (starts SaysImports);
  seen = no_packages c.new-seen.result c.new-seen.ensures.empty;
}

pub returns-in-Some : goal.returns-in-Some
returns-in-Some c =
    let n : ℕ = c.loop-number.number in
    let clause : Clause = c.index-clauses-number.result in
    let before : List Clause = take n c.args.clauses.now in
    let added = subst (IsAdded c.loop-number.requirements c.add_clause.new.requirements c.add_clause.new.seen before clause) c.in-Some.is
    (c.in_ok-kind.ensures.added before c.loop-number.invariant.seen) in
    record {
      answer = answer_stops SaysImports c.args.clauses.now n clause c.loop-number.requirements c.in-Some.kind c.loop-number-test.true c.index-clauses-number.is c.loop-number.invariant.answer added;
    }

pub loop-number-preserved : goal.loop-number-preserved
loop-number-preserved c =
    let n : ℕ = c.loop-number.number in
    let clause : Clause = c.index-clauses-number.result in
    let before : List Clause = take n c.args.clauses.now in
    let added = subst (IsAdded c.loop-number.requirements c.add_clause.new.requirements c.add_clause.new.seen before clause) c.in_default.is
    (c.in_ok-kind.ensures.added before c.loop-number.invariant.seen) in
    let read = read_more c.args.clauses.now n clause c.loop-number.requirements c.add_clause.new.requirements c.add_clause.new.seen c.loop-number-test.true c.index-clauses-number.is
    c.loop-number.invariant.answer added in
    record { answer = read.answer; seen = read.seen }
