-- A clause repeats something, or is one more that does not.
use Rattle.std.proofs.Common.{arith}
use Rattle.osgi_clause.specs.Directives.{Repeats}
use Rattle.osgi_clause.proofs.ByClause.{not_so, so}
use Rattle.osgi_clause.proofs.PlainLens.{found_len, once_more, whole_len}
use Rattle.osgi_clause.proofs.packages.plain_len.Goals as goal

pub returns-then-branch : goal.returns-then-branch
returns-then-branch c = record {
  plain = found_len c.args.clauses.now c.loop-at.at c.index-clauses-at.result c.loop-at-test.true c.index-clauses-at.is c.loop-at.invariant
      (so (Repeats c.index-clauses-at.result.clause) c.in_ok-repeats.field-0 c.if-branch.true c.in_ok-repeats.ensures.repeats);
}

pub loop-at-preserved : goal.loop-at-preserved
loop-at-preserved c =
    once_more c.args.clauses.now c.loop-at.at c.index-clauses-at.result c.loop-at-test.true c.index-clauses-at.is c.loop-at.invariant
    (not_so (Repeats c.index-clauses-at.result.clause) c.in_ok-repeats.field-0 c.if-branch.false c.in_ok-repeats.ensures.repeats)

pub returns : goal.returns
returns c = record { plain = whole_len c.args.clauses.now c.loop-at.at (omega (arith, c.loop-at-test.false)) c.loop-at.invariant }
