-- What stands before the first line end is a line, and without one all is one line.
use Rattle.std.proofs.Common.{sym}
use Rattle.std.proofs.lemmas.Bool.{eq-eqb, eqb-true}
use Rattle.osgi_syntax.specs.laws.Lines.{begins_last, line_at, no_line}
use Rattle.osgi_syntax.proofs.lines.split_line.Goals as goal

pub returns-then-is_empty : goal.returns-then-is_empty
returns-then-is_empty c = record { lines = no_line c.args.bytes.now (eqb-true _ 0 (sym c.if-is_empty.ensures)) }

pub returns-in-Some : goal.returns-in-Some
returns-in-Some c =
    record { lines = rw (c.strip_return.ensures.stripped, c.split_at.ensures.front, c.split_at-in-Some.ensures.back) (line_at c.args.bytes.now c.in-Some.end (sym c.in-Some.ensures.place)) }

pub returns-in-None : goal.returns-in-None
returns-in-None c = record {
  lines = rw (c.split_at-in-None.ensures.front, c.split_at-in-None.ensures.back)
      (begins_last c.args.bytes.now (λ none. absurd (cc (c.if-is_empty.ensures, eq-eqb _ 0 none))) (sym c.in-None.ensures.place));
}
