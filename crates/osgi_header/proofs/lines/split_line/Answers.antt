-- The bytes begin with their first line, where they do not end the section.
use Rattle.std.proofs.Common.{◌≢◌, ◌<◌, length, sym, ◌∙◌, arith}
use Rattle.std.specs.List.{prefix_len}
use Rattle.std.proofs.lemmas.Bool.{eqb-false, eqb-true}
use Rattle.std.proofs.lemmas.List.Sums.{prefix_len-le-length}
use Rattle.osgi_header.proofs.LineReading.{begins, ends_section}
use Rattle.osgi_header.specs.Lines.{is_line_byte}
use Rattle.osgi_header.proofs.lines.split_line.Goals as goal

pub split_at-requires : goal.split_at-requires
split_at-requires c = omega (arith, c.line_len.ensures.len, prefix_len-le-length is_line_byte c.args.bytes.now)

pub returns-then-is_empty : goal.returns-then-is_empty
returns-then-is_empty c =
    let none = eqb-true (length c.split_at.result.0.now) 0 (sym c.is_empty.ensures ∙ c.if-is_empty.true) in
    record { line = ends_section c.args.bytes.now (omega (arith, none, c.split_at.ensures.front_len, c.line_len.ensures.len)) }

pub returns : goal.returns
returns c =
    let other : length c.split_at.result.0.now ≢ 0 = eqb-false (length c.split_at.result.0.now) 0 (sym c.is_empty.ensures ∙ c.if-is_empty.false) in
    let some : 0 < prefix_len is_line_byte c.args.bytes.now = omega (arith, other, c.split_at.ensures.front_len, c.line_len.ensures.len) in
    record {
      line = rw (c.skip_end.ensures.rest, c.split_at.ensures.front, c.split_at.ensures.back, c.line_len.ensures.len) (begins c.args.bytes.now some);
    }
