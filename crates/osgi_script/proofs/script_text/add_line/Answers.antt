-- A statement adds what it adds to the parts.
use Rattle.std.proofs.Common.{◌∙◌, sym}
use Rattle.std.proofs.lemmas.Result.{IfOk-weaker}
use Rattle.osgi_script.proofs.ScriptReading.{statement_in_place}
use Rattle.osgi_script.proofs.script_text.add_line.Goals as goal

pub returns-in-Statement : goal.returns-in-Statement
returns-in-Statement c = record {
  added = λ taken.
      IfOk-weaker c.add_statement.result _ _
      (λ added is.
      statement_in_place c.args.taken.now c.args.parts.now.items c.as_mut_slice.result.now c.add_statement.new.parts c.args.parts.now.len c.in-Statement.statement c.args.text.now added
      (sym c.in_ok-script_line.ensures.line ∙ c.in-Statement.is) c.as_mut_slice.ensures.value c.as_mut_slice.ensures.len taken is)
      c.add_statement.ensures.added;
}
