-- The statement joins the last part where there is one and it has room.
use Rattle.std.proofs.lemmas.Result.{IfOk-weaker}
use Rattle.osgi_script.proofs.ScriptReading.{part_added}
use Rattle.osgi_script.proofs.script_text.add_statement.Goals as goal

pub returns-in-Some : goal.returns-in-Some
returns-in-Some c = record {
  added = IfOk-weaker c.push_statement.result _ _
      (λ added pushed.
      part_added c.args.parts.now c.in-Some.part.now c.args.statement c.push_statement.new.statements added c.in-Some.ensures.item.3.0 c.in-Some.ensures.item.1 pushed)
      c.push_statement.ensures.added;
}
