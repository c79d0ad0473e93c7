-- What was read is the one answer.
use Rattle.std.proofs.Common.{◌∙◌}
use Rattle.std.specs.Str.Lines.{lines}
use Rattle.std.proofs.lemmas.Result.{IfOk-weaker}
use Rattle.osgi_script.proofs.ScriptReading.{answer_sound, fault_read, script_read}
use Rattle.osgi_script.proofs.script_text.parse.Goals as goal

pub returns-clause-reads : goal.returns-clause-reads
returns-clause-reads c = IfOk-weaker c.read.result _ _ (λ answer is. answer_sound (lines c.args.bytes.now) answer is) c.read.ensures.answer

pub returns-clause-only : goal.returns-clause-only
returns-clause-only c = λ other reads. IfOk-weaker c.read.result _ _ (λ answer is. is ∙ script_read (lines c.args.bytes.now) other reads 0) c.read.ensures.answer

pub returns-clause-fault : goal.returns-clause-fault
returns-clause-fault c = λ other is_fault. IfOk-weaker c.read.result _ _ (λ answer is. is ∙ fault_read (lines c.args.bytes.now) other is_fault) c.read.ensures.answer
