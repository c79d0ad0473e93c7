-- What says nothing is read so, and nothing else is.
use Rattle.std.proofs.Common.{◌∙◌, sym}
use Rattle.osgi_syntax.specs.laws.Lines.{silent_read, silent_sound}
use Rattle.osgi_syntax.proofs.lines.says_nothing.Goals as goal

pub returns-clause-reads : goal.returns-clause-reads
returns-clause-reads c = (
  λ is. silent_sound c.args.line.now (sym c.is_silent.ensures.silent ∙ is),
  λ nothing. c.is_silent.ensures.silent ∙ silent_read c.args.line.now nothing,
)
