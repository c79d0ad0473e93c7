-- What was noted stays so.
use Rattle.osgi_space_sources.proofs.Tracing.{keeps-then}
use Rattle.osgi_space_sources.proofs.trace.trace_source.Goals as goal

pub returns-clause-kept : goal.returns-clause-kept
returns-clause-kept c = keeps-then c.in_ok-note.ensures.kept c.in_ok-follow.ensures.kept
