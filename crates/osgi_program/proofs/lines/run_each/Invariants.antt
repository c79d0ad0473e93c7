-- The lines so far were not cut, and made the calls so far, in the same pass.
use Rattle.std.proofs.Common.{take}
use Rattle.osgi_program.proofs.Runs.{SoFar}
use Rattle.osgi_runner.specs.Passes.{calls_of, Grown}
use Rattle.osgi_session.specs.Scripts.{sections_of}
use Rattle.osgi_program.proofs.lines.run_each.Given as goal

abbrev pub invariant-loop-line : goal.invariant-loop-line
invariant-loop-line g l = record {
  so_far : SoFar (sections_of l.runner.scripts.now) (take l.line-index l.lines) (calls_of l.initial.pass) (calls_of l.pass);
  grown : Grown l.initial.pass l.pass;
}
