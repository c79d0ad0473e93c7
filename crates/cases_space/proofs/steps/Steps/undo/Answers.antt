-- One step fewer is counted.
use Rattle.cases_space.proofs.Undoing.{one-less}
use Rattle.cases_space.proofs.steps.Steps.undo.Goals as goal

pub invariant_of-self : goal.invariant_of-self
invariant_of-self c = record {
  counted = one-less c.args.self.now.spaces c.undo.new.self c.args.self.now.count (search) (search) c.undo.ensures.undone;
}
