-- The problem is one.
use Rattle.std.proofs.Common.{refl}
use Rattle.osgi_candidates.specs.computed.Fitting.{IsFit}
use Rattle.osgi_candidates.proofs.Posed.{problem_is}
use Rattle.osgi_world.specs.declared.problem.Problem.{Problem}
use Rattle.osgi_candidates.proofs.choices.problem.Goals as goal

pub returns : goal.returns
returns c =
    let P : Problem = record { world = c.args.world; root = c.args.root; choices = c.in_ok-choices.choices } in
    let is = c.requires.resolvable in
    let fit : IsFit c.args.world = record { world_is = is.is_world; ordered = is.ordered; consistent = is.consistent } in
    let rows = c.in_ok-choices.ensures.choices fit in
    record { world = refl; root = refl; problem = problem_is P rows fit is.unresolved; rows = rows.listed }
