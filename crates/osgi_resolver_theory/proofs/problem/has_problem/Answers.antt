-- The problem that lists all candidates is one.
use Rattle.std.proofs.Common.{refl}
use Rattle.osgi_resolver_theory.specs.WorldProblems.{the_problem}
use Rattle.osgi_resolver_theory.proofs.WorldProblems.{the_problem-is}
use Rattle.osgi_resolver_theory.proofs.problem.has_problem.Goals as goal

pub returns : goal.returns
returns c = record {
  is = the_problem-is;
  exists = λ W root is. (the_problem W root, refl, refl, the_problem-is W root is);
}
