-- Between two words: the values below the present one are tried; the values that are left get fewer.
use Rattle.std.proofs.Common.{◌<◌, ◌^◌}
use Rattle.osgi_resolver_theory.proofs.Left.{left}
use Rattle.osgi_resolver_search.proofs.Midway.{IsMidway}
use Rattle.osgi_resolver_search.proofs.steps.advance.Given as goal

abbrev pub invariant-loop-value : goal.invariant-loop-value
invariant-loop-value g l = record {
  midway : IsMidway (g.W.Walker.problem l.fn.walker) (g.W.Walker.problem l.walker) (g.W.Walker.word l.fn.walker) (g.W.Walker.word l.walker) l.value l.values;
  fits : l.values < 2 ^ 64;
}

abbrev pub decreases-loop-value : goal.decreases-loop-value
decreases-loop-value g l = left (g.W.Walker.problem l.fn.walker) (g.W.Walker.word l.walker) l.value
