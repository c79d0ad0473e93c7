-- So many decisions are left, each with value 0.
use Rattle.std.proofs.Common.{◌≤◌}
use Rattle.osgi_resolver_search.proofs.Zeros.{HasMade}
use Rattle.osgi_resolver_search.proofs.strides.leap.Given as goal

abbrev pub invariant-loop-made : goal.invariant-loop-made
invariant-loop-made g l = record {
  has : HasMade (g.W.Walker.problem l.fn.walker) (g.W.Walker.problem l.walker) (g.W.Walker.word l.fn.walker) (g.W.Walker.word l.walker) l.made;
  most : l.made ≤ l.most;
}

abbrev pub decreases-loop-made : goal.decreases-loop-made
decreases-loop-made g l = l.made
