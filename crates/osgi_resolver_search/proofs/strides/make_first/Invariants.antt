-- So many decisions are made, each with value 0.
use Rattle.osgi_resolver_search.proofs.Zeros.{HasMade}
use Rattle.osgi_resolver_search.proofs.strides.make_first.Given as goal

abbrev pub invariant-loop-made : goal.invariant-loop-made
invariant-loop-made g l = HasMade (g.W.Walker.problem l.fn.walker) (g.W.Walker.problem l.walker) (g.W.Walker.word l.fn.walker) (g.W.Walker.word l.walker) l.made
