-- The values below the present one are tried; with each decision fewer are open.
use Rattle.osgi_resolver_theory.proofs.Ends.{open_count}
use Rattle.osgi_world.specs.ChoiceWords.{made_by}
use Rattle.cases_slow_search.proofs.Moves.{IsTrying}
use Rattle.cases_slow_search.proofs.all_words.+look_below.Given as goal

abbrev pub decreases-look_below : goal.decreases-look_below
decreases-look_below g l = open_count (g.W.Walker.problem l.walker.now) (made_by (g.W.Walker.problem l.walker.now) (g.W.Walker.word l.walker.now))

abbrev pub invariant-loop-value : goal.invariant-loop-value
invariant-loop-value g l = IsTrying (g.W.Walker.problem l.fn.walker) (g.W.Walker.problem l.walker) (g.W.Walker.word l.fn.walker) (g.W.Walker.word l.walker) l.value l.visited l.budget
