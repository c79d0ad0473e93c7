-- The search stands after as many words as it has visited; those of the budget that are left get fewer.
use Rattle.std.proofs.Common.{◌-◌, ◌≤◌}
use Rattle.osgi_resolver_search.proofs.Stands.{IsStanding}
use Rattle.osgi_resolver_search.proofs.depth_first.search.Given as goal

abbrev pub invariant-loop-visited : goal.invariant-loop-visited
invariant-loop-visited g l = record {
  standing : IsStanding (g.W.Walker.problem l.fn.walker) (g.W.Walker.problem l.walker) (g.W.Walker.word l.walker) l.visited;
  within : l.visited ≤ l.budget;
}

abbrev pub decreases-loop-visited : goal.decreases-loop-visited
decreases-loop-visited g l = l.budget - l.visited
