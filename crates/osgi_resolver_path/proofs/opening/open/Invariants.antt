-- What is opened so far stands as it should.
use Rattle.std.proofs.Common.{◌≡◌, ◌<◌, ◌-◌, ◌++◌, List, length}
use Rattle.osgi_world.specs.Decisions as decisions
use Rattle.osgi_world.specs.Decisions.{Made}
use Rattle.osgi_world.specs.DueDecisions.{members}
use Rattle.osgi_world.specs.declared.problem.Problem.{Problem}
use Rattle.osgi_resolver_theory.specs.States.{State}
use Rattle.osgi_resolver_decisions.specs.computed.Asks.{decisions_in}
use Rattle.osgi_resolver_decisions.specs.computed.Known.{IsProblemIn, KnowsMore}
use Rattle.osgi_resolver_path.specs.computed.Openings.{IsOpened}
use Rattle.osgi_resolver_path.proofs.opening.open.Given as goal

abbrev pub invariant-members : goal.invariant-members
invariant-members l = record {
  kept : KnowsMore l.initial.lists l.lists;
  last_in : l.last < length l.ids;
  opened : (P : Problem) (D : Made) (qs : List decisions.Decision) → IsProblemIn l.initial.lists.offers P → State P D → l.ids ≡ members P D → length qs ≡ length D →
      IsOpened P D l.ids (qs ++ decisions_in l.initial.decisions) l.initial.last → IsOpened P D l.ids (qs ++ decisions_in l.decisions) l.last;
}

abbrev pub decreases-members : goal.decreases-members
decreases-members l = length l.ids - l.last
