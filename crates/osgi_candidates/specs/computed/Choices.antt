-- The rows of a problem: the requirements that can be asked, each with its candidates.
use Rattle.std.specs.Prelude.{◌≡◌, ◌++◌, List, filter, map}
use Rattle.osgi_candidates.specs.computed.Collecting.{AreCandidates}
use Rattle.osgi_resolver_theory.specs.WorldProblems.{asked_requirements, can_be_asked}
use Rattle.osgi_world.specs.Candidates.{CanBeAsked}
use Rattle.osgi_world.specs.Lists.{In}
use Rattle.osgi_world.specs.declared.problem.Choice.{Choice}
use Rattle.osgi_world.specs.declared.wiring.ReqRef.{ReqRef}
use Rattle.osgi_world.specs.declared.world.World.{World}

-- the row has the candidates of a requirement that can be asked
pub record IsChoice (w : World) (c : Choice) : Type 0 where
  pub asked : CanBeAsked w.known c.requirement
  pub candidates : AreCandidates w c.requirement c.candidates

abbrev pub AreGoodChoices : World → List Choice → Type 0
AreGoodChoices w choices = (c : Choice) → In c choices → IsChoice w c

abbrev pub requirements : List Choice → List ReqRef
requirements choices = map (λ (c : Choice). c.requirement) choices

-- behind what was there stands a row for each of the requirements that can be asked
pub record AddsChoices (w : World) (qs : List ReqRef) (old new : List Choice) : Type 0 where
  pub good : AreGoodChoices w old → AreGoodChoices w new
  pub listed : requirements new ≡ requirements old ++ filter (can_be_asked w.known) qs

-- a row for each requirement that can be asked, in their order
pub record AreChoices (w : World) (choices : List Choice) : Type 0 where
  pub good : AreGoodChoices w choices
  pub listed : requirements choices ≡ asked_requirements w.known
