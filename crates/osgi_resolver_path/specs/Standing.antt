-- How far a search has come, as contracts see it: the values of the decisions that are made, of the problem of resolving a root in
-- a world.
use Rattle.std.specs.Prelude.{◌≡◌, ◌<◌, ℕ, List}
use Rattle.osgi_base.specs.declared.ids.RevisionId.{RevisionId}
use Rattle.osgi_world.specs.Candidates.{IsProblem}
use Rattle.osgi_world.specs.ChoiceWords.{made_by, width}
use Rattle.osgi_world.specs.Decisions.{Made}
use Rattle.osgi_world.specs.declared.problem.Problem.{Problem}
use Rattle.osgi_world.specs.declared.world.World.{World}

pub record Standing : Type 0 where
  pub world : World
  pub root : RevisionId
  pub word : List ℕ

-- P is a problem of resolving the root in the world. Where the world is consistent and in order, and the root is unresolved, there is
-- one (`has_problem` of osgi_resolver_theory), and two such problems differ only in what no word looks at
pub record IsProblemOf (s : Standing) (P : Problem) : Type 0 where
  pub world : P.world ≡ s.world
  pub root_is : P.root ≡ s.root
  pub is : IsProblem P

-- what is decided
abbrev pub made : Problem → Standing → Made
made P s = made_by P s.word

-- it is so with the problem and with what is decided: whichever of its problems is taken
abbrev pub At : Standing → (Problem → Made → Type 0) → Type 0
At s F = (P : Problem) → IsProblemOf s P → F P (made P s)

-- the value is in range for the next decision
pub record HasValue (s : Standing) (value : ℕ) : Type 0 where
  pub problem : Problem
  pub of : IsProblemOf s problem
  pub fits : value < width problem (made problem s)
