-- Choice words: the values of the decisions of a resolve, one after the other, each in range for its decision. A word is a
-- path from the root of the resolver's search tree.
use Rattle.std.specs.Prelude.{◌≡◌, ℕ, ◌<◌, List, [], ◌∷◌, Option, None, Some}
use Rattle.osgi_world.specs.Consistency.{Extends}
use Rattle.osgi_world.specs.Decisions.{Decision, Made, arity}
use Rattle.osgi_world.specs.DueDecisions.{next_decision}
use Rattle.osgi_world.specs.Partial.{partial}
use Rattle.osgi_world.specs.declared.problem.Problem.{Problem}
use Rattle.osgi_world.specs.declared.wiring.Wiring.{Wiring}

-- how many values a decision has; 0 where there is none
abbrev pub arity_of : Problem → Option Decision → ℕ
arity_of P None = 0
arity_of P (Some d) = arity P d

-- how many values the next decision has; 0 where none is left
abbrev pub width : Problem → Made → ℕ
width P D = arity_of P (next_decision P D)

-- the decision, if there is one, is made with this value
abbrev pub make : Option Decision → Made → ℕ → Made
make None D v = D
make (Some d) D v = (d, v) ∷ D

-- the next decision is made with this value
abbrev pub decide : Problem → Made → ℕ → Made
decide P D v = make (next_decision P D) D v

-- what is made after the values of w
abbrev pub made_after : Problem → Made → List ℕ → Made
made_after P D [] = D
made_after P D (v ∷ w) = made_after P (decide P D v) w

-- each number is in range for its decision, after what is made
abbrev pub FitsFrom : Problem → Made → List ℕ → Type 0
FitsFrom P D [] = Unit {0}
FitsFrom P D (v ∷ w) = (v < width P D) × FitsFrom P (decide P D v) w

-- a list of numbers, each in range for its decision
abbrev pub IsWord : Problem → List ℕ → Type 0
IsWord P w = FitsFrom P [] w

-- what a word decides
abbrev pub made_by : Problem → List ℕ → Made
made_by P w = made_after P [] w

-- no decision is left
abbrev pub IsComplete : Problem → List ℕ → Type 0
IsComplete P w = next_decision P (made_by P w) ≡ None

-- the wirings that w decides, with those that are there already
abbrev pub partial_of : Problem → List ℕ → List Wiring
partial_of P w = partial P (made_by P w)

-- a complete word whose wirings extend those that are there
abbrev pub IsGood : Problem → List ℕ → Type 0
IsGood P w = IsWord P w × IsComplete P w × Extends P.world.known P.world.wirings (partial_of P w) P.root
