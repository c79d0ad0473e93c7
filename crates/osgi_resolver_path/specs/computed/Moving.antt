-- One decision more, and what the lists know of the members then.
use Rattle.std.specs.Prelude.{◌≡◌, ℕ, ◌<◌, List, [], ◌∷◌, ◌++◌, length, reverse}
use Rattle.osgi_base.specs.declared.ids.RevisionId.{RevisionId}
use Rattle.osgi_world.specs.ChoiceWords.{width}
use Rattle.osgi_world.specs.Decisions.{adds, attached}
use Rattle.osgi_world.specs.Lists.{In}
use Rattle.osgi_world.specs.declared.problem.Problem.{Problem}
use Rattle.osgi_world.specs.declared.world.World.{World}
use Rattle.osgi_uses.specs.States.{SpacesState}
use Rattle.osgi_resolver_decisions.specs.DecisionOf.{decision_of}
use Rattle.osgi_resolver_path.specs.computed.Courses.{IsAlong, IsRight, lists_of, made_of, steps_of, taken_back}
use Rattle.osgi_resolver_decisions.specs.computed.Known.{IsProblemIn, Knows}
use Rattle.osgi_resolver_path.specs.computed.Placed.{ArePlaces}
use Rattle.osgi_resolver_path.specs.computed.Steps.{IsListed, steps_in}
use Rattle.osgi_resolver_path.specs.declared.course.Course.{Course}
use Rattle.osgi_resolver_path.specs.declared.course.Mark.{Mark}
use Rattle.osgi_resolver_decisions.specs.declared.decision_ref.DecisionRef.{DecisionRef}
use Rattle.osgi_resolver_decisions.specs.declared.lists.Lists.{Lists}

-- the lists know the members, and the fragments that are attached
pub record AreLearnt (lists : Lists) (ids : List RevisionId) (ms : List Mark) : Type 0 where
  pub members : (m : RevisionId) → In m ids → Knows lists m
  pub fragments : (m : Mark) (h f : RevisionId) → In m ms → steps_in m.step ≡ attached h f ∷ [] → Knows lists f

-- they know those of the course
abbrev pub IsLearnt : Lists → Course → Type 0
IsLearnt lists c = AreLearnt lists c.ids.items (reverse c.marks.items)

-- the mark of the next decision, with what it adds
pub record IsMarkOf (lists : Lists) (c : Course) (decision : DecisionRef) (value : ℕ) (mark : Mark) : Type 0 where
  pub decision_is : mark.decision ≡ decision
  pub value_is : mark.value ≡ value
  pub ids : mark.ids ≡ length c.ids.items
  pub queue : mark.queue ≡ length c.queue
  pub last : mark.last ≡ c.last
  pub step : (P : Problem) → IsProblemIn lists.offers P → IsListed lists P decision → steps_in mark.step ≡ adds P (decision_of decision) value

-- the course and the wirings have one decision more, which has this value
pub record IsLonger (offers : World) (old new : Course) (s t : SpacesState) (value : ℕ) : Type 0 where
  pub mark : Mark
  pub value_is : mark.value ≡ value
  pub marks : new.marks.items ≡ old.marks.items ++ mark ∷ []
  pub steps : t ≡ record s { steps = steps_in mark.step ++ s.steps }
  pub before : taken_back mark (lists_of new) ≡ lists_of old
  pub right : (P : Problem) → IsProblemIn offers P → IsRight P (reverse old.marks.items) (lists_of old) → value < width P (made_of (reverse old.marks.items)) → IsRight P (mark ∷ reverse old.marks.items) (lists_of new)

-- these are the wirings of the world with what the decisions of the course add
abbrev pub IsSpaceOf : World → Course → SpacesState → Type 0
IsSpaceOf world c spaces = spaces ≡ record { known = world.known; wirings = world.wirings; steps = steps_of (reverse c.marks.items) }

-- the course stands at a word of each problem of resolving the root in the world, and the rest is as it should be there
pub record IsOnWay (world : World) (root : RevisionId) (lists : Lists) (spaces : SpacesState) (c : Course) : Type 0 where
  pub offers : lists.offers ≡ world
  pub learnt : IsLearnt lists c
  pub placed : ArePlaces c.places c.ids.items
  pub spaces_are : IsSpaceOf world c spaces
  pub along : (P : Problem) → IsProblemIn world P → P.root ≡ root → IsAlong P (lists_of c) (reverse c.marks.items)
