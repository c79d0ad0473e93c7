-- When the decisions of a course are those of a word.
use Rattle.std.specs.Prelude.{◌≡◌, ℕ, ◌+◌, ◌<◌, ◌≤◌, ◌⊎◌, List, [], ◌∷◌, ◌++◌, length, flat_map, take}
use Rattle.osgi_base.specs.declared.ids.RevisionId.{RevisionId}
use Rattle.osgi_world.specs.ChoiceWords.{IsWord, made_by}
use Rattle.osgi_world.specs.Decisions as decisions
use Rattle.osgi_world.specs.Decisions.{Made, adds}
use Rattle.osgi_world.specs.DueDecisions.{due_decisions, members, payload}
use Rattle.osgi_world.specs.Lists.{In}
use Rattle.osgi_world.specs.declared.problem.Problem.{Problem}
use Rattle.osgi_world.specs.declared.wiring.ReqRef.{ReqRef}
use Rattle.osgi_resolver_decisions.specs.DecisionOf.{decision_of}
use Rattle.osgi_resolver_decisions.specs.computed.Asks.{decisions_in}
use Rattle.osgi_resolver_decisions.specs.computed.Known.{Knows}
use Rattle.osgi_resolver_path.specs.computed.Steps.{steps_in}
use Rattle.osgi_resolver_path.specs.declared.course.Course.{Course}
use Rattle.osgi_resolver_path.specs.declared.course.Mark.{Mark}
use Rattle.osgi_resolver_decisions.specs.declared.decision_ref.DecisionRef.{DecisionRef}
use Rattle.osgi_resolver_decisions.specs.declared.lists.Lists.{Lists}

pub record CourseLists : Type 0 where
  pub ids : List RevisionId
  pub queue : List DecisionRef
  pub last : ℕ

abbrev pub lists_of : Course → CourseLists
lists_of c = record { ids = c.ids.items; queue = c.queue; last = c.last }

-- ---- marks, the last first

abbrev pub made_of : List Mark → Made
made_of [] = []
made_of (m ∷ ms) = (decision_of m.decision, m.value) ∷ made_of ms

abbrev pub word_of : List Mark → List ℕ
word_of [] = []
word_of (m ∷ ms) = word_of ms ++ m.value ∷ []

abbrev pub steps_of : List Mark → List decisions.Step
steps_of [] = []
steps_of (m ∷ ms) = steps_in m.step ++ steps_of ms

-- each mark has what its decision added
abbrev pub AreSteps : Problem → List Mark → Type 0
AreSteps P [] = Unit {0}
AreSteps P (m ∷ ms) = (steps_in m.step ≡ adds P (decision_of m.decision) m.value) × AreSteps P ms

-- ---- at a word

-- the lists know the candidates of each requirement of a member's payload
abbrev pub AreKnown : Problem → Lists → Made → List RevisionId → Type 0
AreKnown P lists D ids = (m : RevisionId) (q : ReqRef) → In m ids → In q (payload P D m) → Knows lists q.owner

-- the marks make a word, and the members and their decisions are those of what it decides
pub record IsRight (P : Problem) (ms : List Mark) (F : CourseLists) : Type 0 where
  pub word : IsWord P (word_of ms)
  pub is : made_by P (word_of ms) ≡ made_of ms
  pub steps : AreSteps P ms
  pub ids : F.ids ≡ members P (made_of ms)
  pub queue : decisions_in F.queue ≡ flat_map (due_decisions P (made_of ms)) (take (F.last + 1) F.ids)
  -- the decisions of the members before the last of these are made
  pub done : length (flat_map (due_decisions P (made_of ms)) (take F.last F.ids)) ≤ length ms
  pub within : length ms ≤ length F.queue
  pub last_in : F.last < length F.ids
  pub pending : (length ms < length F.queue) ⊎ (F.last + 1 ≡ length F.ids)

-- as the course was before the mark
abbrev pub taken_back : Mark → CourseLists → CourseLists
taken_back m F = record { ids = take m.ids F.ids; queue = take m.queue F.queue; last = m.last }

-- it is right at each mark
abbrev pub IsAlong : Problem → CourseLists → List Mark → Type 0
IsAlong P F [] = IsRight P [] F
IsAlong P F (m ∷ ms) = IsRight P (m ∷ ms) F × IsAlong P (taken_back m F) ms
