-- The next decision of a course, and what it makes due.
use Rattle.std.specs.Prelude.{◌≡◌, ℕ, ◌+◌, ◌<◌, ◌⊎◌, List, ◌∷◌, ◌++◌, length, reverse, slice_get, Option, Some}
use Rattle.std.specs.Option.{option_to_list}
use Rattle.osgi_base.specs.declared.ids.RevisionId.{RevisionId}
use Rattle.osgi_world.specs.Decisions.{Made, arity, host}
use Rattle.osgi_world.specs.DueDecisions.{members}
use Rattle.osgi_world.specs.declared.problem.Problem.{Problem}
use Rattle.osgi_world.specs.declared.world.World.{World}
use Rattle.osgi_resolver_decisions.specs.DecisionOf.{decision_of}
use Rattle.osgi_resolver_decisions.specs.computed.Asks.{decisions_in}
use Rattle.osgi_resolver_path.specs.computed.Courses.{IsRight, lists_of, made_of}
use Rattle.osgi_resolver_decisions.specs.computed.Known.{IsProblemIn}
use Rattle.osgi_space_rows.specs.Rows.{RowLists}
use Rattle.osgi_resolver_path.specs.computed.Attached.{AreAttached}
use Rattle.osgi_resolver_path.specs.computed.Openings.{IsOpened}
use Rattle.osgi_resolver_path.specs.declared.course.Course.{Course}
use Rattle.osgi_resolver_path.specs.declared.course.Mark.{Mark}
use Rattle.osgi_resolver_decisions.specs.declared.decision_ref.DecisionRef.{DecisionRef}
use Rattle.osgi_resolver_path.specs.declared.opening.More.{More}

-- what is decided then
abbrev pub made_with : List Mark → DecisionRef → ℕ → Made
made_with ms decision value = (decision_of decision, value) ∷ made_of ms

-- the decision is next, the value in range, and the members that the course had before, with who joins, are those then
pub record IsNextOf (P : Problem) (c : Course) (ids : List RevisionId) (decision : DecisionRef) (value : ℕ) : Type 0 where
  pub next : slice_get c.queue (length c.marks.items) ≡ Some decision
  pub range : value < arity P (decision_of decision)
  pub joined : List RevisionId
  pub ids_are : c.ids.items ≡ ids ++ joined
  pub members_are : c.ids.items ≡ members P (made_with (reverse c.marks.items) decision value)

-- with these decisions more the queue is that of the members that are opened then, and a decision waits or none is left
pub record IsOpenedBy (P : Problem) (c : Course) (decision : DecisionRef) (value : ℕ) (more : More) : Type 0 where
  pub opened : IsOpened P (made_with (reverse c.marks.items) decision value) c.ids.items (decisions_in (c.queue ++ more.decisions)) more.last
  pub pending : (length c.marks.items + 1 < length (c.queue ++ more.decisions)) ⊎ (more.last + 1 ≡ length c.ids.items)

-- where the decision is next, these rows attach the fragments of its host that are attached before it
abbrev pub AreRowsBefore : RowLists → World → Course → DecisionRef → ℕ → Type 0
AreRowsBefore R offers c decision value = (P : Problem) (ids : List RevisionId) → IsProblemIn offers P → IsRight P (reverse c.marks.items) (record (lists_of c) { ids = ids }) → IsNextOf P c ids decision value →
    AreAttached R (made_of (reverse c.marks.items)) (host (decision_of decision))

-- its members, queue and marks are as before
pub record IsSameCourse (old new : Course) : Type 0 where
  pub lists : lists_of new ≡ lists_of old
  pub marks : new.marks.items ≡ old.marks.items

-- the decision of the mark is made: the members stay, the queue is longer, and it is opened as it should be
pub record IsDecidedBy (offers : World) (old new : Course) (mark : Mark) : Type 0 where
  pub ids : new.ids.items ≡ old.ids.items
  pub more : List DecisionRef
  pub queue : new.queue ≡ old.queue ++ more
  pub opened : (P : Problem) (ids : List RevisionId) → IsProblemIn offers P → IsRight P (reverse old.marks.items) (record (lists_of old) { ids = ids }) → IsNextOf P old ids mark.decision mark.value →
      IsOpened P (made_with (reverse old.marks.items) mark.decision mark.value) new.ids.items (decisions_in new.queue) new.last
      × ((length old.marks.items + 1 < length new.queue) ⊎ (new.last + 1 ≡ length new.ids.items))

-- the same, with who joins
pub record IsDecidedWith (offers : World) (old new : Course) (mark : Mark) (joining : Option RevisionId) : Type 0 where
  pub ids : new.ids.items ≡ old.ids.items ++ option_to_list joining
  pub more : List DecisionRef
  pub queue : new.queue ≡ old.queue ++ more
  pub opened : (P : Problem) → IsProblemIn offers P → IsRight P (reverse old.marks.items) (lists_of old) → slice_get old.queue (length old.marks.items) ≡ Some mark.decision → mark.value < arity P (decision_of mark.decision) →
      new.ids.items ≡ members P (made_with (reverse old.marks.items) mark.decision mark.value) →
      IsOpened P (made_with (reverse old.marks.items) mark.decision mark.value) new.ids.items (decisions_in new.queue) new.last
      × ((length old.marks.items + 1 < length new.queue) ⊎ (new.last + 1 ≡ length new.ids.items))
