-- A decision with who joins by it.
use Rattle.std.proofs.Common.{◌≡◌, ℕ, ◌+◌, ◌<◌, ◌⊎◌, length, List, ◌++◌, reverse, Option, Some, sym, ◌∙◌, ap, subst}
use Rattle.std.specs.Prelude.{slice_get}
use Rattle.std.specs.Option.{option_to_list}
use Rattle.osgi_base.specs.declared.ids.RevisionId.{RevisionId}
use Rattle.osgi_world.specs.Decisions.{arity}
use Rattle.osgi_world.specs.DueDecisions.{members}
use Rattle.osgi_world.specs.declared.problem.Problem.{Problem}
use Rattle.osgi_world.specs.declared.world.World.{World}
use Rattle.osgi_resolver_decisions.specs.DecisionOf.{decision_of}
use Rattle.osgi_resolver_decisions.specs.computed.Asks.{decisions_in}
use Rattle.osgi_resolver_path.specs.computed.Courses.{CourseLists, IsRight, lists_of}
use Rattle.osgi_resolver_path.specs.computed.Nexts.{IsDecidedBy, IsDecidedWith, made_with}
use Rattle.osgi_resolver_path.specs.computed.Openings.{IsOpened}
use Rattle.osgi_resolver_path.specs.declared.course.Course.{Course}
use Rattle.osgi_resolver_path.specs.declared.course.Mark.{Mark}
use Rattle.osgi_resolver_decisions.specs.declared.decision_ref.DecisionRef.{DecisionRef}

-- what is so of a problem, where the marks, the queue and the last opened member were these
abbrev Says : Problem → Course → Mark → List RevisionId → List Mark → List DecisionRef → ℕ → Type 0
Says P new mark ids ms q k =
    IsRight P (reverse ms) (record { ids = ids; queue = q; last = k }) → slice_get q (length ms) ≡ Some mark.decision → mark.value < arity P (decision_of mark.decision) →
    new.ids.items ≡ members P (made_with (reverse ms) mark.decision mark.value) →
    IsOpened P (made_with (reverse ms) mark.decision mark.value) new.ids.items (decisions_in new.queue) new.last
    × ((length ms + 1 < length new.queue) ⊎ (new.last + 1 ≡ length new.ids.items))

pub with-joined : (offers : World) (old between new : Course) (mark : Mark) (joining : Option RevisionId) → lists_of between ≡ record (lists_of old) { ids = old.ids.items ++ option_to_list joining } → between.marks.items ≡ old.marks.items →
    IsDecidedBy offers between new mark → IsDecidedWith offers old new mark joining
with-joined offers old between new mark joining joined marks by =
    let ids-are : between.ids.items ≡ old.ids.items ++ option_to_list joining = ap (λ (F : CourseLists). F.ids) joined in
    let queue-is : between.queue ≡ old.queue = ap (λ (F : CourseLists). F.queue) joined in
    let last-is : between.last ≡ old.last = ap (λ (F : CourseLists). F.last) joined in
    record {
      ids = by.ids ∙ ids-are;
      more = by.more;
      queue = by.queue ∙ ap (λ q. q ++ by.more) queue-is;
      opened = λ P in_it.
          let here : Says P new mark old.ids.items between.marks.items between.queue between.last
          = λ r next range are. by.opened P old.ids.items in_it r (record { next = next; range = range; joined = option_to_list joining; ids_are = ids-are; members_are = sym by.ids ∙ are }) in
          subst (λ k. Says P new mark old.ids.items old.marks.items old.queue k) last-is
          (subst (λ q. Says P new mark old.ids.items old.marks.items q between.last) queue-is
          (subst (λ ms. Says P new mark old.ids.items ms between.queue between.last) marks here));
    }
