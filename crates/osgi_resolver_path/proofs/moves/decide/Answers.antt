-- The rows are those before the decision, and the queue has what becomes due.
use Rattle.std.proofs.Common.{◌≡◌, ◌+◌, ◌<◌, ◌++◌, ◌⊎◌, ◌∙◌, List, ap, length, refl, sym, subst, reverse}
use Rattle.osgi_resolver_decisions.specs.DecisionOf.{decision_of}
use Rattle.osgi_resolver_decisions.specs.computed.Asks.{decisions_in}
use Rattle.osgi_resolver_decisions.specs.declared.decision_ref.DecisionRef.{DecisionRef}
use Rattle.osgi_resolver_path.proofs.Fragments.{attached-next}
use Rattle.osgi_resolver_path.specs.computed.Attached.{AreAttached}
use Rattle.osgi_resolver_path.specs.computed.Courses.{made_of, steps_of}
use Rattle.osgi_resolver_path.specs.computed.Nexts.{made_with}
use Rattle.osgi_resolver_path.specs.computed.Openings.{IsOpened}
use Rattle.osgi_space_rows.specs.Rows.{RowLists}
use Rattle.osgi_space_rows.specs.Steps.{after_steps}
use Rattle.osgi_space_rows.specs.Worlds.{AreRowsIn}
use Rattle.osgi_uses.specs.States.{SpacesState, wirings_of}
use Rattle.osgi_world.specs.Decisions.{host}
use Rattle.osgi_world.specs.declared.world.World.{World}
use Rattle.osgi_resolver_path.proofs.moves.decide.Goals as goal

pub more_after-requires-clause-rows : goal.more_after-requires-clause-rows
more_after-requires-clause-rows c P ids in_it r n =
    let course = c.args.course.now in
    let rows = c.rows.result.now in
    let known = c.rows.ensures.known ∙ ap (λ (s : SpacesState). s.known) c.requires.spaces ∙ ap (λ (w : World). w.known) (sym in_it.world) in
    let there = subst (λ (w : World). AreRowsIn rows (after_steps w.wirings (steps_of (reverse course.marks.items)))) (sym in_it.world) (subst (λ (s : SpacesState). AreRowsIn rows (wirings_of s)) c.requires.spaces c.rows.ensures.rows) in
    subst (λ (R : RowLists). AreAttached R (made_of (reverse course.marks.items)) (host (decision_of c.args.mark.decision))) (sym c.rows-rows.ensures.rows)
    (attached-next P in_it.is course ids c.args.mark.decision c.args.mark.value r n rows known there)

pub returns-clause-decided : goal.returns-clause-decided
returns-clause-decided c =
    let course = c.args.course.now in
    let mark = c.args.mark in
    let more = c.in_ok-more.more in
    let queue : c.push.new.self ≡ course.queue ++ more.decisions = c.in_ok-push.ensures.added in
    record {
      ids = refl;
      more = more.decisions;
      queue = queue;
      opened = λ P ids in_it r n.
          let by = c.in_ok-more.ensures.more P ids in_it r n in (
            subst (λ (q : List DecisionRef). IsOpened P (made_with (reverse course.marks.items) mark.decision mark.value) course.ids.items (decisions_in q) more.last) (sym queue) by.opened,
            subst (λ (q : List DecisionRef). (length course.marks.items + 1 < length q) ⊎ (more.last + 1 ≡ length course.ids.items)) (sym queue) by.pending,
          );
    }
