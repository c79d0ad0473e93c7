-- Other decisions wait, or members are opened.
use Rattle.std.proofs.Common.{◌≡◌, ◌+◌, ◌∷◌, ◌++◌, List, length, reverse, refl, sym, ◌∙◌, subst, arith}
use Rattle.std.proofs.lemmas.List.{length-map}
use Rattle.std.proofs.lemmas.Option.{slice_get_within}
use Rattle.osgi_base.specs.declared.ids.RevisionId.{RevisionId}
use Rattle.osgi_world.specs.Decisions.{Made}
use Rattle.osgi_world.specs.DueDecisions.{members}
use Rattle.osgi_resolver_decisions.specs.DecisionOf.{decision_of}
use Rattle.osgi_resolver_decisions.specs.computed.Asks.{decisions_in}
use Rattle.osgi_resolver_path.specs.computed.Courses.{made_of}
use Rattle.osgi_resolver_decisions.specs.computed.Known.{IsProblemIn}
use Rattle.osgi_resolver_path.specs.computed.Openings.{IsOpened, Waits}
use Rattle.osgi_resolver_path.proofs.After.{all-then, opened-then, size, state-then, waiting-then}
use Rattle.osgi_resolver_path.proofs.moves.more_after.Goals as goal

pub returns-then-len-clause-more : goal.returns-then-len-clause-more
returns-then-len-clause-more c P ids in_it r n = waiting-then P in_it.is c.args.course.now ids c.args.decision c.args.value r n _ (omega arith) c.none.ensures.none refl

pub returns-clause-more : goal.returns-clause-more
returns-clause-more c P ids in_it r n =
    let course = c.args.course.now in
    let d = decision_of c.args.decision in
    let value = c.args.value in
    let D : Made = (d, value) ∷ made_of (reverse course.marks.items) in
    let qs = decisions_in course.queue in
    let first = decisions_in c.in_ok-decisions.decisions in
    let more = c.in_ok-open.field-0 in
    let within = slice_get_within course.queue (length course.marks.items) c.args.decision n.next in
    let all : length course.marks.items + 1 ≡ length course.queue = omega (arith, within) in
    let asks = c.in_ok-decisions.ensures.asks P (made_of (reverse course.marks.items)) in_it (c.requires.rows P ids in_it r n) in
    let is_problem : IsProblemIn c.asks_after.new.lists.offers P = record { world = in_it.world ∙ sym c.in_ok-decisions.ensures.nothing_lost.offers; is = in_it.is } in
    let before = all-then P in_it.is course ids c.args.decision value r n first all asks in
    let state = state-then P in_it.is course ids c.args.decision value r n in
    let count : length qs ≡ length D = (let a = length-map course.queue decision_of in let b = size P in_it.is course ids c.args.decision value r n in omega (arith, a, b, all)) in
    let says : List RevisionId → Type 0 = λ l. l ≡ members P D → IsOpened P D l (qs ++ first) course.last → IsOpened P D l (qs ++ decisions_in more.decisions) more.last in
    let now = subst says c.as_slice.ensures.value (λ m o. c.in_ok-open.ensures.opened P D qs is_problem state m count o) n.members_are before in
    opened-then P in_it.is course ids c.args.decision value r n more all now (subst (λ (l : List RevisionId). Waits more (length l)) c.as_slice.ensures.value c.in_ok-open.ensures.waits)
