-- One mark more, and all of them.
use Rattle.std.proofs.Common.{◌∷◌, None, ap, sym, ◌∙◌, reverse, take, get_or}
use Rattle.std.proofs.lemmas.List.{get_or_default, take_all}
use Rattle.osgi_base.specs.declared.ids.RevisionId.{RevisionId}
use Rattle.osgi_world.specs.Decisions.{value_made}
use Rattle.osgi_resolver_path.specs.computed.Courses.{made_of}
use Rattle.osgi_resolver_path.specs.declared.course.Mark.{Mark}
use Rattle.osgi_resolver_decisions.specs.declared.decision_ref.DecisionRef.TheVariants.{Attach}
use Rattle.osgi_resolver_path.proofs.Marks.{last-first}
use Rattle.osgi_resolver_path.proofs.Valued.{value-more}
use Rattle.osgi_resolver_path.proofs.values.Values.of.Goals as goal

pub loop-mark-preserved : goal.loop-mark-preserved
loop-mark-preserved c d =
    let marks = c.args.marks.now in
    let n = c.loop-mark.mark-index in
    let within = c.loop-mark-test.true in
    let zero : RevisionId = record { 0 = 0 } in
    let none : Mark = record { decision = Attach zero zero; value = 0; step = None; ids = 0; queue = 0; last = 0 } in
    let m = get_or marks n none in
    let before = made_of (reverse (take n marks)) in
    value-more c.loop-mark.by_key c.insert.new.self c.key_of.result m.value before c.in_ok-insert.ensures.updates c.loop-mark.invariant d
    ∙ ap (λ k. value_made ((k, m.value) ∷ before) d) c.key_of.ensures.key
    ∙ ap (λ ms. value_made (made_of ms) d) (sym (last-first marks n m within (get_or_default marks n none m within)))

pub returns : goal.returns
returns c = record { values = λ d. c.loop-mark.invariant d ∙ ap (λ ms. value_made (made_of (reverse ms)) d) (take_all c.loop-mark.mark-index c.args.marks.now c.loop-mark-test.false) }
