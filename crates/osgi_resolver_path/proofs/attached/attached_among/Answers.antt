-- One fragment more, and all of them.
use Rattle.std.proofs.Common.{◌≡◌, ◌∙◌, ◌∷◌, [], ◌++◌, filter, get_or, ap, sym}
use Rattle.std.proofs.lemmas.List.{get_or_default, take_all}
use Rattle.osgi_base.specs.declared.ids.RevisionId.{RevisionId}
use Rattle.osgi_space_sources.proofs.Lengths.{empty-true}
use Rattle.osgi_resolver_path.proofs.Fragments.{has-yes, no-more, numbers-made, yes-more}
use Rattle.osgi_world.specs.Decisions.{attaching, is_yes, value_made}
use Rattle.osgi_resolver_path.proofs.attached.attached_among.Goals as goal
use Rattle.osgi_resolver_path.proofs.attached.attached_among.Goals.{then-has+in_ok-push, else-has}

pub returns-then-is_empty : goal.returns-then-is_empty
returns-then-is_empty c = record {
  attached = λ D are. c.new-list.ensures.items ∙ ap (filter (λ f. is_yes (value_made D (attaching c.args.host f)))) (sym (empty-true c.args.fragments.now (sym c.is_empty.ensures ∙ c.if-is_empty.true)));
}

pub loop-fragment-preserved : goal.loop-fragment-preserved
loop-fragment-preserved c D are =
    let xs = c.args.fragments.now in
    let i = c.loop-fragment.fragment-index in
    let within = c.loop-fragment-test.true in
    let zero : RevisionId = record { 0 = 0 } in
    let f = get_or xs i zero in
    let p = λ (g : RevisionId). is_yes (value_made D (attaching c.args.host g)) in
    let at = get_or_default xs i zero f within in
    let before = c.loop-fragment.invariant D are in
    let numbers = numbers-made _ c.args.rows.now D c.args.host c.in_ok-attached.ensures.numbers are in
    let is = has-yes _ D c.args.host f c.has.result numbers c.has.ensures.has in
    elim c.if-has.branch [
      | then-has+in_ok-push w ↦
          let more : c.if-has.list.items ≡ c.loop-fragment.list.items ++ f ∷ [] = cc (w.in_ok-push.ensures.items) in
          more ∙ yes-more p xs i f within at c.loop-fragment.list.items before (sym w.if-has.true ∙ is)
      | else-has w ↦
          let kept : c.if-has.list.items ≡ c.loop-fragment.list.items = cc in
          kept ∙ no-more p xs i f within at c.loop-fragment.list.items before (sym w.if-has.false ∙ is)
    ]

pub returns : goal.returns
returns c = record {
  attached = λ D are. c.loop-fragment.invariant D are ∙ ap (filter (λ f. is_yes (value_made D (attaching c.args.host f)))) (take_all c.loop-fragment.fragment-index c.args.fragments.now c.loop-fragment-test.false);
}
