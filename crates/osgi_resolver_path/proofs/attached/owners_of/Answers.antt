-- One fragment more, and all of them.
use Rattle.std.proofs.Common.{◌≡◌, ◌∷◌, [], ◌++◌, ◌∙◌, List, filter, get_or, refl, take, ap, sym}
use Rattle.std.proofs.lemmas.List.{get_or_default, take_all}
use Rattle.osgi_base.specs.declared.ids.RevisionId.{RevisionId}
use Rattle.osgi_resolver_path.proofs.Fragments.{no-more, numbers-made, yes-more}
use Rattle.osgi_world.specs.Decisions.{attaching, is_yes, value_made}
use Rattle.osgi_resolver_path.proofs.attached.owners_of.Goals as goal
use Rattle.osgi_resolver_path.proofs.attached.owners_of.Goals.{then-is_attached+in_ok-push-2, else-is_attached}

pub loop-fragment-preserved : goal.loop-fragment-preserved
loop-fragment-preserved c D are =
    let host = c.args.host in
    let xs = c.deref-fragment-items.result.now in
    let i = c.loop-fragment.fragment-index in
    let within = c.loop-fragment-test.true in
    let zero : RevisionId = record { 0 = 0 } in
    let f = get_or xs i zero in
    let p = λ (g : RevisionId). is_yes (value_made ((attaching host c.args.decided, c.args.value) ∷ D) (attaching host g)) in
    let at = get_or_default xs i zero f within in
    let before = c.loop-fragment.invariant D are in
    let numbers = numbers-made _ c.args.rows.now D host c.in_ok-attached.ensures.numbers are in
    let is = c.is_attached.ensures.attached D host numbers in
    let so = filter p (take i xs) in
    elim c.if-is_attached.branch [
      | then-is_attached+in_ok-push-2 w ↦
          let more : c.if-is_attached.owners.items ≡ c.loop-fragment.owners.items ++ f ∷ [] = cc (w.in_ok-push-2.ensures.items) in
          more ∙ ap (λ l. l ++ f ∷ []) before ∙ ap (λ l. host ∷ l) (yes-more p xs i f within at so refl (sym w.if-is_attached.true ∙ is))
      | else-is_attached w ↦
          let kept : c.if-is_attached.owners.items ≡ c.loop-fragment.owners.items = cc in
          kept ∙ before ∙ ap (λ l. host ∷ l) (no-more p xs i f within at so refl (sym w.if-is_attached.false ∙ is))
    ]

pub returns : goal.returns
returns c = record {
  owners = λ P D in_it rows.
      let host = c.args.host in
      let xs = c.deref-fragment-items.result.now in
      let keep = λ (l : List RevisionId). host ∷ filter (λ f. is_yes (value_made ((attaching host c.args.decided, c.args.value) ∷ D) (attaching host f))) l in
      let all = c.deref-fragment-items.ensures.value ∙ c.in_ok-fragments.ensures.fragments P in_it.is in_it.world in
      c.loop-fragment.invariant D rows ∙ ap keep (take_all c.loop-fragment.fragment-index xs c.loop-fragment-test.false ∙ all);
}
