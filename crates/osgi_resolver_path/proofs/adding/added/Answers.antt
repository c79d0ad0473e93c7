-- One member more.
use Rattle.std.proofs.Common.{◌≡◌, ◌++◌, ◌∷◌, [], ◌∙◌, ap, sym, subst, arith, map, take, get_or, length, reverse, List}
use Rattle.std.proofs.lemmas.List.{get_or_default}
use Rattle.osgi_base.specs.declared.ids.RevisionId.{RevisionId}
use Rattle.osgi_world.specs.Lists.{In}
use Rattle.osgi_world.specs.Partial.{wiring}
use Rattle.osgi_world.specs.declared.wiring.Wiring.{Wiring}
use Rattle.osgi_resolver_path.specs.computed.Courses.{made_of}
use Rattle.osgi_resolver_path.specs.computed.Valued.{AreValues}
use Rattle.osgi_resolver_path.specs.computed.Views.{decided_in}
use Rattle.osgi_resolver_path.proofs.Payloads.{member-more}
use Rattle.osgi_resolver_path.proofs.Decided.{get-in, get-some}
use Rattle.osgi_resolver_path.proofs.adding.added.Goals as goal

pub loop-member-preserved : goal.loop-member-preserved
loop-member-preserved c P ready =
    let ids = c.args.course.now.ids.items in
    let items = c.deref-member-items.result.now in
    let same : items ≡ ids = c.deref-member-items.ensures.value in
    let D = decided_in c.args.course.now in
    let are : AreValues c.in_ok-values.values D = subst (λ ms. AreValues c.in_ok-values.values (made_of (reverse ms))) c.as_slice.ensures.value c.in_ok-values.ensures.values in
    let n = c.loop-member.member-index in
    let zero : RevisionId = record { 0 = 0 } in
    let m = get_or items n zero in
    let inside : In m ids = subst (In m) same (get-in items n m (get-some items n zero (omega arith))) in
    let here : m ≡ get_or ids n m = subst (λ (l : List RevisionId). m ≡ get_or l n m) same (get_or_default items n zero m (omega arith)) in
    c.in_ok-push.ensures.added
    ∙ ap (λ l. l ++ c.in_ok-wiring_of.field-0 ∷ []) (c.loop-member.invariant P ready)
    ∙ ap (λ (w : Wiring). map (wiring P D) (take n ids) ++ w ∷ []) (c.in_ok-wiring_of.ensures.wiring P c.args.course.now (record { ready = ready; values_are = are }) inside)
    ∙ sym (member-more (wiring P D) ids n m (omega (arith, ap length same)) here)
