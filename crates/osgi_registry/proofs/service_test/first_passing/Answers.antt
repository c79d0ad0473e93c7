-- One more place is passed over, or its service passes.
use Rattle.std.proofs.Common.{◌≡◌, ◌++◌, ◌∷◌, [], append_assoc, ap, sym, ◌∙◌, subst}
use Rattle.std.specs.Prelude.{false, None, Some}
use Rattle.std.specs.Map.Iter.{deref}
use Rattle.std.proofs.lemmas.List.Elements.{All-push}
use Rattle.std.proofs.lemmas.Map.Iter.{rest_more}
use Rattle.osgi_registry.specs.computed.LiveSlots.{services_at}
use Rattle.osgi_registry.proofs.Found.{next_service}
use Rattle.osgi_registry.proofs.service_test.first_passing.Goals as goal

pub loop-place-preserved-in_default : goal.loop-place-preserved-in_default
loop-place-preserved-in_default g c =
    let rows = c.args.live.rows.now.entries in
    let left = rest_more deref c.loop-place.place-iterator c.next.new.self c.next.result c.in-Some.place c.in-Some.is c.next.ensures.steps in
    let more : services_at rows c.loop-place.place-iterator ≡ services_at rows c.next.new.self = next_service rows c.loop-place.place-iterator c.next.new.self c.in-Some.place.now c.service.result None left c.service.ensures.service c.in_default.ensures.service in
    (c.loop-place.invariant.0, c.loop-place.invariant.1 ∙ ap (λ l. c.loop-place.invariant.0 ++ l) more, c.loop-place.invariant.2)

pub loop-place-preserved : goal.loop-place-preserved
loop-place-preserved g c =
    let rows = c.args.live.rows.now.entries in
    let service = c.in-Some-service.service.now in
    let before = c.loop-place.invariant.0 in
    let left = rest_more deref c.loop-place.place-iterator c.next.new.self c.next.result c.in-Some.place c.in-Some.is c.next.ensures.steps in
    let more : services_at rows c.loop-place.place-iterator ≡ service ∷ services_at rows c.next.new.self
    = next_service rows c.loop-place.place-iterator c.next.new.self c.in-Some.place.now c.service.result (Some service) left c.service.ensures.service c.in-Some-service.ensures.service in
    let other : g.T.ServiceTest.answers c.args.test.now service false = subst (g.T.ServiceTest.answers c.args.test.now service) c.if-branch.false c.in_ok-passes.ensures.answer in (
      before ++ service ∷ [],
      c.loop-place.invariant.1 ∙ ap (λ l. before ++ l) more ∙ sym (append_assoc before (service ∷ []) (services_at rows c.next.new.self)),
      All-push (λ s. g.T.ServiceTest.answers c.args.test.now s false) before service c.loop-place.invariant.2 other,
    )
