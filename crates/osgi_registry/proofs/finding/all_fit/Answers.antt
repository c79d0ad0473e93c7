-- One more place, whose service fits or does not.
use Rattle.std.proofs.Common.{◌≡◌, ◌∷◌, ◌++◌, ◌∙◌, ap, sym}
use Rattle.std.specs.Prelude.{true, false, filter, None, Some}
use Rattle.std.specs.Map.Iter.{deref}
use Rattle.std.proofs.lemmas.Map.Iter.{rest_more}
use Rattle.osgi_ops.specs.Classes.{ids_of}
use Rattle.osgi_registry.proofs.Found.{next_service, none_more, one_more}
use Rattle.osgi_registry.specs.computed.Finding as spec
use Rattle.osgi_registry.specs.computed.LiveSlots.{services_at}
use Rattle.osgi_registry.proofs.finding.all_fit.Goals as goal

pub loop-place-preserved-in_default : goal.loop-place-preserved-in_default
loop-place-preserved-in_default c =
    let rows = c.args.live.rows.now.entries in
    let passes = spec.does_fit (Some c.args.asked.now) in
    let left = rest_more deref c.loop-place.place-iterator c.next.new.self c.next.result c.in-Some.place c.in-Some.is c.next.ensures.steps in
    let more : services_at rows c.loop-place.place-iterator ≡ services_at rows c.next.new.self = next_service rows c.loop-place.place-iterator c.next.new.self c.in-Some.place.now c.service.result None left c.service.ensures.service c.in_default.ensures.service in
    ap (λ l. c.loop-place.all ++ ids_of (filter passes l)) (sym more) ∙ c.loop-place.invariant

pub loop-place-preserved : goal.loop-place-preserved
loop-place-preserved c =
    let rows = c.args.live.rows.now.entries in
    let passes = spec.does_fit (Some c.args.asked.now) in
    let service = c.in-Some-service.service.now in
    let left = rest_more deref c.loop-place.place-iterator c.next.new.self c.next.result c.in-Some.place c.in-Some.is c.next.ensures.steps in
    let more : services_at rows c.loop-place.place-iterator ≡ service ∷ services_at rows c.next.new.self
    = next_service rows c.loop-place.place-iterator c.next.new.self c.in-Some.place.now c.service.result (Some service) left c.service.ensures.service c.in-Some-service.ensures.service in
    let fits : passes service ≡ true = sym c.does_fit.ensures.fits ∙ c.if-not-does_fit.false in
    rw c.in_ok-push.ensures.added (one_more passes c.loop-place.all (services_at rows c.loop-place.place-iterator) (services_at rows c.next.new.self) service more fits ∙ c.loop-place.invariant)

pub loop-place-preserved-then-not-does_fit : goal.loop-place-preserved-then-not-does_fit
loop-place-preserved-then-not-does_fit c =
    let rows = c.args.live.rows.now.entries in
    let passes = spec.does_fit (Some c.args.asked.now) in
    let service = c.in-Some-service.service.now in
    let left = rest_more deref c.loop-place.place-iterator c.next.new.self c.next.result c.in-Some.place c.in-Some.is c.next.ensures.steps in
    let more : services_at rows c.loop-place.place-iterator ≡ service ∷ services_at rows c.next.new.self
    = next_service rows c.loop-place.place-iterator c.next.new.self c.in-Some.place.now c.service.result (Some service) left c.service.ensures.service c.in-Some-service.ensures.service in
    let other : passes service ≡ false = sym c.does_fit.ensures.fits ∙ c.if-not-does_fit.true in
    none_more passes c.loop-place.all (services_at rows c.loop-place.place-iterator) (services_at rows c.next.new.self) service more other ∙ c.loop-place.invariant
