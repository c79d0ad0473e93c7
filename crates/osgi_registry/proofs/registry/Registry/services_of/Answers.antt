-- One service more where it is live, and all.
use Rattle.std.proofs.Common.{◌≡◌, ◌+◌, ◌++◌, [], ◌∷◌, ap, sym, ◌∙◌, append-nil, arith, Bor, get_or, map, take}
use Rattle.std.specs.Prelude.{None, option_to_list, Some}
use Rattle.std.specs.Option.{option_map}
use Rattle.std.proofs.lemmas.List.{map-append, take_all}
use Rattle.osgi_base.specs.declared.ids.ServiceId.{ServiceId}
use Rattle.osgi_ops.specs.declared.service.Service.{Service}
use Rattle.osgi_registry.proofs.Entries.{row_absent, row_present}
use Rattle.osgi_registry.proofs.Keys.{found_by}
use Rattle.osgi_registry.proofs.Owned.{live_more}
use Rattle.osgi_registry.specs.computed.Concerns.{live_among}
use Rattle.osgi_registry.specs.Rows.{LiveService, row_at}
use Rattle.osgi_registry.proofs.registry.Registry.services_of.Goals as goal

pub loop-id-preserved-in_default : goal.loop-id-preserved-in_default
loop-id-preserved-in_default c =
    let rows = c.args.self.now.rows in
    let ids = c.args.ids.now in
    let i = c.loop-id.id-index in
    let id : ServiceId = get_or ids i (record { 0 = 0 }) in
    let none : row_at id rows ≡ None = row_absent _ id _ _ (ap (λ r. r.rows) c.self.view_is) c.self.invariant.rows.under (found_by id.0 _ _ c.in_default.ensures.value) in
    let more : live_among rows (take (i + 1) ids) ≡ live_among rows (take i ids)
    = live_more rows ids i (record { 0 = 0 }) c.loop-id-test.true ∙ ap (λ at. live_among rows (take i ids) ++ option_to_list (option_map (λ (r : LiveService). r.service) at)) none ∙ append-nil (live_among rows (take i ids)) in
    c.loop-id.invariant ∙ sym more

pub loop-id-preserved : goal.loop-id-preserved
loop-id-preserved c =
    let rows = c.args.self.now.rows in
    let ids = c.args.ids.now in
    let i = c.loop-id.id-index in
    let id : ServiceId = get_or ids i (record { 0 = 0 }) in
    let now : Bor Service → Service = λ s. s.now in
    let some : row_at id rows ≡ Some c.in-Some.held.now = row_present _ id _ _ _ (ap (λ r. r.rows) c.self.view_is) c.self.invariant.rows.under (found_by id.0 _ _ c.in-Some.ensures.value) in
    let more : live_among rows (take (i + 1) ids) ≡ live_among rows (take i ids) ++ c.in-Some.held.now.service ∷ []
    = live_more rows ids i (record { 0 = 0 }) c.loop-id-test.true ∙ ap (λ at. live_among rows (take i ids) ++ option_to_list (option_map (λ (r : LiveService). r.service) at)) some in
    ap (map now) c.in_ok-push.ensures.items
    ∙ map-append now c.loop-id.services.items (c.service.result ∷ [])
    ∙ (λ j. c.loop-id.invariant j ++ c.service.ensures.service j ∷ [])
    ∙ sym more

pub returns : goal.returns
returns c =
    let rows = c.args.self.now.rows in
    let ids = c.args.ids.now in
    record { services = c.loop-id.invariant ∙ ap (live_among rows) (take_all c.loop-id.id-index ids (omega (arith, c.loop-id-test.false))) }
