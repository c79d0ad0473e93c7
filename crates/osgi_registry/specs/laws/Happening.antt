-- What happens to services at an entry, by the rows of a registry that stands for the history before it.
use Rattle.std.proofs.Common.{◌≡◌, ◌+◌, ℕ, List, [], ◌∷◌, ◌++◌, map, ap, sym, ◌∙◌, refl, arith}
use Rattle.std.specs.Prelude.{true, false, cond, ◌==◌, Option, None, Some, All, filter, option_to_list}
use Rattle.std.specs.Option.{option_map}
use Rattle.std.proofs.lemmas.Bool.{eq-eqb, ne_eqb}
use Rattle.std.proofs.lemmas.List.Elements.{All-head, All-tail}
use Rattle.osgi_base.specs.declared.ids.BundleId.{BundleId}
use Rattle.osgi_base.specs.declared.ids.ServiceId.{ServiceId}
use Rattle.osgi_base.specs.declared.ids.Tag.{Tag}
use Rattle.osgi_model.specs.declared.value.Attribute.{Attribute}
use Rattle.osgi_ops.specs.Listening.{leaving, services_at}
use Rattle.osgi_ops.specs.Listening as happening
use Rattle.osgi_ops.specs.Services.{live_service_at, live_services, Registered, service_now}
use Rattle.osgi_ops.specs.declared.entry.Entry.{Entry}
use Rattle.osgi_ops.specs.declared.op.Op.TheVariants as op
use Rattle.osgi_ops.specs.declared.reply.Reply.TheVariants as answer
use Rattle.osgi_ops.specs.declared.scope.Scope.{Scope}
use Rattle.osgi_ops.specs.declared.service.Service.{Service}
use Rattle.osgi_registry.specs.Rows.{AreInOrder, change, is_owned, is_service, LiveService, new_row, RegistryRows, row_at, services_in, with_properties}
use Rattle.osgi_registry.specs.Stands.{AreRowsOf, StandsFor}
use Rattle.osgi_registry.specs.laws.Changing.{row_changed}
use Rattle.osgi_registry.specs.laws.Standing.{Found, nowhere, rows_filter, rows_found, stands_modified, stands_registered, there}

-- ---- services and rows

found_services : (at : Option LiveService) (of : Option Registered) → Found at of → map service_now (option_to_list of) ≡ services_in (option_to_list at)
found_services None (Some r) found = elim found [ ]
found_services (Some row) None found = elim found [ ]
found_services None None nowhere = refl
found_services (Some row) (Some r) (there is) = ap (λ s. s ∷ []) (sym is.service)

-- the service of an id is that of its row
pub services_at-rows : (history : List Entry) (registry : RegistryRows) (service : ServiceId) → StandsFor history registry → services_at service history ≡ services_in (option_to_list (row_at service registry.rows))
services_at-rows history registry service stands = found_services (row_at service registry.rows) (live_service_at service history) (rows_found service registry.rows (live_services history) stands.rows)

each_leaves : (rows : List LiveService) (list : List Registered) → AreRowsOf rows list → map (λ r. happening.service 4 (service_now r)) list ≡ map (happening.service 4) (services_in rows)
each_leaves [] [] are = refl
each_leaves [] (r ∷ list) are = absurd are
each_leaves (row ∷ rows) [] are = absurd are
each_leaves (row ∷ rows) (r ∷ list) are = λ i. happening.service 4 (sym are.0.service i) ∷ each_leaves rows list are.1 i

-- the services that leave with an owner are those of its rows
pub leaving-rows : (history : List Entry) (registry : RegistryRows) (owner : BundleId) → StandsFor history registry → leaving (Some owner) history ≡ map (happening.service 4) (services_in (filter (is_owned owner) registry.rows))
leaving-rows history registry owner stands =
    each_leaves (filter (is_owned owner) registry.rows) (filter (λ r. r.owner.0 == owner.0) (live_services history))
    (rows_filter (is_owned owner) (λ r. r.owner.0 == owner.0) (λ row r is. ap (λ (s : Service). s.owner.0 == owner.0) is.service) registry.rows (live_services history) stands.rows)

-- ---- a registration

found_last : (service : ServiceId) (rows : List LiveService) (row : LiveService) → All (λ r. is_service service r ≡ false) rows → is_service service row ≡ true → row_at service (rows ++ row ∷ []) ≡ Some row
found_last service [] row none is = ap (λ b. cond b (Some row) None) is
found_last service (first ∷ rest) row none is =
    ap (λ b. cond b (Some first) (row_at service (rest ++ row ∷ []))) (All-head (λ r. is_service service r ≡ false) first rest none)
    ∙ found_last service rest row (All-tail (λ r. is_service service r ≡ false) first rest none) is

-- the new service stands as it is registered
pub services_at-registered : (history : List Entry) (old : RegistryRows) (tag : Tag) (owner : BundleId) (classes : List (List ℕ)) (object : List ℕ) (scope : Scope) (properties : List Attribute) (service : ServiceId) → StandsFor history old → AreInOrder old →
    service.0 ≡ old.issued + 1 → services_at service (history ++ record { tag = tag; op = op.Register owner classes object scope properties; reply = answer.Service service } ∷ []) ≡ (new_row service owner classes object scope properties).service ∷ []
services_at-registered history old tag owner classes object scope properties service stands order id =
    let row = new_row service owner classes object scope properties in
    let new : RegistryRows = record { rows = old.rows ++ row ∷ []; issued = old.issued + 1 } in
    let none : All (λ r. is_service service r ≡ false) old.rows = λ k d within. ne_eqb service.0 _ (λ same. let given = order.issued k d within in absurd (omega (arith, same, given.1, id))) in
    services_at-rows _ new service (stands_registered history old new tag owner classes object scope properties service stands id refl refl)
    ∙ ap (λ at. services_in (option_to_list at)) (found_last service old.rows row none (eq-eqb service.0 service.0 refl))

-- ---- a change of properties

-- the service stands as it is made
pub services_at-modified : (history : List Entry) (old : RegistryRows) (tag : Tag) (owner : BundleId) (service : ServiceId) (properties : List Attribute) → StandsFor history old →
    services_at service (history ++ record { tag = tag; op = op.Modify owner service properties; reply = answer.Done } ∷ []) ≡ services_in (option_to_list (option_map (with_properties properties) (row_at service old.rows)))
services_at-modified history old tag owner service properties stands =
    let new : RegistryRows = record { rows = change service (with_properties properties) old.rows; issued = old.issued } in
    services_at-rows _ new service (stands_modified history old new tag owner service properties stands refl refl)
    ∙ ap (λ at. services_in (option_to_list at)) (row_changed service (with_properties properties) old.rows (λ r. refl))
