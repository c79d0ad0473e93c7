-- A service in place of the live one of its id.
use Rattle.std.proofs.Common.{◌≡◌, ap, sym, ◌∙◌, refl, nat_eq, subst}
use Rattle.std.specs.Prelude.{IsSomeAnd, None, Some}
use Rattle.std.specs.Map.{lookup, values_of}
use Rattle.std.proofs.lemmas.Bool.{eq-eqb}
use Rattle.std.proofs.lemmas.Result.{err_from_is_err_and}
use Rattle.osgi_ops.specs.declared.service.Service.{Service}
use Rattle.osgi_registry.proofs.Changed.{kept_set, rows_set, written_same}
use Rattle.osgi_registry.proofs.Covered.{covered_alike, covered_set}
use Rattle.osgi_registry.proofs.Current.{current_changed}
use Rattle.osgi_registry.proofs.Entries.{row_absent, row_present}
use Rattle.osgi_registry.proofs.Keys.{found_by, set_by}
use Rattle.osgi_registry.proofs.Placed.{any_found, fresh_move, index_same, only_one, placed_change, stands}
use Rattle.osgi_registry_index.specs.Places.{classes_in, Moves, place_of}
use Rattle.osgi_registry_index.specs.Slots.{PutsAtMost, slots_in}
use Rattle.osgi_registry.specs.Rows.{is_service, LiveService, row_at, service_number, with_service}
use Rattle.osgi_registry_index.specs.Belonging.{bundles_in}
use Rattle.osgi_registry.proofs.registry.Registry.replace.Goals as goal

-- the rows have it where the entries do
differs_there : (service : Service) (row : LiveService) (at : _) → at ≡ Some row → IsSomeAnd at (λ (r : LiveService). service ≡ record r.service { properties = service.properties }) → service ≡ record row.service { properties = service.properties }
differs_there service row at is differs = subst (λ o. IsSomeAnd o (λ (r : LiveService). service ≡ record r.service { properties = service.properties })) is differs

pub unreachable-requires : goal.unreachable-requires
unreachable-requires c =
    let id = c.args.service.service in
    let none : row_at id c.args.self.now.rows ≡ None = row_absent _ id _ _ (ap (λ r. r.rows) c.self.view_is) c.self.invariant.rows.under (found_by id.0 _ _ c.in_default.ensures.value) in
    subst (λ o. IsSomeAnd o (λ (r : LiveService). c.args.service ≡ record r.service { properties = c.args.service.properties })) none c.requires.differs

pub invariant_of-self : goal.invariant_of-self
invariant_of-self c =
    rw (written_same c.args.service.service.0 c.in-Some.held.now c.in-Some.held.now _ _ refl c.in-Some.ensures.value (c.get_mut.follows.holds c.in-Some.held.now).0) c.self.invariant

pub returns-in_err-next-clause-unchanged : goal.returns-in_err-next-clause-unchanged
returns-in_err-next-clause-unchanged c =
    let p = err_from_is_err_and c.from_residual.result c.from_residual.ensures.1 in
    rw p.1
    (ap (λ es. record { rows = values_of es; issued = c.self.inside.issued })
    (written_same c.args.service.service.0 c.in-Some.held.now c.in-Some.held.now _ _ refl c.in-Some.ensures.value (c.get_mut.follows.holds c.in-Some.held.now).0)
    ∙ c.self.view_is)

pub invariant_of-self-in_err-shared : goal.invariant_of-self-in_err-shared
invariant_of-self-in_err-shared c =
    rw (written_same c.args.service.service.0 c.in-Some.held.now c.in-Some.held.now _ _ refl c.in-Some.ensures.value (c.get_mut.follows.holds c.in-Some.held.now).0) c.self.invariant

pub returns-in_err-shared-clause-unchanged : goal.returns-in_err-shared-clause-unchanged
returns-in_err-shared-clause-unchanged c =
    let p = err_from_is_err_and c.from_residual-in_err-shared.result c.from_residual-in_err-shared.ensures.1 in
    rw p.1
    (ap (λ es. record { rows = values_of es; issued = c.self.inside.issued })
    (written_same c.args.service.service.0 c.in-Some.held.now c.in-Some.held.now _ _ refl c.in-Some.ensures.value (c.get_mut.follows.holds c.in-Some.held.now).0)
    ∙ c.self.view_is)

pub move_all-requires-clause-stands : goal.move_all-requires-clause-stands
move_all-requires-clause-stands c =
    rw (c.items.ensures.items, c.of.ensures.place, c.service-now.ensures.service)
    (stands (classes_in c.self.inside.index) c.args.service.service.0 c.in-Some.held.now c.self.inside.services.entries c.self.invariant.index (found_by c.args.service.service.0 _ _ c.in-Some.ensures.value))

pub move_all-requires-clause-fresh : goal.move_all-requires-clause-fresh
move_all-requires-clause-fresh c =
    let id = c.args.service.service in
    let found : lookup (nat_eq id.0) c.self.inside.services.entries ≡ Some c.in-Some.held.now = found_by id.0 _ _ c.in-Some.ensures.value in
    let is : c.of-place.result.service ≡ id.0 = ap (λ p. p.service) c.of-place.ensures.place in
    rw (c.of.ensures.place, c.service-now.ensures.service)
    (fresh_move c.self.inside.issued id c.in-Some.held.now c.self.inside.services.entries (classes_in c.self.inside.index) c.of-place.result c.self.invariant.rows c.self.invariant.index found is)

pub invariant_of-self-in_err-move_all : goal.invariant_of-self-in_err-move_all
invariant_of-self-in_err-move_all c =
    rw (written_same c.args.service.service.0 c.in-Some.held.now c.in-Some.held.now _ _ refl c.in-Some.ensures.value (c.get_mut.follows.holds c.in-Some.held.now).0)
    (record {
      rows = c.self.invariant.rows;
      index = index_same (classes_in c.self.inside.index) (classes_in c.move_all.new.self) (values_of c.self.inside.services.entries) c.self.invariant.index c.in_err-move_all.ensures.unchanged;
      current = c.self.invariant.current;
      covered = c.self.invariant.covered;
    })

pub returns-in_err-move_all-clause-unchanged : goal.returns-in_err-move_all-clause-unchanged
returns-in_err-move_all-clause-unchanged c =
    let p = err_from_is_err_and c.from_residual-in_err-move_all.result c.from_residual-in_err-move_all.ensures.1 in
    rw p.1
    (ap (λ es. record { rows = values_of es; issued = c.self.inside.issued })
    (written_same c.args.service.service.0 c.in-Some.held.now c.in-Some.held.now _ _ refl c.in-Some.ensures.value (c.get_mut.follows.holds c.in-Some.held.now).0)
    ∙ c.self.view_is)

pub invariant_of-self-2 : goal.invariant_of-self-2
invariant_of-self-2 c =
    let old = classes_in c.self.inside.index in
    let new = classes_in c.move_all.new.self in
    let row = c.in-Some.held.now in
    let id = c.args.service.service in
    let changed = c.args.service in
    let rows = c.self.invariant.rows in
    let found : lookup (nat_eq id.0) c.self.inside.services.entries ≡ Some row = found_by id.0 _ _ c.in-Some.ensures.value in
    let present : row_at id c.args.self.now.rows ≡ Some row = row_present _ id _ _ _ (ap (λ r. r.rows) c.self.view_is) rows.under found in
    let differs : changed ≡ record row.service { properties = changed.properties } = differs_there changed row _ present c.requires.differs in
    let key : id.0 ≡ service_number row = ap (λ (s : Service). s.service.0) differs in
    let owner : changed.owner ≡ row.service.owner = ap (λ (s : Service). s.owner) differs in
    let classes : changed.classes ≡ row.service.classes = ap (λ (s : Service). s.classes) differs in
    let next : c.in_ok-next.next ≡ changed = c.in_ok-next.ensures.value in
    let is : with_service changed row ≡ c.replace.new.self = sym (c.replace.ensures.replaced ∙ ap (λ s. record row { service = s }) next) in
    let among : c.items.result.now ≡ row.service.classes = c.items.ensures.items ∙ ap (λ s. s.classes) c.service-now.ensures.service in
    let from : c.of.result ≡ place_of row.service = c.of.ensures.place ∙ ap place_of c.service-now.ensures.service in
    let to : c.of-place.result ≡ place_of changed = c.of-place.ensures.place in
    let moved : Moves old new row.service.classes (place_of row.service) (place_of changed)
    = subst (λ l. Moves old new l (place_of row.service) (place_of changed)) among
    (subst (λ q. Moves old new c.items.result.now q (place_of changed)) from (subst (λ q. Moves old new c.items.result.now c.of.result q) to c.in_ok-move_all.ensures.moved)) in
    let slots = slots_in c.self.inside.slots in
    let emptied = slots_in c.forget.new.self in
    let filled = slots_in c.put.new.self in
    let shared : c.in_ok-shared.shared ≡ c.replace.new.self.service = c.in_ok-shared.ensures.same ∙ next ∙ ap (λ r. r.service) is in
    let only = only_one _ id row _ rows.under rows.rising found in
    rw (set_by id.0 _ _ _ (c.get_mut.follows.holds c.replace.new.self).0)
    (record {
      rows = kept_set _ id.0 _ _ rows (ap (λ r. r.service.service.0) (sym is));
      index =
          rw (rows_set _ id row c.replace.new.self (with_service changed) _ rows.under rows.rising is found)
          (placed_change old new id (with_service changed) row (values_of c.self.inside.services.entries) c.self.invariant.index moved classes (sym key) only
          (any_found (is_service id) id.0 row c.self.inside.services.entries (eq-eqb id.0 (service_number row) key) found));
      current =
          current_changed slots emptied filled id.0 row c.replace.new.self c.self.inside.services.entries c.self.invariant.current c.forget.ensures.forgotten
          (subst (λ s. PutsAtMost emptied filled s) shared c.put.ensures.put) (ap (λ r. r.service.service.0) (sym is)) found;
      covered =
          covered_set (bundles_in c.self.inside.bundles) id.0 row c.replace.new.self c.self.inside.services.entries found
          (covered_alike (bundles_in c.self.inside.bundles) row c.replace.new.self (ap (λ r. r.service.service.0) (sym is) ∙ key) (ap (λ r. r.service.owner) (sym is) ∙ owner) (ap (λ r. r.uses) (sym is))) c.self.invariant.covered;
    })

pub returns-clause-rows : goal.returns-clause-rows
returns-clause-rows c =
    let row = c.in-Some.held.now in
    let id = c.args.service.service in
    let is : with_service c.args.service row ≡ c.replace.new.self = sym (c.replace.ensures.replaced ∙ ap (λ s. record row { service = s }) c.in_ok-next.ensures.value) in
    rw (set_by id.0 _ _ _ (c.get_mut.follows.holds c.replace.new.self).0, ← c.self.view_is)
    (rows_set _ id row c.replace.new.self (with_service c.args.service) _ c.self.invariant.rows.under c.self.invariant.rows.rising is (found_by id.0 _ _ c.in-Some.ensures.value))
