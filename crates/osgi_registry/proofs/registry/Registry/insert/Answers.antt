-- A service under the next id.
use Rattle.std.proofs.Common.{◌≡◌, ◌+◌, ◌-◌, ◌^◌, ◌<◌, [], ◌∷◌, ◌++◌, ap, ◌∙◌, sym, refl, arith, length, subst}
use Rattle.std.specs.Prelude.{false, true}
use Rattle.std.specs.BTreeMap.{insert_entry}
use Rattle.std.specs.Map.{values_of}
use Rattle.std.specs.Ordering.{nat_cmp}
use Rattle.std.proofs.lemmas.Map.Entries.{length-values_of}
use Rattle.osgi_ops.specs.declared.limits.TheConstants.{MAX_SERVICES}
use Rattle.osgi_registry.proofs.Covered.{covered_grown, covered_push, covered_same}
use Rattle.osgi_registry.proofs.Current.{current_push}
use Rattle.osgi_registry.proofs.Entries.{inserted, kept_push, values-push}
use Rattle.osgi_registry_index.proofs.Holds.{undone}
use Rattle.osgi_registry.proofs.Placed.{fresh_id, fresh_place, index_same, placed_push}
use Rattle.osgi_registry_index.specs.Belonging.{bundles_in, Sets}
use Rattle.osgi_registry_index.specs.Places.{classes_in, HoldsSame, IsFresh, place_of, Puts}
use Rattle.osgi_registry_index.specs.Slots.{PutsAtMost, slots_in}
use Rattle.osgi_registry.specs.Rows.{service_number}
use Rattle.osgi_registry.proofs.registry.Registry.insert.Goals as goal

pub add_all-requires : goal.add_all-requires
add_all-requires c =
    let next : c.args.service.service.0 ≡ c.self.inside.issued + 1 = rw (← c.self.view_is) at c.requires.next in
    rw c.of-place.ensures.place
    (fresh_place (classes_in c.self.inside.index) (values_of c.self.inside.services.entries) (place_of c.args.service) c.self.invariant.index
    (fresh_id c.self.inside.issued c.self.inside.services.entries (place_of c.args.service) c.self.invariant.rows.under (omega (arith, next))))

pub invariant_of-self : goal.invariant_of-self
invariant_of-self c = record {
  rows = c.self.invariant.rows;
  index = c.self.invariant.index;
  current = c.self.invariant.current;
  covered = covered_same (bundles_in c.self.inside.bundles) (bundles_in c.add.new.self) (values_of c.self.inside.services.entries) c.in_err-add.ensures.unchanged c.self.invariant.covered;
}

pub invariant_of-self-in_err-add_all : goal.invariant_of-self-in_err-add_all
invariant_of-self-in_err-add_all c = record {
  rows = c.self.invariant.rows;
  index = index_same (classes_in c.self.inside.index) (classes_in c.add_all.new.self) (values_of c.self.inside.services.entries) c.self.invariant.index c.in_err-add_all.ensures.unchanged;
  current = c.self.invariant.current;
  covered = covered_grown (bundles_in c.self.inside.bundles) (bundles_in c.add.new.self) c.args.service.owner c.args.service.service (values_of c.self.inside.services.entries) c.in_ok-add.ensures.added c.self.invariant.covered;
}

pub invariant_of-self-in-Err : goal.invariant_of-self-in-Err
invariant_of-self-in-Err c =
    let old = classes_in c.self.inside.index in
    let mid = classes_in c.add_all.new.self in
    let new = classes_in c.take_all.new.self in
    let rows = values_of c.self.inside.services.entries in
    let place = place_of c.args.service in
    let next : c.args.service.service.0 ≡ c.self.inside.issued + 1 = rw (← c.self.view_is) at c.requires.next in
    let fresh : IsFresh old place = fresh_place old rows place c.self.invariant.index (fresh_id c.self.inside.issued c.self.inside.services.entries place c.self.invariant.rows.under (omega (arith, next))) in
    let given_back : c.in-Err.error.value.1 ≡ c.in_ok-held.held = ap (λ p. p.1) c.in-Err.ensures.value_returned in
    let among : c.items-in-Err.result.now ≡ c.args.service.classes
    = c.items-in-Err.ensures.items ∙ ap (λ s. s.classes) (c.service-in-Err.ensures.service ∙ ap (λ r. r.service) (given_back ∙ c.in_ok-held.ensures.service)) in
    let added : Puts old mid c.args.service.classes place true
    = subst (λ l. Puts old mid l place true) (c.items.ensures.items ∙ ap (λ s. s.classes) (c.service.ensures.service ∙ ap (λ r. r.service) c.in_ok-held.ensures.service))
    (subst (λ q. Puts old mid c.items.result.now q true) c.of-place.ensures.place c.in_ok-add_all.ensures.added) in
    let taken : Puts mid new c.args.service.classes place false
    = subst (λ l. Puts mid new l place false) among (subst (λ q. Puts mid new c.items-in-Err.result.now q false) c.of-place.ensures.place c.take_all.ensures.taken) in
    let same : HoldsSame old new = undone old mid new c.args.service.classes place fresh added taken in
    rw c.in-Err.ensures.err
    (record {
      rows = c.self.invariant.rows;
      index = index_same old new rows c.self.invariant.index same;
      current = c.self.invariant.current;
      covered = covered_grown (bundles_in c.self.inside.bundles) (bundles_in c.add.new.self) c.args.service.owner c.args.service.service rows c.in_ok-add.ensures.added c.self.invariant.covered;
    })

pub invariant_of-self-2 : goal.invariant_of-self-2
invariant_of-self-2 c =
    let next : c.args.service.service.0 ≡ c.self.inside.issued + 1 = rw (← c.self.view_is) at c.requires.next in
    let fits : c.self.inside.issued < 2 ^ 32 - 1 = rw (← c.self.view_is) at c.requires.fits in
    let room : length (values_of c.self.inside.services.entries) < MAX_SERVICES = rw (← c.self.view_is) at c.requires.room in
    let entries : c.insert.new.self.entries ≡ c.self.inside.services.entries ++ (c.self.inside.issued + 1, c.in_ok-held.held) ∷ []
    = c.in_default.ensures.entries ∙ ap (λ id. insert_entry nat_cmp c.self.inside.services.entries id c.in_ok-held.held) next ∙ inserted c.self.inside.issued c.self.inside.services.entries c.in_ok-held.held c.self.invariant.rows.under in
    let old = classes_in c.self.inside.index in
    let new = classes_in c.add_all.new.self in
    let rows = values_of c.self.inside.services.entries in
    let row = c.in_ok-held.held in
    let is : c.args.service ≡ row.service = sym (ap (λ r. r.service) c.in_ok-held.ensures.service) in
    let place : c.of-place.result ≡ place_of row.service = c.of-place.ensures.place ∙ ap place_of is in
    let added : Puts old new row.service.classes (place_of row.service) true
    = subst (λ l. Puts old new l (place_of row.service) true) (c.items.ensures.items ∙ ap (λ s. s.classes) c.service.ensures.service)
    (subst (λ q. Puts old new c.items.result.now q true) place c.in_ok-add_all.ensures.added) in
    let slots = slots_in c.self.inside.slots in
    let filled = slots_in c.put.new.self in
    let number : service_number row ≡ c.self.inside.issued + 1 = ap service_number c.in_ok-held.ensures.service ∙ next in
    let shared : c.in_ok-shared.shared ≡ row.service = c.in_ok-shared.ensures.same ∙ c.shared.ensures.service in
    rw (entries, next)
    (record {
      rows =
          kept_push c.self.inside.issued c.self.inside.services.entries c.in_ok-held.held c.self.invariant.rows number
          (omega (arith, room, length-values_of c.self.inside.services.entries)) fits;
      index =
          rw (values-push c.self.inside.services.entries (c.self.inside.issued + 1) c.in_ok-held.held)
          (placed_push old new rows row c.self.invariant.index added);
      current =
          current_push c.self.inside.issued slots filled c.self.inside.services.entries row c.self.invariant.rows.under number
          (subst (λ s. PutsAtMost slots filled s) shared c.put.ensures.put) c.self.invariant.current;
      covered =
          rw (values-push c.self.inside.services.entries (c.self.inside.issued + 1) row)
          (covered_push (bundles_in c.self.inside.bundles) (bundles_in c.add.new.self) rows row
          (subst (λ s. Sets (bundles_in c.self.inside.bundles) (bundles_in c.add.new.self) s.owner s.service true) is c.in_ok-add.ensures.added) (ap (λ r. r.uses) c.in_ok-held.ensures.service) c.self.invariant.covered);
    })

pub returns-clause-rows : goal.returns-clause-rows
returns-clause-rows c =
    let next : c.args.service.service.0 ≡ c.self.inside.issued + 1 = rw (← c.self.view_is) at c.requires.next in
    let entries : c.insert.new.self.entries ≡ c.self.inside.services.entries ++ (c.self.inside.issued + 1, c.in_ok-held.held) ∷ []
    = c.in_default.ensures.entries ∙ ap (λ id. insert_entry nat_cmp c.self.inside.services.entries id c.in_ok-held.held) next ∙ inserted c.self.inside.issued c.self.inside.services.entries c.in_ok-held.held c.self.invariant.rows.under in
    rw (entries, values-push c.self.inside.services.entries (c.self.inside.issued + 1) c.in_ok-held.held, c.in_ok-held.ensures.service, ← c.self.view_is) refl
