-- One use more.
use Rattle.std.proofs.Common.{◌≡◌, ap, sym, ◌∙◌, refl, nat_eq}
use Rattle.std.specs.Prelude.{Some}
use Rattle.std.specs.Map.{lookup, values_of}
use Rattle.std.proofs.lemmas.Result.{err_from_is_err_and}
use Rattle.osgi_registry.proofs.Changed.{kept_set, rows_set, written_same}
use Rattle.osgi_registry.proofs.Covered.{belongs_now, covered_grown, covered_same, covered_set, covered_used}
use Rattle.osgi_registry.proofs.Current.{current_kept}
use Rattle.osgi_registry.proofs.Entries.{found_under, row_absent, row_present}
use Rattle.osgi_registry.proofs.Keys.{found_by, set_by}
use Rattle.osgi_registry.proofs.Placed.{index_kept}
use Rattle.osgi_registry.specs.Rows.{row_at, service_number, used_more}
use Rattle.osgi_registry_index.specs.Places.{classes_in}
use Rattle.osgi_registry_index.specs.Belonging.{bundles_in}
use Rattle.osgi_registry_index.specs.Slots.{slots_in}
use Rattle.osgi_registry.proofs.registry.Registry.add_use.Goals as goal

pub returns-in_default-clause-absent : goal.returns-in_default-clause-absent
returns-in_default-clause-absent c = row_absent _ c.args.service _ _ (ap (λ r. r.rows) c.self.view_is) c.self.invariant.rows.under (found_by c.args.service.0 _ _ c.in_default.ensures.value)

pub add_use-requires : goal.add_use-requires
add_use-requires c =
    let some : row_at c.args.service c.args.self.now.rows ≡ Some c.in-Some.held.now = row_present _ c.args.service _ _ _ (ap (λ r. r.rows) c.self.view_is) c.self.invariant.rows.under (found_by c.args.service.0 _ _ c.in-Some.ensures.value) in
    record { room = rw some at c.requires.countable }

pub invariant_of-self-in_err-add : goal.invariant_of-self-in_err-add
invariant_of-self-in_err-add c =
    rw (written_same c.args.service.0 c.in-Some.held.now c.in-Some.held.now _ _ refl c.in-Some.ensures.value (c.get_mut.follows.holds c.in-Some.held.now).0)
    (record {
      rows = c.self.invariant.rows;
      index = c.self.invariant.index;
      current = c.self.invariant.current;
      covered = covered_same (bundles_in c.self.inside.bundles) (bundles_in c.add.new.self) (values_of c.self.inside.services.entries) c.in_err-add.ensures.unchanged c.self.invariant.covered;
    })

pub returns-in_err-add-clause-unchanged : goal.returns-in_err-add-clause-unchanged
returns-in_err-add-clause-unchanged c =
    let p = err_from_is_err_and c.from_residual.result c.from_residual.ensures.1 in
    rw p.1
    (ap (λ es. record { rows = values_of es; issued = c.self.inside.issued })
    (written_same c.args.service.0 c.in-Some.held.now c.in-Some.held.now _ _ refl c.in-Some.ensures.value (c.get_mut.follows.holds c.in-Some.held.now).0)
    ∙ c.self.view_is)

pub invariant_of-self-in_err-add_use : goal.invariant_of-self-in_err-add_use
invariant_of-self-in_err-add_use c =
    rw (written_same c.args.service.0 c.in-Some.held.now c.add_use.new.self _ _ c.in_err-add_use.ensures.unchanged c.in-Some.ensures.value (c.get_mut.follows.holds c.add_use.new.self).0)
    (record {
      rows = c.self.invariant.rows;
      index = c.self.invariant.index;
      current = c.self.invariant.current;
      covered = covered_grown (bundles_in c.self.inside.bundles) (bundles_in c.add.new.self) c.args.user c.args.service (values_of c.self.inside.services.entries) c.in_ok-add.ensures.added c.self.invariant.covered;
    })

pub returns-in_err-add_use-clause-unchanged : goal.returns-in_err-add_use-clause-unchanged
returns-in_err-add_use-clause-unchanged c =
    let p = err_from_is_err_and c.from_residual-in_err-add_use.result c.from_residual-in_err-add_use.ensures.1 in
    rw p.1
    (ap (λ es. record { rows = values_of es; issued = c.self.inside.issued })
    (written_same c.args.service.0 c.in-Some.held.now c.add_use.new.self _ _ c.in_err-add_use.ensures.unchanged c.in-Some.ensures.value (c.get_mut.follows.holds c.add_use.new.self).0)
    ∙ c.self.view_is)

pub invariant_of-self-2 : goal.invariant_of-self-2
invariant_of-self-2 c =
    let found : lookup (nat_eq c.args.service.0) c.self.inside.services.entries ≡ Some c.in-Some.held.now = found_by c.args.service.0 _ _ c.in-Some.ensures.value in
    rw (set_by c.args.service.0 _ _ _ (c.get_mut.follows.holds c.add_use.new.self).0)
    (record {
      rows = kept_set _ c.args.service.0 _ _ c.self.invariant.rows (ap (λ s. s.service.0) c.add_use.ensures.service ∙ sym (found_under _ _ _ _ c.self.invariant.rows.under found).key);
      index = index_kept _ c.args.service c.in-Some.held.now c.add_use.new.self _ (classes_in c.self.inside.index) c.self.invariant.rows c.self.invariant.index c.add_use.ensures.service found;
      current = current_kept _ c.args.service c.in-Some.held.now c.add_use.new.self _ (slots_in c.self.inside.slots) c.self.invariant.rows c.self.invariant.current c.add_use.ensures.service found;
      covered =
          let old = bundles_in c.self.inside.bundles in
          let new = bundles_in c.add.new.self in
          let number = sym (found_under _ _ _ _ c.self.invariant.rows.under found).key in
          covered_set new c.args.service.0 c.in-Some.held.now c.add_use.new.self c.self.inside.services.entries found
          (covered_used new c.args.user c.in-Some.held.now c.add_use.new.self c.in_ok-add_use.ensures.used (belongs_now old new c.args.user c.args.service c.args.user.0 (service_number c.in-Some.held.now) c.in_ok-add.ensures.added refl number))
          (covered_grown old new c.args.user c.args.service (values_of c.self.inside.services.entries) c.in_ok-add.ensures.added c.self.invariant.covered);
    })

pub returns-clause-rows : goal.returns-clause-rows
returns-clause-rows c =
    rw (set_by c.args.service.0 _ _ _ (c.get_mut.follows.holds c.add_use.new.self).0, ← c.self.view_is)
    (rows_set _ c.args.service c.in-Some.held.now c.add_use.new.self (used_more c.args.user) _ c.self.invariant.rows.under c.self.invariant.rows.rising (sym c.in_ok-add_use.ensures.used) (found_by c.args.service.0 _ _ c.in-Some.ensures.value))
