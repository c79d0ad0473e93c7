-- A user forgotten, if the service is live.
use Rattle.std.proofs.Common.{◌≡◌, ap, sym, ◌∙◌, nat_eq}
use Rattle.std.specs.Prelude.{None, Some}
use Rattle.std.specs.Map.{lookup, values_of}
use Rattle.osgi_registry.proofs.Changed.{kept_set, rows_set}
use Rattle.osgi_registry.specs.laws.Changing.{change_none}
use Rattle.osgi_registry.proofs.Covered.{covered_forgotten, covered_set, found_none}
use Rattle.osgi_registry.proofs.Current.{current_kept}
use Rattle.osgi_registry.proofs.Entries.{found_under, row_absent}
use Rattle.osgi_registry.proofs.Keys.{found_by, set_by}
use Rattle.osgi_registry.proofs.Placed.{index_kept}
use Rattle.osgi_registry.specs.Rows.{is_service, row_at, without_user}
use Rattle.osgi_registry_index.specs.Places.{classes_in}
use Rattle.osgi_registry_index.specs.Belonging.{bundles_in}
use Rattle.osgi_registry_index.specs.Slots.{slots_in}
use Rattle.osgi_registry.proofs.registry.Registry.forget.Goals as goal

pub returns-in_default-clause-rows : goal.returns-in_default-clause-rows
returns-in_default-clause-rows c =
    let absent : row_at c.args.service c.args.self.now.rows ≡ None = row_absent _ c.args.service _ _ (ap (λ r. r.rows) c.self.view_is) c.self.invariant.rows.under (found_by c.args.service.0 _ _ c.in_default.ensures.value) in
    ap (λ s. values_of s.entries) c.get_mut.follows.holds-at-none
    ∙ ap (λ r. r.rows) c.self.view_is
    ∙ sym (change_none c.args.service (without_user c.args.user) c.args.self.now.rows (found_none (is_service c.args.service) c.args.self.now.rows absent))

pub invariant_of-self-2 : goal.invariant_of-self-2
invariant_of-self-2 c =
    let found : lookup (nat_eq c.args.service.0) c.self.inside.services.entries ≡ Some c.in-Some.held.now = found_by c.args.service.0 _ _ c.in-Some.ensures.value in
    let same = ap (λ r. r.service) c.forget.ensures.forgotten in
    rw (set_by c.args.service.0 _ _ _ (c.get_mut.follows.holds c.forget.new.self).0)
    (record {
      rows = kept_set _ c.args.service.0 _ _ c.self.invariant.rows (ap (λ s. s.service.0) same ∙ sym (found_under _ _ _ _ c.self.invariant.rows.under found).key);
      index = index_kept _ c.args.service c.in-Some.held.now c.forget.new.self _ (classes_in c.self.inside.index) c.self.invariant.rows c.self.invariant.index same found;
      current = current_kept _ c.args.service c.in-Some.held.now c.forget.new.self _ (slots_in c.self.inside.slots) c.self.invariant.rows c.self.invariant.current same found;
      covered =
          covered_set (bundles_in c.self.inside.bundles) c.args.service.0 c.in-Some.held.now c.forget.new.self c.self.inside.services.entries found
          (covered_forgotten (bundles_in c.self.inside.bundles) c.args.user c.in-Some.held.now c.forget.new.self c.forget.ensures.forgotten) c.self.invariant.covered;
    })

pub returns-clause-rows : goal.returns-clause-rows
returns-clause-rows c =
    rw (set_by c.args.service.0 _ _ _ (c.get_mut.follows.holds c.forget.new.self).0, ← c.self.view_is)
    (rows_set _ c.args.service c.in-Some.held.now c.forget.new.self (without_user c.args.user) _ c.self.invariant.rows.under c.self.invariant.rows.rising (sym c.forget.ensures.forgotten) (found_by c.args.service.0 _ _ c.in-Some.ensures.value))
