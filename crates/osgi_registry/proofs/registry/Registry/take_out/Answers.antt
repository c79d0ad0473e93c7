-- A service taken out, if it is live.
use Rattle.std.proofs.Common.{◌≡◌, ap, sym, ◌∙◌, nat_eq, subst}
use Rattle.std.specs.Prelude.{Some, false}
use Rattle.std.specs.Map.{lookup, remove_entry, values_of}
use Rattle.osgi_registry.proofs.Changed.{kept_remove, rows_remove}
use Rattle.osgi_registry.proofs.Covered.{covered_without}
use Rattle.osgi_registry.proofs.Current.{current_removed}
use Rattle.osgi_registry.proofs.Entries.{found_under}
use Rattle.osgi_registry.proofs.Keys.{found_by, removed_by}
use Rattle.osgi_registry.proofs.Placed.{only_one, placed_remove}
use Rattle.osgi_registry_index.specs.Belonging.{bundles_in, Sets}
use Rattle.osgi_registry_index.specs.Places.{classes_in, place_of, Puts}
use Rattle.osgi_registry.specs.Rows.{without}
use Rattle.osgi_registry_index.specs.Slots.{slots_in}
use Rattle.osgi_registry.proofs.registry.Registry.take_out.Goals as goal

pub returns-in_default-clause-rows : goal.returns-in_default-clause-rows
returns-in_default-clause-rows c =
    rw (removed_by c.args.service.0 _ _ c.in_default.ensures.entries, ← c.self.view_is) (rows_remove c.self.inside.issued c.args.service c.self.inside.services.entries c.self.invariant.rows.under c.self.invariant.rows.rising)

pub invariant_of-self-2 : goal.invariant_of-self-2
invariant_of-self-2 c =
    let rows = c.self.invariant.rows in
    let row = c.in-Some.held in
    let found : lookup (nat_eq c.args.service.0) c.self.inside.services.entries ≡ Some row = found_by c.args.service.0 _ _ c.in-Some.ensures.value in
    let at : c.of.result ≡ place_of row.service = c.of.ensures.place ∙ ap place_of c.service-taken.ensures.service in
    let among : c.items.result.now ≡ row.service.classes = c.items.ensures.items ∙ ap (λ s. s.classes) c.service-taken.ensures.service in
    let old = classes_in c.self.inside.index in
    let new = classes_in c.take_all.new.self in
    let left : values_of (remove_entry (nat_eq c.args.service.0) c.self.inside.services.entries) ≡ without c.args.service (values_of c.self.inside.services.entries)
    = rows_remove c.self.inside.issued c.args.service c.self.inside.services.entries rows.under rows.rising in
    let taken : Puts old new row.service.classes (place_of row.service) false
    = subst (λ l. Puts old new l (place_of row.service) false) among (subst (λ q. Puts old new c.items.result.now q false) at c.take_all.ensures.taken) in
    rw (removed_by c.args.service.0 _ _ c.in-Some.ensures.entries)
    (record {
      rows = kept_remove _ _ _ rows;
      index =
          rw left
          (placed_remove old new c.args.service row (values_of c.self.inside.services.entries) c.self.invariant.index taken
          (sym (found_under _ _ _ _ rows.under found).key) (only_one _ c.args.service row _ rows.under rows.rising found));
      current =
          current_removed (slots_in c.self.inside.slots) (slots_in c.forget.new.self) c.args.service.0 c.self.inside.services.entries c.self.invariant.current c.forget.ensures.forgotten;
      covered =
          rw left
          (covered_without (bundles_in c.self.inside.bundles) (bundles_in c.take.new.self) row.service.owner c.args.service (values_of c.self.inside.services.entries)
          (subst (λ s. Sets (bundles_in c.self.inside.bundles) (bundles_in c.take.new.self) s.owner c.args.service false) c.service-taken.ensures.service c.take.ensures.taken) c.self.invariant.covered);
    })

pub returns-clause-rows : goal.returns-clause-rows
returns-clause-rows c =
    rw (removed_by c.args.service.0 _ _ c.in-Some.ensures.entries, ← c.self.view_is) (rows_remove c.self.inside.issued c.args.service c.self.inside.services.entries c.self.invariant.rows.under c.self.invariant.rows.rising)
