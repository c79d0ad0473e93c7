-- A service no more among the bundle's.
use Rattle.std.proofs.Common.{◌≡◌, [], ap, sym, ◌∙◌, rules}
use Rattle.std.specs.Prelude.{None, Some, false}
use Rattle.std.specs.BTreeMap.{is_at}
use Rattle.std.specs.List.{list_any}
use Rattle.std.specs.Ordering.{nat_cmp}
use Rattle.osgi_registry_index.proofs.Belongs.{none_left, puts_twice, set_at}
use Rattle.osgi_registry_index.proofs.bundle_services.BundleServices.take.Goals as goal

pub returns-then-is_empty : goal.returns-then-is_empty
returns-then-is_empty c =
    let none : c.remove.new.self.keys ≡ [] = none_left c.remove.new.self.keys (search (rules, c.is_empty.ensures)) in
    record {
      taken =
          set_at c.args.self.now.bundles c.remove-then-is_empty.new.self c.args.bundle c.args.service false (Some c.in-Some.services.now) None (sym c.in-Some.ensures.value)
          (puts_twice c.args.self.now.bundles (c.get_mut.follows.lender c.remove.new.self) c.remove-then-is_empty.new.self c.args.bundle.0 (Some c.remove.new.self) None
          ((c.get_mut.follows.holds c.remove.new.self).3 (search rules)).0 c.remove-then-is_empty.ensures.updates.0)
          (λ s. ap (list_any (is_at (nat_cmp s))) (sym none) ∙ c.remove.ensures.updates.0 s);
    }

pub returns-else-is_empty : goal.returns-else-is_empty
returns-else-is_empty c = record {
  taken =
      set_at c.args.self.now.bundles (c.get_mut.follows.lender c.remove.new.self) c.args.bundle c.args.service false (Some c.in-Some.services.now) (Some c.remove.new.self) (sym c.in-Some.ensures.value)
      ((c.get_mut.follows.holds c.remove.new.self).3 (search rules)).0 c.remove.ensures.updates.0;
}
