-- A place of the class no more.
use Rattle.std.proofs.Common.{◌≡◌, [], ap, sym, ◌∙◌, rules}
use Rattle.std.specs.Prelude.{false, None, Some}
use Rattle.std.specs.BTreeMap.{is_at}
use Rattle.std.specs.List.{list_any}
use Rattle.osgi_registry_index.specs.Places.{place_cmp}
use Rattle.osgi_registry_index.proofs.Holds.{none_left, put_at, puts_twice}
use Rattle.osgi_registry_index.proofs.class_index.ClassIndex.take.Goals as goal

pub returns-then-is_empty : goal.returns-then-is_empty
returns-then-is_empty c =
    let none : c.remove.new.self.keys ≡ [] = none_left c.remove.new.self.keys (search (rules, c.is_empty.ensures)) in
    record {
      taken =
          put_at c.args.self.now.classes c.remove-then-is_empty.new.self c.args.class.now c.args.place false (Some c.in-Some.places.now) None (sym c.in-Some.ensures.value)
          (puts_twice c.args.self.now.classes (c.get_mut.follows.lender c.remove.new.self) c.remove-then-is_empty.new.self c.args.class.now (Some c.remove.new.self) None
          ((c.get_mut.follows.holds c.remove.new.self).3 (search rules)).0 c.remove-then-is_empty.ensures.updates.0)
          (λ q. ap (list_any (is_at (place_cmp q))) (sym none) ∙ c.remove.ensures.updates.0 q);
    }

pub returns-else-is_empty : goal.returns-else-is_empty
returns-else-is_empty c = record {
  taken =
      put_at c.args.self.now.classes (c.get_mut.follows.lender c.remove.new.self) c.args.class.now c.args.place false (Some c.in-Some.places.now) (Some c.remove.new.self) (sym c.in-Some.ensures.value)
      ((c.get_mut.follows.holds c.remove.new.self).3 (search rules)).0 c.remove.ensures.updates.0;
}
