-- The best of those that are open to who asks, by the wirings of a world.
use Rattle.std.proofs.Common.{[], refl, sym}
use Rattle.std.specs.List.Sorted.{IsStrictlySortedBy}
use Rattle.std.specs.Map.{values_of}
use Rattle.std.specs.Option.{option_copied}
use Rattle.osgi_ops.specs.Classes.{IsFound, IsOpenTo}
use Rattle.osgi_registry.proofs.Found.{asked_found, if_found, none_found}
use Rattle.osgi_registry.specs.computed.Finding.{AnswersIn, IsFirstFound}
use Rattle.osgi_registry_index.specs.Places.{classes_in, place_cmp}
use Rattle.osgi_registry.specs.computed.LiveSlots.{services_at}
use Rattle.osgi_registry.specs.Rows.{services_in}
use Rattle.osgi_registry.proofs.registry.Registry.find_by.Goals as goal

pub returns-in_default : goal.returns-in_default
returns-in_default g c = record {
  found =
      rw (← c.self.view_is)
      (none_found c.self.inside.issued (classes_in c.self.inside.index) c.args.class.now c.self.inside.services.entries c.self.invariant.rows c.self.invariant.index [] (sym c.in_default.ensures.places)
      (IsOpenTo (g.A.Assignability.world c.args.assignability.now) c.args.asker c.args.class.now (option_copied c.args.filter)) (λ s is. is.0.0) refl);
}

pub returns : goal.returns
returns g c =
    let world = g.A.Assignability.world c.args.assignability.now in
    let filter = option_copied c.args.filter in
    let entries = c.self.inside.services.entries in
    let places = c.in-Some.places.now.keys in
    record {
      found =
          rw (← c.self.view_is)
          (if_found c.first_passing.result (IsFirstFound (AnswersIn world c.args.asker filter) (services_at entries places)) (IsFound (IsOpenTo world c.args.asker c.args.class.now filter) (services_in (values_of entries)))
          (IsStrictlySortedBy place_cmp places) c.first_passing.ensures.ordered c.first_passing.ensures.first
          (λ found sorted.
          asked_found c.self.inside.issued (classes_in c.self.inside.index) c.args.class.now entries c.self.invariant.rows c.self.invariant.index places (sym c.in-Some.ensures.places) found sorted world c.args.asker filter));
    }
