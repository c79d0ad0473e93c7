-- All of a class that fit.
use Rattle.std.proofs.Common.{[], refl, sym}
use Rattle.std.specs.Prelude.{None, Some}
use Rattle.std.specs.List.Sorted.{IsStrictlySortedBy}
use Rattle.std.specs.Map.{values_of}
use Rattle.std.specs.Option.{option_copied}
use Rattle.osgi_ops.specs.Classes.{IsOf}
use Rattle.osgi_registry.proofs.Found.{each_ranked, none_sorted, of_decides, result_is, result_ranked, some_ranked}
use Rattle.osgi_registry.specs.computed.Finding.{does_fit}
use Rattle.osgi_registry_index.specs.Places.{classes_in, place_cmp}
use Rattle.osgi_registry.specs.Rows.{services_in}
use Rattle.osgi_registry.proofs.registry.Registry.find_all.Goals as goal

pub returns-in_default : goal.returns-in_default
returns-in_default c = record {
  ranked =
      rw (← c.self.view_is)
      (result_is c.new.result (IsOf c.args.class.now (option_copied c.args.filter)) (services_in (values_of c.self.inside.services.entries)) [] c.new.ensures.empty
      (some_ranked c.self.inside.issued (classes_in c.self.inside.index) c.args.class.now c.self.inside.services.entries c.self.invariant.rows c.self.invariant.index [] (sym c.in_default.ensures.places) (does_fit (option_copied c.args.filter))
      (IsOf c.args.class.now (option_copied c.args.filter)) (of_decides c.args.class.now (option_copied c.args.filter)) (λ s is. is.0) none_sorted));
}

pub returns-in-Some-filter : goal.returns-in-Some-filter
returns-in-Some-filter c = record {
  ranked =
      rw (← c.self.view_is, c.in-Some-filter.is)
      (result_ranked c.all_fit.result (IsOf c.args.class.now (Some c.in-Some-filter.asked.now)) (services_in (values_of c.self.inside.services.entries)) _ (IsStrictlySortedBy place_cmp c.in-Some.places.now.keys) c.all_fit.ensures.all c.all_fit.ensures.ordered
      (some_ranked c.self.inside.issued (classes_in c.self.inside.index) c.args.class.now c.self.inside.services.entries c.self.invariant.rows c.self.invariant.index c.in-Some.places.now.keys (sym c.in-Some.ensures.places) (does_fit (Some c.in-Some-filter.asked.now))
      (IsOf c.args.class.now (Some c.in-Some-filter.asked.now)) (of_decides c.args.class.now (Some c.in-Some-filter.asked.now)) (λ s is. is.0)));
}

pub returns-in-None : goal.returns-in-None
returns-in-None c = record {
  ranked =
      rw (← c.self.view_is, c.in-None.is)
      (result_ranked c.all_of.result (IsOf c.args.class.now None) (services_in (values_of c.self.inside.services.entries)) _ (IsStrictlySortedBy place_cmp c.in-Some.places.now.keys) c.all_of.ensures.all c.all_of.ensures.ordered
      (each_ranked c.self.inside.issued (classes_in c.self.inside.index) c.args.class.now c.self.inside.services.entries c.self.invariant.rows c.self.invariant.index c.in-Some.places.now.keys (sym c.in-Some.ensures.places) (does_fit None)
      (IsOf c.args.class.now None) (of_decides c.args.class.now None) (λ s is. is.0) (λ s. refl)));
}
