-- The best of those that are open to who asks, as it is told.
use Rattle.std.proofs.Common.{◌≡◌, ℕ, [], Bool, Bor, List, refl, sym}
use Rattle.std.specs.Option.{option_copied}
use Rattle.osgi_base.specs.declared.ids.BundleId.{BundleId}
use Rattle.osgi_registry.proofs.Found.{none_found, told_fits, told_found}
use Rattle.osgi_registry.specs.Rows.{IsOpenBy}
use Rattle.osgi_registry_index.specs.Places.{classes_in}
use Rattle.osgi_registry.proofs.registry.Registry.find.Goals as goal

pub returns-in_err-places-clause-found : goal.returns-in_err-places-clause-found
returns-in_err-places-clause-found g c = λ test agrees.
    rw (c.from_residual.ensures, ← c.self.view_is)
    (none_found c.self.inside.issued (classes_in c.self.inside.index) c.args.class.now c.self.inside.services.entries c.self.invariant.rows c.self.invariant.index [] (sym c.in_err-places.ensures.places)
    (IsOpenBy test c.args.class.now (option_copied c.args.filter)) (λ s is. is.0.0) refl)

pub returns-clause-found : goal.returns-clause-found
returns-clause-found g c = λ test agrees.
    rw (← c.self.view_is)
    (told_found c.self.inside.issued (classes_in c.self.inside.index) c.args.class.now c.self.inside.services.entries c.self.invariant.rows c.self.invariant.index c.in_ok-places.places.now.keys (sym c.in_ok-places.ensures.places)
    c.in-Ok.found c.in-Ok.ensures.ordered (λ test. (owner : BundleId) (class : Bor (List ℕ)) (answer : Bool) → g.F.Fn.post c.args.assignable (owner, (class, tt)) answer → answer ≡ test owner class.now)
    (option_copied c.args.filter) c.in-Ok.ensures.first test agrees)

pub returns-clause-fits : goal.returns-clause-fits
returns-clause-fits g c =
    rw (← c.self.view_is)
    (told_fits c.self.inside.issued (classes_in c.self.inside.index) c.args.class.now c.self.inside.services.entries c.self.invariant.rows c.self.invariant.index c.in_ok-places.places.now.keys (sym c.in_ok-places.ensures.places)
    c.in-Ok.found c.in-Ok.ensures.ordered (λ test. (owner : BundleId) (class : Bor (List ℕ)) (answer : Bool) → g.F.Fn.post c.args.assignable (owner, (class, tt)) answer → answer ≡ test owner class.now)
    (option_copied c.args.filter) c.in-Ok.ensures.first)
