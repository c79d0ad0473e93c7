-- What variables hold.
use Rattle.std.proofs.Common.{◌≡◌, ℕ, List, [], ◌∷◌, Bool, true, false, refl, map}
use Rattle.std.specs.Prelude.{cond, find, Option, Some, unwrap_or}
use Rattle.std.specs.Option.{option_map}
use Rattle.std.specs.Str.{bytes_eq}
use Rattle.osgi_base.specs.declared.ids.ServiceId.{ServiceId}
use Rattle.osgi_runner.specs.computed.States.{binding_of}
use Rattle.osgi_runner.specs.declared.statements.Binding.{Binding}
use Rattle.osgi_session.specs.Runs.{held, no_service}

by-first : (b : Bool) (first later : ServiceId) (one : Option Binding) (x : Binding) → first ≡ x.service → later ≡ unwrap_or (option_map (λ (b : Binding). b.service) one) no_service →
    elim b [ true ↦ first | false ↦ later ] ≡ unwrap_or (option_map (λ (b : Binding). b.service) (cond b (Some x) one)) no_service
by-first true first later one x e f = e
by-first false first later one x e f = f

pub held-found : (bindings : List Binding) (var : List ℕ) →
    held (map binding_of bindings) var ≡ unwrap_or (option_map (λ (b : Binding). b.service) (find (λ (b : Binding). bytes_eq b.var var) bindings)) no_service
held-found [] var = refl
held-found (b ∷ bindings) var = by-first (bytes_eq b.var var) b.service (held (map binding_of bindings) var) (find (λ (b : Binding). bytes_eq b.var var) bindings) b refl (held-found bindings var)
