-- Who joins by one provider.
use Rattle.std.proofs.Common.{◌≡◌, Bool, true, false, ◌||◌, ◌==◌, ◌↔◌, IsTrue, if◌then◌else◌, List, [], ◌∷◌, ◌++◌, flat_map, Option, Some, refl, sym, ◌∙◌, ap}
use Rattle.std.specs.List.{list_any}
use Rattle.osgi_base.specs.declared.ids.RevisionId.{RevisionId}
use Rattle.osgi_world.specs.DueDecisions.{is_in_force, provider_of, pull_in}
use Rattle.osgi_world.specs.Wirings.{InForce}
use Rattle.osgi_world.specs.declared.problem.Problem.{Problem}
use Rattle.osgi_world.specs.declared.wiring.Wire.{Wire}
use Rattle.osgi_world.specs.declared.wiring.Wiring.{Wiring}
use Rattle.osgi_world.specs.declared.world.World.{World}
use Rattle.osgi_resolver_theory.proofs.Lists.{any-in, in-any}
use Rattle.osgi_resolver_theory.proofs.Values.{rev-eq, rev-same}
use Rattle.osgi_resolver_path.specs.computed.Steps.{steps_in}
use Rattle.osgi_resolver_path.specs.declared.step.Step.{Step}
use Rattle.osgi_resolver_path.specs.declared.step.Step.TheVariants.{Wired}

pub pull-one : (P : Problem) (ids : List RevisionId) (x : RevisionId) (b : Bool) → (is_in_force P.world.wirings x || list_any (λ (k : RevisionId). k.0 == x.0) ids) ≡ b → (if b then ids else ids ++ x ∷ []) ≡ pull_in P ids (x ∷ [])
pull-one P ids x b e = ap (λ c. if c then ids else ids ++ x ∷ []) (sym e)

true-or : (W : List Wiring) (r : RevisionId) → IsTrue (is_in_force W r) → InForce W r
true-or W r t = let a = any-in (λ (g : Wiring). g.revision.0 == r.0) W t in record { wiring = a.0; stands = a.1; revision = rev-eq a.0.revision r a.2 }

force-or : (W : List Wiring) (r : RevisionId) → InForce W r → IsTrue (is_in_force W r)
force-or W r h = in-any (λ (g : Wiring). g.revision.0 == r.0) W h.wiring h.stands (rev-same h.wiring.revision r h.revision)

pub both-ways : (a b : Bool) → (IsTrue a → IsTrue b) → (IsTrue b → IsTrue a) → a ≡ b
both-ways true b f g = sym (f refl)
both-ways false true f g = g refl
both-ways false false f g = refl

pub force-same : (W : List Wiring) (r : RevisionId) (b : Bool) → (IsTrue b ↔ InForce W r) → b ≡ is_in_force W r
force-same W r b e = both-ways b (is_in_force W r) (λ t. force-or W r (e.0 t)) (λ t. e.1 (true-or W r t))

-- by a wire, where it is known whether its provider stays as it is
pub joined : (P : Problem) (W : World) (ids : List RevisionId) (step : Option Step) (r : RevisionId) (w : Wire) (b : Bool) → step ≡ Some (Wired r w) → P.world ≡ W →
    (is_in_force W.wirings w.capability.provider || list_any (λ (k : RevisionId). k.0 == w.capability.provider.0) ids) ≡ b →
    (if b then ids else ids ++ w.capability.provider ∷ []) ≡ pull_in P ids (flat_map provider_of (steps_in step))
joined P W ids step r w b is world stays =
    pull-one P ids w.capability.provider b (ap (λ (V : World). is_in_force V.wirings w.capability.provider || list_any (λ (k : RevisionId). k.0 == w.capability.provider.0) ids) world ∙ stays)
    ∙ ap (λ s. pull_in P ids (flat_map provider_of (steps_in s))) (sym is)
