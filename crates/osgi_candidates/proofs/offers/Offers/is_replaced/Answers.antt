-- An export, and no export.
use Rattle.std.proofs.Common.{◌≡◌, ◌↔◌, ℕ, IsTrue, List, ap, sym, subst, ◌∙◌}
use Rattle.std.specs.Prelude.{Bool, None, Some}
use Rattle.osgi_candidates.specs.computed.Holding.{HasPackage}
use Rattle.osgi_candidates.proofs.Tested.{replaced_none, replaced_some}
use Rattle.osgi_world.specs.Wirings.{IsExport}
use Rattle.osgi_world.specs.declared.world.Known.{Known}
use Rattle.osgi_world.specs.declared.world.World.{World}
use Rattle.osgi_candidates.proofs.offers.Offers.is_replaced.Goals as goal

pub returns-in-Some : goal.returns-in-Some
returns-in-Some c =
    let known : c.self.inside.known ≡ c.args.self.now.known = c.self.invariant.0 ∙ ap (λ (w : World). w.known) c.self.view_is in
    let x = c.args.capability in
    let name = c.in-Some.name.now in
    let is = subst (λ (K : List Known). (p : List ℕ) → (Some name ≡ Some p) ↔ IsExport K x.owner x.index p) known c.in-Some.ensures.«package» in
    let has = subst (λ (b : Bool). IsTrue b ↔ HasPackage c.args.held.now.elsewhere name) (sym c.contains.ensures) (λ t. t, λ t. t) in
    record { replaced = replaced_some c.args.self.now.known c.args.held.now x name c.contains.result has is }

pub returns-in-None : goal.returns-in-None
returns-in-None c =
    let known : c.self.inside.known ≡ c.args.self.now.known = c.self.invariant.0 ∙ ap (λ (w : World). w.known) c.self.view_is in
    let x = c.args.capability in
    let is = subst (λ (K : List Known). (p : List ℕ) → (None ≡ Some p) ↔ IsExport K x.owner x.index p) known c.in-None.ensures.«package» in
    record { replaced = replaced_none c.args.self.now.known c.args.held.now x is }
