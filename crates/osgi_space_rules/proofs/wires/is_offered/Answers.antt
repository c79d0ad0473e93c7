-- A capability of the payload, that is an export or not.
use Rattle.std.proofs.Common.{◌≡◌, ◌↔◌, ℕ, List, ap, subst}
use Rattle.std.specs.Prelude.{Option, Some}
use Rattle.std.specs.Option.{option_copied}
use Rattle.osgi_space_rules.proofs.Offered.{offered_export, offered_no_export}
use Rattle.osgi_world.specs.Wirings.{IsExport}
use Rattle.osgi_space_rules.proofs.wires.is_offered.Goals as goal

pub returns-in_default : goal.returns-in_default
returns-in_default c =
    let capability = c.args.capability in
    let has = c.has_capability.ensures.has.0 c.if-not-has_capability.false in
    let is = subst (λ (o : Option (List ℕ)). (p : List ℕ) → (o ≡ Some p) ↔ IsExport c.args.known.now capability.owner capability.index p) (ap option_copied c.in_default.is) c.exported_package.ensures.«package» in
    record { offered = offered_no_export c.args.known.now c.args.index.now capability has is }

pub returns : goal.returns
returns c =
    let capability = c.args.capability in
    let has = c.has_capability.ensures.has.0 c.if-not-has_capability.false in
    let is = subst (λ (o : Option (List ℕ)). (p : List ℕ) → (o ≡ Some p) ↔ IsExport c.args.known.now capability.owner capability.index p) (ap option_copied c.in-Some.is) c.exported_package.ensures.«package» in
    record {
      offered =
          offered_export c.args.known.now c.args.index.now capability has c.args.providers.now c.in-Some.name.now c.in_ok-package.package c.is_from_elsewhere.result c.requires.providers is c.in_ok-package.ensures.«package» c.is_from_elsewhere.ensures.elsewhere;
    }
