-- A wire that is for a package, and one that is for none.
use Rattle.std.proofs.Common.{◌≡◌, ◌↔◌, ℕ, List, ap, subst}
use Rattle.std.specs.Prelude.{Option, Some}
use Rattle.std.specs.Option.{option_copied}
use Rattle.osgi_space_rules.specs.computed.Entries.{IsImport}
use Rattle.osgi_space_rules.specs.computed.Growing.{HasEntry}
use Rattle.osgi_space_rules.specs.computed.Keys.{package_cmp}
use Rattle.osgi_space_rules.proofs.Exact.{package_exact, package_total}
use Rattle.osgi_space_rules.proofs.OneValue.{extends_like, extends_none, put_extends}
use Rattle.osgi_space_rules.proofs.Providers.{imports_one}
use Rattle.osgi_world.specs.Wirings.{IsExport}
use Rattle.osgi_space_rules.proofs.imports.add_import.Goals as goal

pub returns-in_default : goal.returns-in_default
returns-in_default c = record {
  added = extends_none (HasEntry package_cmp c.args.providers.now) (IsImport c.args.known.now c.args.id c.args.wire.now) (λ e imports.
      let named = (c.exported_package.ensures.«package» e.0.name).1 imports.1 in
      let none = ap option_copied c.in_default.is in
      cc named);
}

pub returns : goal.returns
returns c =
    let capability = c.args.wire.now.capability in
    let is : (p : List ℕ) → (Some c.in-Some.name.now ≡ Some p) ↔ IsExport c.args.known.now capability.owner capability.index p =
    subst (λ (o : Option (List ℕ)). (p : List ℕ) → (o ≡ Some p) ↔ IsExport c.args.known.now capability.owner capability.index p) (ap option_copied c.in-Some.is) c.exported_package.ensures.«package» in
    record {
      added =
          extends_like c.in_ok-put_one.field-0 (HasEntry package_cmp c.args.providers.now) (HasEntry package_cmp c.put_one.new.entries) _ (IsImport c.args.known.now c.args.id c.args.wire.now)
          (imports_one c.args.known.now c.args.id c.args.wire.now c.in-Some.name.now c.in_ok-package.package c.in_ok-package.ensures.«package» is)
          (put_extends package_total package_exact c.args.providers.now c.put_one.new.entries c.in_ok-package.package capability.provider c.in_ok-put_one.field-0 c.in_ok-put_one.ensures.put);
    }
