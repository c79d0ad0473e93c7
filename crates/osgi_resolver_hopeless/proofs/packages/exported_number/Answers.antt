-- What is no export has no package, and the package of an export has the number of its name.
use Rattle.std.proofs.Common.{◌≡◌, ◌∙◌, ℕ, List, refl, sym, subst}
use Rattle.osgi_resolver_hopeless.proofs.Numbers.{number-found}
use Rattle.osgi_space_rows.specs.Names.{HasNumber}
use Rattle.osgi_world.specs.Wirings.{IsExport}
use Rattle.osgi_world.specs.declared.world.Known.{Known}
use Rattle.osgi_resolver_hopeless.proofs.packages.exported_number.Goals as goal

pub returns-in_err-package : goal.returns-in_err-package
returns-in_err-package c = record {
  number = λ n. (
    λ e. cc,
    λ (p, export, has).
        let none = (c.in_err-package.ensures.package p).1 (subst (λ (K : List Known). IsExport K c.args.capability.owner c.args.capability.index p) (sym c.known.ensures.known) export) in cc,
  );
  numbered = c.names-names.ensures.numbered;
}

pub returns : goal.returns
returns c = record {
  number = λ n.
      let world = c.args.rows.now in
      let q = c.in_ok-package.package.now in
      let export : IsExport world.known c.args.capability.owner c.args.capability.index q = subst (λ (K : List Known). IsExport K c.args.capability.owner c.args.capability.index q) c.known.ensures.known ((c.in_ok-package.ensures.package q).0 refl) in
      let found = number-found c.names-names.result.now q c.number.ensures.once c.number.result c.number.ensures.number n in (
        λ e. (q, export, subst (λ (names : List (List ℕ)). HasNumber names q n) c.names-names.ensures.names (found.0 e)),
        λ (p, other, has).
            let same : p ≡ q = sym other.1 ∙ export.1 in
            found.1 (subst (λ (names : List (List ℕ)). HasNumber names q n) (sym c.names-names.ensures.names) (subst (λ (t : List ℕ). HasNumber world.names t n) same has)),
      );
  numbered = c.names-names.ensures.numbered;
}
