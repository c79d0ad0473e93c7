-- Numbers, and pairs of numbers, tie with themselves alone.
use Rattle.std.specs.Prelude.{◌≡◌, ℕ, true, ◌&&◌}
use Rattle.std.specs.Bool.{Decides}
use Rattle.std.specs.Cmp.{tied_then}
use Rattle.std.specs.FinMap.{nat_cmp-IsAntisymmetric}
use Rattle.std.specs.Ordering.{eq_by_cmp, is_eq, nat_cmp, on, then_cmp}
use Rattle.std.specs.declared.cmp.Ordering.{Ordering}
use Rattle.std.specs.declared.cmp.Ordering.TheVariants.{Less, Equal, Greater}
use Rattle.std.proofs.Common.{refl, sym, ap, ◌∙◌, subst}
use Rattle.std.proofs.lemmas.Bool.Decides.{Decides-and, Decides-like}
use Rattle.std.proofs.lemmas.Cmp.{eq_by_cmp_equiv, nat_cmp_total}
use Rattle.osgi_space_sources.specs.declared.given.Given.{Given}
use Rattle.osgi_space_sources.specs.declared.lead.Lead.{Lead}

tied : (r : Ordering) → is_eq r ≡ true → r ≡ Equal
tied Less same = absurd (cc same)
tied Equal same = refl
tied Greater same = absurd (cc same)

pub exact_number : (a b : ℕ) → Decides (eq_by_cmp nat_cmp a b) (a ≡ b)
exact_number a b = (λ same. nat_cmp-IsAntisymmetric a b (tied (nat_cmp a b) same), λ e. subst (λ c. eq_by_cmp nat_cmp a c ≡ true) e ((eq_by_cmp_equiv nat_cmp_total).refl a))

-- by package, then by source
abbrev pub given_cmp : Given → Given → Ordering
given_cmp = then_cmp (on (λ g. g.package) nat_cmp) (on (λ g. g.source) nat_cmp)

both : (a b : Given) → Decides (eq_by_cmp nat_cmp a.package b.package && eq_by_cmp nat_cmp a.source b.source) (a ≡ b)
both a b =
    Decides-like (eq_by_cmp nat_cmp a.package b.package && eq_by_cmp nat_cmp a.source b.source)
    (λ e. λ i. record { «package» = e.0 i; source = e.1 i })
    (λ e. (ap (λ (g : Given). g.package) e, ap (λ (g : Given). g.source) e))
    (Decides-and _ _ (exact_number a.package b.package) (exact_number a.source b.source))

pub exact_given : (a b : Given) → Decides (eq_by_cmp given_cmp a b) (a ≡ b)
exact_given a b =
    let same = tied_then (nat_cmp a.package b.package) (nat_cmp a.source b.source) in
    (λ t. (both a b).0 (same ∙ t), λ e. sym same ∙ (both a b).1 e)

-- by export, then by source
abbrev pub lead_cmp : Lead → Lead → Ordering
lead_cmp = then_cmp (on (λ l. l.export) given_cmp) (on (λ l. l.source) given_cmp)

both_parts : (a b : Lead) → Decides (eq_by_cmp given_cmp a.export b.export && eq_by_cmp given_cmp a.source b.source) (a ≡ b)
both_parts a b =
    Decides-like (eq_by_cmp given_cmp a.export b.export && eq_by_cmp given_cmp a.source b.source)
    (λ e. λ i. record { export = e.0 i; source = e.1 i })
    (λ e. (ap (λ (l : Lead). l.export) e, ap (λ (l : Lead). l.source) e))
    (Decides-and _ _ (exact_given a.export b.export) (exact_given a.source b.source))

pub exact_lead : (a b : Lead) → Decides (eq_by_cmp lead_cmp a b) (a ≡ b)
exact_lead a b =
    let same = tied_then (given_cmp a.export b.export) (given_cmp a.source b.source) in
    (λ t. (both_parts a b).0 (same ∙ t), λ e. sym same ∙ (both_parts a b).1 e)
