-- Keys that tie are the same.
use Rattle.std.proofs.Common.{ap, ◌≡◌, ◌↔◌, ◌⊎◌, inl, inr, sym, ◌∙◌, refl, subst}
use Rattle.std.specs.Prelude.{Bool, true, false, cond, None, Some}
use Rattle.std.specs.Option.{option_cmp}
use Rattle.std.specs.Cmp.Lexicographic.{options_total}
use Rattle.std.specs.BTreeSet.{BTreeSet, contains, Updates}
use Rattle.std.specs.Cmp.{IsTotalOrder}
use Rattle.std.specs.Ordering.{is_eq, on, ordering_then, then_cmp}
use Rattle.std.specs.declared.cmp.Ordering.{Ordering}
use Rattle.std.specs.declared.cmp.Ordering.TheVariants.{Less, Equal, Greater}
use Rattle.std.proofs.lemmas.Cmp.{eq_by_cmp_equiv, nat_cmp_total, nat_list_cmp_total, on_total, then_total}
use Rattle.std.proofs.lemmas.Map.Lookups.{CmpEqualImpliesEq, exact_bytes, exact_unsigned}
use Rattle.osgi_base.specs.computed.Texts.{text_cmp}
use Rattle.osgi_base.specs.declared.ids.RevisionId.{RevisionId}
use Rattle.osgi_space_rules.specs.computed.Growing.{Has}
use Rattle.osgi_space_rules.specs.computed.Keys.{attachment_cmp, package_cmp, place_cmp, provided_cmp, revision_cmp, wire_cmp, wired_cmp}

tie_first : (p q : Ordering) → ordering_then p q ≡ Equal → p ≡ Equal
tie_first Less q tie = absurd (cc tie)
tie_first Equal q tie = refl
tie_first Greater q tie = absurd (cc tie)

tie_second : (p q : Ordering) → ordering_then p q ≡ Equal → q ≡ Equal
tie_second Less q tie = absurd (cc tie)
tie_second Equal q tie = tie
tie_second Greater q tie = absurd (cc tie)

exact_two : {S A B : Type 0} (f : S → A) (g : S → B) {P : A → A → Ordering} {Q : B → B → Ordering} → ((x y : S) → f x ≡ f y → g x ≡ g y → x ≡ y) → CmpEqualImpliesEq P → CmpEqualImpliesEq Q → CmpEqualImpliesEq (then_cmp (on f P) (on g Q))
exact_two f g {P = P} {Q = Q} same exact_f exact_g x y tie = same x y (exact_f (f x) (f y) (tie_first (P (f x) (f y)) (Q (g x) (g y)) tie)) (exact_g (g x) (g y) (tie_second (P (f x) (f y)) (Q (g x) (g y)) tie))

pub revision_total : IsTotalOrder revision_cmp
revision_total = on_total (λ (r : RevisionId). r.0) nat_cmp_total

pub revision_exact : CmpEqualImpliesEq revision_cmp
revision_exact x y tie = let same = exact_unsigned x.0 y.0 tie in λ i. record { 0 = same i }

pub attachment_total : IsTotalOrder attachment_cmp
attachment_total = then_total (on_total (λ a. a.host) revision_total) (on_total (λ a. a.fragment) revision_total)

pub attachment_exact : CmpEqualImpliesEq attachment_cmp
attachment_exact = exact_two (λ a. a.host) (λ a. a.fragment) (λ x y e f i. record { host = e i; fragment = f i }) revision_exact revision_exact

pub place_total : IsTotalOrder place_cmp
place_total = then_total (on_total (λ p. p.owner) revision_total) (on_total (λ p. p.index) nat_cmp_total)

pub place_exact : CmpEqualImpliesEq place_cmp
place_exact = exact_two (λ p. p.owner) (λ p. p.index) (λ x y e f i. record { owner = e i; index = f i }) revision_exact exact_unsigned

pub wired_total : IsTotalOrder wired_cmp
wired_total = then_total (on_total (λ p. p.revision) revision_total) (on_total (λ p. p.requirement) place_total)

pub wired_exact : CmpEqualImpliesEq wired_cmp
wired_exact = exact_two (λ p. p.revision) (λ p. p.requirement) (λ x y e f i. record { revision = e i; requirement = f i }) revision_exact place_exact

is_eq-tied : (r : Ordering) → is_eq r ≡ true → r ≡ Equal
is_eq-tied Less same = absurd (cc same)
is_eq-tied Equal same = refl
is_eq-tied Greater same = absurd (cc same)

cond_true : (here was : Bool) → cond here true was ≡ true → (here ≡ true) ⊎ (was ≡ true)
cond_true true was is = inl refl
cond_true false was is = inr is

true_cond : (here was : Bool) → (here ≡ true) ⊎ (was ≡ true) → cond here true was ≡ true
true_cond true was either = refl
true_cond false was (inl e) = absurd (cc e)
true_cond false was (inr e) = e

-- a key that is put into a set
pub inserted : {K : Type 0} {cmp : K → K → Ordering} → IsTotalOrder cmp → CmpEqualImpliesEq cmp → (old new : BTreeSet K) (key : K) → Updates cmp old new key true → (y : K) → Has cmp new y ↔ (Has cmp old y ⊎ (y ≡ key))
inserted {cmp = cmp} total exact old new key updates y =
    let here = is_eq (cmp key y) in
    let was = contains cmp old y in
    let is : contains cmp new y ≡ cond here true was = updates.0 y in (
      λ t. elim (cond_true here was (sym is ∙ t)) [ inl e ↦ inr (sym (exact key y (is_eq-tied (cmp key y) e))) | inr o ↦ inl o ],
      λ either. is ∙ true_cond here was (elim either [ inl o ↦ inr o | inr e ↦ inl (subst (λ z. is_eq (cmp key z) ≡ true) (sym e) ((eq_by_cmp_equiv total).refl key)) ]),
    )

-- ---- keys with texts

pub text_total : IsTotalOrder text_cmp
text_total = nat_list_cmp_total

pub text_exact : CmpEqualImpliesEq text_cmp
text_exact = exact_bytes

pub package_total : IsTotalOrder package_cmp
package_total = then_total (on_total (λ p. p.revision) revision_total) (on_total (λ p. p.name) text_total)

pub package_exact : CmpEqualImpliesEq package_cmp
package_exact = exact_two (λ p. p.revision) (λ p. p.name) (λ x y e f i. record { revision = e i; name = f i }) revision_exact text_exact

-- ---- keys of wires

option_exact : {A : Type 0} {P : A → A → Ordering} → CmpEqualImpliesEq P → CmpEqualImpliesEq (option_cmp P)
option_exact exact None None tie = refl
option_exact exact None (Some y) tie = absurd (cc tie)
option_exact exact (Some x) None tie = absurd (cc tie)
option_exact exact (Some x) (Some y) tie = ap Some (exact x y tie)

provided_total : IsTotalOrder provided_cmp
provided_total = then_total (on_total (λ p. p.provider) revision_total) (on_total (λ p. p.place) place_total)

provided_exact : CmpEqualImpliesEq provided_cmp
provided_exact = exact_two (λ p. p.provider) (λ p. p.place) (λ x y e f i. record { provider = e i; place = f i }) revision_exact place_exact

pub wire_total : IsTotalOrder wire_cmp
wire_total = then_total (on_total (λ k. k.requirement) place_total) (on_total (λ k. k.capability) (options_total provided_total))

pub wire_exact : CmpEqualImpliesEq wire_cmp
wire_exact = exact_two (λ k. k.requirement) (λ k. k.capability) (λ x y e f i. record { requirement = e i; capability = f i }) place_exact (option_exact provided_exact)
