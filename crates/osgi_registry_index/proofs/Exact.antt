-- Places that compare as equal are the same.
use Rattle.std.proofs.Common.{◌≡◌, sym, refl}
use Rattle.std.specs.Prelude.{true, false}
use Rattle.std.specs.Ordering.{int_cmp, is_eq, nat_cmp, ordering_then}
use Rattle.std.specs.declared.cmp.Ordering.{Ordering}
use Rattle.std.specs.declared.cmp.Ordering.TheVariants.{Less, Equal, Greater}
use Rattle.std.proofs.lemmas.Cmp.{int_cmp_total, nat_cmp_total, tied_itself}
use Rattle.std.proofs.lemmas.Map.Lookups.{exact_signed, exact_unsigned}
use Rattle.osgi_registry_index.specs.declared.place.Place.{Place}
use Rattle.osgi_registry_index.specs.Places.{same_place}

both_equal : (a b : Ordering) → is_eq (ordering_then a b) ≡ true → (a ≡ Equal) × (b ≡ Equal)
both_equal Less b is = absurd (cc is)
both_equal Equal Less is = absurd (cc is)
both_equal Equal Equal is = (refl, refl)
both_equal Equal Greater is = absurd (cc is)
both_equal Greater b is = absurd (cc is)

pub place_exact : (p q : Place) → same_place p q ≡ true → p ≡ q
place_exact p q same =
    let parts = both_equal (int_cmp q.ranking.0 p.ranking.0) (nat_cmp p.service q.service) same in
    let ranking : q.ranking.0 ≡ p.ranking.0 = exact_signed q.ranking.0 p.ranking.0 parts.0 in
    let service : p.service ≡ q.service = exact_unsigned p.service q.service parts.1 in
    λ i. record { ranking = record { 0 = (sym ranking) i }; service = service i }

pub place_itself : (p : Place) → same_place p p ≡ true
place_itself p = rw (tied_itself int_cmp_total p.ranking.0, tied_itself nat_cmp_total p.service) refl

-- no place is the same as two that differ
pub places_apart : (p q r : Place) → same_place p q ≡ false → same_place q r ≡ true → same_place p r ≡ false
places_apart p q r apart same = rw (← place_exact q r same) apart
