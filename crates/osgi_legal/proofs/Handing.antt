-- What a listener was handed is a beginning of what is due to it, whatever the entries between are.
use Rattle.std.proofs.Common.{◌≡◌, ◌⊎◌, inl, inr, List, [], ◌∷◌, ◌++◌, append-nil, append_assoc, refl, sym, ap, ◌∙◌, subst}
use mathlib.Core.List.{IsPrefix}
use Rattle.osgi_ops.specs.Along.{along, AllAlong}
use Rattle.osgi_ops.specs.laws.Along.{along-last, holds}

-- an entry hands nothing to the listener, or the next event that is due
abbrev pub HandsNext : {A B : Type 0} → (List A → A → List B) → (List A → A → List B) → List A → A → Type 0
HandsNext {A} {B} due handed h e =
    (handed h e ≡ []) ⊎ ((x : B) × (rest : List B) × (handed h e ≡ x ∷ []) × (along due [] h ≡ along handed [] h ++ x ∷ rest))

step : {B : Type 0} (d g dn gn : List B) → (gn ≡ []) ⊎ ((x : B) × (rest : List B) × (gn ≡ x ∷ []) × (d ≡ g ++ x ∷ rest)) → IsPrefix g d → IsPrefix (g ++ gn) (d ++ dn)
step d g dn gn (inl none) p = (p.0 ++ dn, ap (λ l. (g ++ l) ++ (p.0 ++ dn)) none ∙ ap (λ l. l ++ (p.0 ++ dn)) (append-nil g) ∙ sym (append_assoc g p.0 dn) ∙ ap (λ l. l ++ dn) p.1)
step d g dn gn (inr h) p =
    (h.1 ++ dn, ap (λ l. (g ++ l) ++ (h.1 ++ dn)) h.2 ∙ sym (append_assoc (g ++ h.0 ∷ []) h.1 dn) ∙ ap (λ l. l ++ dn) (append_assoc g (h.0 ∷ []) h.1 ∙ sym h.3))

pub handed-prefix : {A B : Type 0} (ok : List A → A → Type 0) (due handed : List A → A → List B) →
    ((h : List A) (e : A) → AllAlong ok [] h → IsPrefix (along handed [] h) (along due [] h) → ok h e → HandsNext due handed h e) →
    (h : List A) → AllAlong ok [] h → IsPrefix (along handed [] h) (along due [] h)
handed-prefix ok due handed next h legal =
    holds ok (λ l. IsPrefix (along handed [] l) (along due [] l)) ([], refl)
    (λ xs e before i allowed. subst (λ l. IsPrefix l (along due [] (xs ++ e ∷ []))) (sym (along-last handed xs e))
    (subst (λ l. IsPrefix (along handed [] xs ++ handed xs e) l) (sym (along-last due xs e))
    (step (along due [] xs) (along handed [] xs) (due xs e) (handed xs e) (next xs e before i allowed) i)))
    h legal
