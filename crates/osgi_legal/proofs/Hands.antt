-- All that is due to a listener was handed: from the last entry that concerns it to a hand that answers nothing.
use Rattle.std.proofs.Common.{◌≡◌, ◌⊎◌, inl, inr, List, [], ◌∷◌, ◌++◌, append-nil, append_assoc, refl, sym, ap, ◌∙◌, subst}
use Rattle.osgi_ops.specs.Along.{along, AllAlong}
use mathlib.Core.List.{IsPrefix}
use Rattle.osgi_ops.specs.laws.Along.{along-append, AllAlong-split}

-- either nothing of the list concerns, or there is a last entry that does
abbrev pub Last : {A : Type 0} → (List A → A → Type 0) → List A → List A → Type 0
Last {A} Concerns front rest =
    AllAlong (λ f e. ¬ Concerns f e) front rest
    ⊎ ((u : List A) × (e : A) × (v : List A) × (rest ≡ u ++ e ∷ v) × Concerns (front ++ u) e × AllAlong (λ f x. ¬ Concerns f x) (front ++ (u ++ e ∷ [])) v)

pub last-one : {A : Type 0} (Concerns : List A → A → Type 0) → ((f : List A) (e : A) → Concerns f e ⊎ (¬ Concerns f e)) → (front rest : List A) → Last Concerns front rest
last-one Concerns known front [] = inl tt
last-one {A} Concerns known front (x ∷ rest) = go (last-one Concerns known (front ++ x ∷ []) rest) (known front x)
  where
    go : Last Concerns (front ++ x ∷ []) rest → Concerns front x ⊎ (¬ Concerns front x) → Last Concerns front (x ∷ rest)
    go (inl none) (inl here) = inr ([], x, rest, refl, subst (λ l. Concerns l x) (sym (append-nil front)) here, subst (λ l. AllAlong (λ f y. ¬ Concerns f y) l rest) (ap (λ l. front ++ l) refl) none)
    go (inl none) (inr away) = inl (away, none)
    go (inr p) k = inr (
      x ∷ p.0,
      p.1,
      p.2,
      ap (λ l. x ∷ l) p.3,
      subst (λ l. Concerns l p.1) (append_assoc front (x ∷ []) p.0) p.4,
      subst (λ l. AllAlong (λ f y. ¬ Concerns f y) l p.2) (append_assoc front (x ∷ []) (p.0 ++ p.1 ∷ [])) p.5,
    )

-- where nothing of a part concerns the listener, that part makes nothing due and hands nothing
pub none-read : {A B : Type 0} (f : List A → A → List B) (front rest : List A) → AllAlong (λ l e. f l e ≡ []) front rest → along f front rest ≡ []
none-read f front [] h = refl
none-read f front (x ∷ rest) h = ap (λ l. l ++ along f (front ++ x ∷ []) rest) h.0 ∙ none-read f (front ++ x ∷ []) rest h.1

AllAlong-map : {A : Type 0} (P Q : List A → A → Type 0) → ((f : List A) (e : A) → P f e → Q f e) → (front rest : List A) → AllAlong P front rest → AllAlong Q front rest
AllAlong-map P Q m front [] h = tt
AllAlong-map P Q m front (x ∷ rest) h = (m front x h.0, AllAlong-map P Q m (front ++ x ∷ []) rest h.1)

same-or-more : {B : Type 0} (g more : List B) → IsPrefix (g ++ more) g → more ≡ []
same-or-more [] [] p = refl
same-or-more [] (x ∷ more) p = absurd (cc (p.1))
same-or-more (y ∷ g) more p = same-or-more g more (p.0, cc (p.1))

-- due and handed are what one listener sees and is handed; p is settled where all that is due at p was handed
pub all-handed : {A B : Type 0} (due handed : List A → A → List B) (Concerns : List A → A → Type 0) →
    ((f : List A) (e : A) → Concerns f e ⊎ (¬ Concerns f e)) →
    ((f : List A) (e : A) → ¬ Concerns f e → due f e ≡ []) →
    (h : List A) → IsPrefix (along handed [] h) (along due [] h) →
    ((u : List A) (e : A) (v : List A) → h ≡ u ++ e ∷ v → Concerns u e → AllAlong (λ f x. ¬ Concerns f x) (u ++ e ∷ []) v →
    (a : List A) × (b : List A) × (v ≡ a ++ b) × (along due [] ((u ++ e ∷ []) ++ a) ≡ along handed [] ((u ++ e ∷ []) ++ a))) →
    along due [] h ≡ along handed [] h
all-handed {A} {B} due handed Concerns known quiet h prefix after = go (last-one Concerns known [] h)
  where
    empty : (g : List B) → IsPrefix g [] → g ≡ []
    empty [] p = refl
    empty (x ∷ g) p = absurd (cc (p.1))

    go : Last Concerns [] h → along due [] h ≡ along handed [] h
    go (inl none) =
        let d : along due [] h ≡ [] = none-read due [] h (AllAlong-map (λ f e. ¬ Concerns f e) (λ f e. due f e ≡ []) quiet [] h none) in
        d ∙ sym (empty (along handed [] h) (subst (IsPrefix (along handed [] h)) d prefix))
    go (inr p) =
        let w = after p.0 p.1 p.2 p.3 p.4 p.5 in
        let front : List A = (p.0 ++ p.1 ∷ []) ++ w.0 in
        let is : h ≡ front ++ w.1 = p.3 ∙ sym (append_assoc p.0 (p.1 ∷ []) p.2) ∙ ap (λ l. (p.0 ++ p.1 ∷ []) ++ l) w.2 ∙ sym (append_assoc (p.0 ++ p.1 ∷ []) w.0 w.1) in
        let none : AllAlong (λ f x. ¬ Concerns f x) front w.1 = (AllAlong-split (λ f x. ¬ Concerns f x) (p.0 ++ p.1 ∷ []) w.0 w.1 (subst (AllAlong (λ f x. ¬ Concerns f x) (p.0 ++ p.1 ∷ [])) w.2 p.5)).1 in
        let tail : along due front w.1 ≡ [] = none-read due front w.1 (AllAlong-map (λ f e. ¬ Concerns f e) (λ f e. due f e ≡ []) quiet front w.1 none) in
        let d : along due [] h ≡ along due [] front = ap (along due []) is ∙ along-append due [] front w.1 ∙ ap (λ l. along due [] front ++ l) tail ∙ append-nil (along due [] front) in
        let g : along handed [] h ≡ along handed [] front ++ along handed front w.1 = ap (along handed []) is ∙ along-append handed [] front w.1 in
        let more : along handed front w.1 ≡ [] = same-or-more (along handed [] front) (along handed front w.1) (subst (IsPrefix (along handed [] front ++ along handed front w.1)) (d ∙ w.3) (subst (λ l. IsPrefix l (along due [] h)) g prefix)) in
        d ∙ w.3 ∙ sym (g ∙ ap (λ l. along handed [] front ++ l) more ∙ append-nil (along handed [] front))
