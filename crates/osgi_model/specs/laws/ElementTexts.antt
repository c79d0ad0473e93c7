-- A text is read as the elements that it spells, and only as those.
use Rattle.std.proofs.Common.{◌≡◌, ◌≢◌, ℕ, ◌⊎◌, inl, inr, List, [], ◌∷◌, ◌++◌, ap, sym, ◌∙◌, append-nil, append_assoc, subst}
use Rattle.std.specs.Prelude.{Bool, true, false, ◌==◌}
use Rattle.std.proofs.lemmas.Bool.{cond-false, cond-true, eq-eqb, ne_eqb, or_left, or_right, or_from}
use Rattle.std.proofs.lemmas.Bool.Decides.{eqb_tells}
use Rattle.osgi_model.specs.Elements.{SpellsElement, nothing, plain, escaped, backslash, AreElements, last, last_backslash, more}
use Rattle.osgi_model.specs.computed.ValueReader.{elements_after, elements_of, unescaped}

Tells : ℕ → ℕ → Type 0
Tells a b = ((a == b) ≡ true) × (a ≡ b) ⊎ ((a == b) ≡ false) × (a ≢ b)

unescaped_self : (b : ℕ) → (b ≡ 44) ⊎ (b ≡ 92) → unescaped b ≡ b ∷ []
unescaped_self b (inl e) = cond-true _ _ _ (or_left (b == 44) (b == 92) (eq-eqb b 44 e))
unescaped_self b (inr e) = cond-true _ _ _ (or_right (b == 44) (b == 92) (eq-eqb b 92 e))

unescaped_both : (b : ℕ) → b ≢ 44 → b ≢ 92 → unescaped b ≡ 92 ∷ b ∷ []
unescaped_both b no_comma no_backslash = cond-false _ _ _ (or_from (b == 44) (b == 92) (ne_eqb b 44 no_comma) (ne_eqb b 92 no_backslash))

plain_step : (b : ℕ) (text rest : List ℕ) → b ≢ 44 → b ≢ 92 → elements_after false text (b ∷ rest) ≡ elements_after false (text ++ b ∷ []) rest
plain_step b text rest no_comma no_backslash = cond-false (b == 44) _ _ (ne_eqb b 44 no_comma) ∙ cond-false (b == 92) _ _ (ne_eqb b 92 no_backslash)

-- what is spelled is read, and then what follows it
element_read : {spelled element : List ℕ} → SpellsElement spelled element → (text rest : List ℕ) → elements_after false text (spelled ++ rest) ≡ elements_after false (text ++ element) rest
element_read nothing text rest = ap (λ t. elements_after false t rest) (sym (append-nil text))
element_read (plain {b = b} {spelled = spelled} {text = element} no_comma no_backslash tail) text rest =
    plain_step b text (spelled ++ rest) no_comma no_backslash ∙ element_read tail (text ++ b ∷ []) rest
    ∙ ap (λ t. elements_after false t rest) (append_assoc text (b ∷ []) element)
element_read (escaped {b = b} {spelled = spelled} {text = element} special tail) text rest =
    ap (λ t. elements_after false (text ++ t) (spelled ++ rest)) (unescaped_self b special) ∙ element_read tail (text ++ b ∷ []) rest
    ∙ ap (λ t. elements_after false t rest) (append_assoc text (b ∷ []) element)
element_read (backslash {b = b} {spelled = spelled} {text = element} no_comma no_backslash tail) text rest =
    ap (λ t. elements_after false (text ++ t) (spelled ++ rest)) (unescaped_both b no_comma no_backslash) ∙ element_read tail (text ++ 92 ∷ b ∷ []) rest
    ∙ ap (λ t. elements_after false t rest) (append_assoc text (92 ∷ b ∷ []) element)

pub elements_read : {text : List ℕ} {texts : List (List ℕ)} → AreElements text texts → elements_of text ≡ texts
elements_read (last {spelled = spelled} spells) = ap (elements_after false []) (sym (append-nil spelled)) ∙ element_read spells [] []
elements_read (last_backslash spells) = element_read spells [] (92 ∷ [])
elements_read (more {text = text} {rest = rest} spells are) = element_read spells [] (44 ∷ rest) ∙ ap (λ l. text ∷ l) (elements_read are)

-- ---- each text has elements

spells_both : {first text second remainder : List ℕ} → SpellsElement first text → SpellsElement second remainder → SpellsElement (first ++ second) (text ++ remainder)
spells_both nothing rest = rest
spells_both (plain no_comma no_backslash tail) rest = plain no_comma no_backslash (spells_both tail rest)
spells_both (escaped special tail) rest = escaped special (spells_both tail rest)
spells_both (backslash no_comma no_backslash tail) rest = backslash no_comma no_backslash (spells_both tail rest)

unescaped_spells : (b : ℕ) → Tells b 44 → Tells b 92 → SpellsElement (92 ∷ b ∷ []) (unescaped b)
unfolding Tells
unescaped_spells b (inl comma) slash = subst (SpellsElement (92 ∷ b ∷ [])) (sym (unescaped_self b (inl comma.1))) (escaped (inl comma.1) nothing)
unescaped_spells b (inr no_comma) (inl slash) = subst (SpellsElement (92 ∷ b ∷ [])) (sym (unescaped_self b (inr slash.1))) (escaped (inr slash.1) nothing)
unescaped_spells b (inr no_comma) (inr no_slash) =
    subst (SpellsElement (92 ∷ b ∷ [])) (sym (unescaped_both b no_comma.1 no_slash.1)) (backslash no_comma.1 no_slash.1 nothing)

abbrev remainder : Bool → List ℕ → List ℕ
remainder true rest = 92 ∷ rest
remainder false rest = rest

byte_more : (b : ℕ) (spelled text rest : List ℕ) → Tells b 44 → Tells b 92 → SpellsElement spelled text → AreElements rest (elements_after false [] rest) →
    AreElements (spelled ++ 92 ∷ rest) (elements_after true text rest) →
    (b ≢ 44 → b ≢ 92 → AreElements ((spelled ++ b ∷ []) ++ rest) (elements_after false (text ++ b ∷ []) rest)) →
    AreElements (spelled ++ b ∷ rest) (elements_after false text (b ∷ rest))
unfolding Tells
byte_more b spelled text rest (inl comma) slash spells next skipped go =
    subst (AreElements (spelled ++ b ∷ rest)) (sym (cond-true (b == 44) _ _ comma.0)) (rw comma.1 (more spells next))
byte_more b spelled text rest (inr no_comma) (inl slash) spells next skipped go =
    subst (AreElements (spelled ++ b ∷ rest)) (sym (cond-false (b == 44) _ _ no_comma.0 ∙ cond-true (b == 92) _ _ slash.0)) (rw slash.1 skipped)
byte_more b spelled text rest (inr no_comma) (inr no_slash) spells next skipped go =
    subst (AreElements (spelled ++ b ∷ rest)) (sym (plain_step b text rest no_comma.1 no_slash.1))
    (subst (λ l. AreElements l (elements_after false (text ++ b ∷ []) rest)) (append_assoc spelled (b ∷ []) rest) (go no_comma.1 no_slash.1))

elements_from : (after_slash : Bool) (spelled text rest : List ℕ) → SpellsElement spelled text → AreElements (spelled ++ remainder after_slash rest) (elements_after after_slash text rest)
unfolding Tells
elements_from true spelled text [] spells = last_backslash spells
elements_from false spelled text [] spells = rw append-nil (last spells)
elements_from true spelled text (b ∷ rest) spells =
    subst (λ l. AreElements l (elements_after false (text ++ unescaped b) rest)) (append_assoc spelled (92 ∷ b ∷ []) rest)
    (elements_from false (spelled ++ 92 ∷ b ∷ []) (text ++ unescaped b) rest (spells_both spells (unescaped_spells b (eqb_tells b 44) (eqb_tells b 92))))
elements_from false spelled text (b ∷ rest) spells =
    byte_more b spelled text rest (eqb_tells b 44) (eqb_tells b 92) spells (elements_from false [] [] rest nothing) (elements_from true spelled text rest spells)
    (λ no_comma no_backslash. elements_from false (spelled ++ b ∷ []) (text ++ b ∷ []) rest (spells_both spells (plain no_comma no_backslash nothing)))

pub elements_sound : (text : List ℕ) → AreElements text (elements_of text)
elements_sound text = elements_from false [] [] text nothing
