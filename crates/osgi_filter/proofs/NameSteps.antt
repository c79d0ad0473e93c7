-- One byte more of a name.
use Rattle.std.proofs.Common.{◌≡◌, ℕ, zero, suc, ◌+◌, ◌≤◌, ◌<◌, true, false, List, [], ◌∷◌, ◌++◌, length, take, drop, get_or, refl, sym, ap, ◌∙◌, arith, append_assoc, add-one, drop-cons, length-take}
use Rattle.std.proofs.lemmas.List.{take_more, drop-append-le, take-append-drop, drop_all}
use Rattle.osgi_version.specs.Bytes.{is_blank}
use Rattle.osgi_model.specs.Filters.{is_item_name_byte}
use Rattle.osgi_filter.specs.computed.Reader.{name_at}

blank_byte : (name blanks rest : List ℕ) (b : ℕ) → is_item_name_byte b ≡ true → is_blank b ≡ true → name_at name blanks (b ∷ rest) ≡ name_at name (blanks ++ b ∷ []) rest
blank_byte name blanks rest b n k = rw (n, k) refl

other_byte : (name blanks rest : List ℕ) (b : ℕ) → is_item_name_byte b ≡ true → is_blank b ≡ false → name_at name blanks (b ∷ rest) ≡ name_at (name ++ (blanks ++ b ∷ [])) [] rest
other_byte name blanks rest b n k = rw (n, k) refl

take_shorter : (end at : ℕ) (bytes : List ℕ) → end ≤ at → take end (take at bytes) ≡ take end bytes
take_shorter zero at bytes le = refl
take_shorter (suc end) zero bytes le = absurd (omega arith)
take_shorter (suc end) (suc at) [] le = refl
take_shorter (suc end) (suc at) (b ∷ bs) le = ap (λ (x : List ℕ). b ∷ x) (take_shorter end at bs (omega arith))

module _ (bytes : List ℕ) (end at : ℕ) (lt : at < length bytes) (le : end ≤ at) where
  rest_is : drop at bytes ≡ get_or bytes at 0 ∷ drop (at + 1) bytes
  rest_is = rw (add-one at) (drop-cons bytes at 0 lt)

  front_fits : end ≤ length (take at bytes)
  front_fits = omega (arith, length-take at bytes)

  front_is : take end bytes ++ drop end (take at bytes) ≡ take at bytes
  front_is = ap (λ (x : List ℕ). x ++ drop end (take at bytes)) (sym (take_shorter end at bytes le)) ∙ take-append-drop end (take at bytes)

  pub name_blank : is_item_name_byte (get_or bytes at 0) ≡ true → is_blank (get_or bytes at 0) ≡ true → name_at (take end bytes) (drop end (take (at + 1) bytes)) (drop (at + 1) bytes) ≡ name_at (take end bytes) (drop end (take at bytes)) (drop at bytes)
  name_blank n k =
      ap (λ (x : List ℕ). name_at (take end bytes) x (drop (at + 1) bytes)) (ap (λ (x : List ℕ). drop end x) (take_more bytes at 0 lt) ∙ drop-append-le end (take at bytes) (get_or bytes at 0 ∷ []) front_fits)
      ∙ sym (ap (λ (x : List ℕ). name_at (take end bytes) (drop end (take at bytes)) x) rest_is ∙ blank_byte (take end bytes) (drop end (take at bytes)) (drop (at + 1) bytes) (get_or bytes at 0) n k)

  pub name_other : is_item_name_byte (get_or bytes at 0) ≡ true → is_blank (get_or bytes at 0) ≡ false → name_at (take (at + 1) bytes) (drop (at + 1) (take (at + 1) bytes)) (drop (at + 1) bytes) ≡ name_at (take end bytes) (drop end (take at bytes)) (drop at bytes)
  name_other n k =
      let whole : take (at + 1) bytes ≡ take end bytes ++ (drop end (take at bytes) ++ get_or bytes at 0 ∷ []) =
      take_more bytes at 0 lt ∙ ap (λ (x : List ℕ). x ++ get_or bytes at 0 ∷ []) (sym front_is) ∙ append_assoc (take end bytes) (drop end (take at bytes)) (get_or bytes at 0 ∷ []) in
      let none : drop (at + 1) (take (at + 1) bytes) ≡ [] = drop_all (at + 1) (take (at + 1) bytes) (omega (arith, length-take (at + 1) bytes)) in
      ap (λ (x : List ℕ). name_at (take (at + 1) bytes) x (drop (at + 1) bytes)) none
      ∙ ap (λ (x : List ℕ). name_at x [] (drop (at + 1) bytes)) whole
      ∙ sym (ap (λ (x : List ℕ). name_at (take end bytes) (drop end (take at bytes)) x) rest_is ∙ other_byte (take end bytes) (drop end (take at bytes)) (drop (at + 1) bytes) (get_or bytes at 0) n k)
