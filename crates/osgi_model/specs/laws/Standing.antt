-- Pieces stand in a text just where the test says so.
use Rattle.std.proofs.Common.{◌≡◌, ℕ, List, [], ◌∷◌, ◌++◌, length, take, drop, Bool, false, ◌||◌, ◌⊎◌, inl, inr, ap, sym, refl, subst, ◌∙◌}
use Rattle.std.specs.Bool.{Decides}
use Rattle.std.proofs.Math.Seq.{drop-append_seam, take-append_seam}
use Rattle.std.proofs.lemmas.Bool.{false≢true}
use Rattle.std.proofs.lemmas.Bool.Decides.{Decides-and, Decides-like, Decides-or}
use Rattle.std.proofs.lemmas.List.{take-append-drop}
use Rattle.std.proofs.lemmas.Slice.Eq.{bytes_eq-Decides}
use Rattle.osgi_model.specs.computed.MatchReader.{somewhere, stand}
use Rattle.osgi_model.specs.Matching.{Stand}

pub nothing : Decides false ⊥
nothing = (λ h. absurd (false≢true h), λ h. absurd h)

-- P holds of some end of the text
abbrev pub EndsSo : (List ℕ → Type 0) → List ℕ → Type 0
EndsSo P text = (gap : List ℕ) × (rest : List ℕ) × (text ≡ gap ++ rest) × P rest

module _ (F : List ℕ → Bool) (P : List ℕ → Type 0) (each : (text : List ℕ) → Decides (F text) (P text)) where
  empty_end : EndsSo P [] → P []
  empty_end ([], rest, e, h) = subst P (sym e) h
  empty_end (b ∷ gap, rest, e, h) = absurd (cc)

  here_or_later : (b : ℕ) (bs : List ℕ) → P (b ∷ bs) ⊎ EndsSo P bs → EndsSo P (b ∷ bs)
  here_or_later b bs (inl h) = ([], b ∷ bs, refl, h)
  here_or_later b bs (inr h) = (b ∷ h.0, h.1, ap (λ (x : List ℕ). b ∷ x) h.2, h.3)

  from_end : (b : ℕ) (bs : List ℕ) → EndsSo P (b ∷ bs) → P (b ∷ bs) ⊎ EndsSo P bs
  from_end b bs ([], rest, e, h) = inl (subst P (sym e) h)
  from_end b bs (c ∷ gap, rest, e, h) = inr (gap, rest, cc, h)

  pub somewhere_decides : (text : List ℕ) → Decides (somewhere F text) (EndsSo P text)
  somewhere_decides [] = Decides-like (F []) (λ h. ([], [], refl, h)) empty_end (each [])
  somewhere_decides (b ∷ bs) = Decides-like (F (b ∷ bs) || somewhere F bs) (here_or_later b bs) (from_end b bs) (Decides-or (F (b ∷ bs)) (somewhere F bs) (each (b ∷ bs)) (somewhere_decides bs))

pub stand_decides : (pieces : List (List ℕ)) (text : List ℕ) → Decides (stand pieces text) (Stand pieces text)
stand_decides [] text = nothing
stand_decides (last ∷ []) text = bytes_eq-Decides text last
stand_decides (piece ∷ next ∷ more) text =
    let n : ℕ = length piece in
    Decides-like _
    (λ h. (h.1.0, h.1.1, sym (take-append-drop n text) ∙ ap (λ (x : List ℕ). x ++ drop n text) (sym h.0) ∙ ap (λ (x : List ℕ). piece ++ x) h.1.2, h.1.3))
    (λ h. (sym (ap (take n) h.2 ∙ take-append_seam piece (h.0 ++ h.1)), (h.0, h.1, ap (drop n) h.2 ∙ drop-append_seam piece (h.0 ++ h.1), h.3)))
    (Decides-and _ _ (bytes_eq-Decides piece (take n text)) (somewhere_decides (stand (next ∷ more)) (Stand (next ∷ more)) (stand_decides (next ∷ more)) (drop n text)))
