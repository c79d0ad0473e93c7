-- A piece at its first place leaves the others the most room.
use Rattle.std.proofs.Common.{◌≡◌, ◌↔◌, ℕ, ◌+◌, ◌-◌, ◌<◌, ◌≤◌, List, [], ◌∷◌, ◌++◌, length, get_or, take, drop, Bool, true, false, Some, None, ap, sym, refl, subst, ◌∙◌, append_assoc, length-append, arith}
use Rattle.std.specs.Prelude.{nat_eq, IsTrue}
use Rattle.std.specs.Cmp.Lexicographic.{pointwise}
use Rattle.std.proofs.Math.Seq.{drop-append_seam, take-append_seam}
use Rattle.std.proofs.lemmas.Bool.{false≢true}
use Rattle.std.proofs.lemmas.Bool.Decides.{Decides-at}
use Rattle.std.proofs.lemmas.List.{append_cancel_left, append_cancel_right, drop-append-le, drop_more, take-append-drop}
use Rattle.std.proofs.lemmas.Slice.Eq.{bytes_eq-Decides}
use Rattle.memchr.specs.Find.{FindsNeedle, OccursAt}
use Rattle.memchr.proofs.lemmas.MatchLemmas.{OccursAt-from_part, OccursAt-split}
use Rattle.osgi_model.specs.Matching.{Stand}
use Rattle.osgi_filter.specs.computed.Between.{Between}

-- ---- pieces between

grows : (pieces : List (List ℕ)) (start text : List ℕ) → Between pieces text → Between pieces (start ++ text)
grows [] start text h = tt
grows (piece ∷ more) start text (gap, rest, e, h) = (start ++ gap, rest, ap (λ (x : List ℕ). start ++ x) e ∙ sym (append_assoc start gap (piece ++ rest)), h)

occurs : (text piece gap rest : List ℕ) → text ≡ gap ++ (piece ++ rest) → OccursAt text piece (length gap)
occurs text piece gap rest e =
    OccursAt-from_part text piece (length gap)
    (omega (arith, ap length e, length-append gap (piece ++ rest), length-append piece rest))
    (ap (λ (x : List ℕ). take (length piece) (drop (length gap) x)) e ∙ ap (take (length piece)) (drop-append_seam gap (piece ++ rest)) ∙ take-append_seam piece rest)

reaches : (text piece gap rest : List ℕ) → text ≡ gap ++ (piece ++ rest) → length gap < length text + 1
reaches text piece gap rest e = omega (arith, ap length e, length-append gap (piece ++ rest))

pub not_between : (text piece : List ℕ) (more : List (List ℕ)) → FindsNeedle text piece 0 None → Between (piece ∷ more) text → ⊥
not_between text piece more nowhere (gap, rest, e, h) = nowhere (length gap) (omega arith) (reaches text piece gap rest e) (occurs text piece gap rest e)

-- what is after the first place is no less than what is after a later one
behind_first : (text piece gap rest : List ℕ) (at : ℕ) → text ≡ gap ++ (piece ++ rest) → at ≤ length gap → (start : List ℕ) × (drop (at + length piece) text ≡ start ++ rest)
behind_first text piece gap rest at e le =
    let n : ℕ = at + length piece in
    let whole : text ≡ (gap ++ piece) ++ rest = e ∙ sym (append_assoc gap piece rest) in
    (drop n (gap ++ piece), ap (drop n) whole ∙ drop-append-le n (gap ++ piece) rest (omega (arith, length-append gap piece)))

pub first_found : (text piece : List ℕ) (more : List (List ℕ)) (at : ℕ) → FindsNeedle text piece 0 (Some at) → Between (piece ∷ more) text ↔ Between more (drop (at + length piece) text)
first_found text piece more at (first, here) = (
  (λ b.
      let le : at ≤ length b.0 = not_later b.0 b.1 b.2 in
      let remainder = behind_first text piece b.0 b.1 at b.2 le in
      subst (λ (x : List ℕ). Between more x) (sym remainder.1) (grows more remainder.0 b.1 b.3)),
  (λ b. (take at text, drop (at + length piece) text, sym (take-append-drop at text) ∙ ap (λ (x : List ℕ). take at text ++ x) (OccursAt-split text piece at here), b)),
)
  where
    not_later : (gap rest : List ℕ) → text ≡ gap ++ (piece ++ rest) → at ≤ length gap
    not_later gap rest e =
        let no : ¬ (length gap < at) = λ lt. first.before (length gap) (omega arith) lt (occurs text piece gap rest e) in
        omega (arith, no)

-- ---- all pieces

pub ends_of : (first : List ℕ) (between : List (List ℕ)) (last text : List ℕ) → Stand (first ∷ (between ++ last ∷ [])) text → (middle : List ℕ) × (text ≡ first ++ (middle ++ last)) × Between between middle
ends_of first [] last text (gap, rest, e, h) = (gap, e ∙ ap (λ (x : List ℕ). first ++ (gap ++ x)) h, tt)
ends_of first (piece ∷ more) last text (gap, rest, e, h) =
    let r = ends_of piece more last rest h in
    let whole : gap ++ rest ≡ (gap ++ (piece ++ r.0)) ++ last = ap (λ (x : List ℕ). gap ++ x) (r.1 ∙ sym (append_assoc piece r.0 last)) ∙ sym (append_assoc gap (piece ++ r.0) last) in
    (gap ++ (piece ++ r.0), e ∙ ap (λ (x : List ℕ). first ++ x) whole, (gap, r.0, refl, r.2))

pub stand_of : (first : List ℕ) (between : List (List ℕ)) (last text middle : List ℕ) → text ≡ first ++ (middle ++ last) → Between between middle → Stand (first ∷ (between ++ last ∷ [])) text
stand_of first [] last text middle e h = (middle, last, e, refl)
stand_of first (piece ∷ more) last text middle e (gap, rest, parts, h) =
    let whole : middle ++ last ≡ gap ++ (piece ++ (rest ++ last)) = ap (λ (x : List ℕ). x ++ last) parts ∙ append_assoc gap (piece ++ rest) last ∙ ap (λ (x : List ℕ). gap ++ x) (append_assoc piece rest last) in
    (gap, piece ++ (rest ++ last), e ∙ ap (λ (x : List ℕ). first ++ x) whole, stand_of piece more last (piece ++ (rest ++ last)) rest refl h)

module _ (first : List ℕ) (between : List (List ℕ)) (last text : List ℕ) where
  pub no_front : pointwise nat_eq (take (length first) text) first ≡ false → Stand (first ∷ (between ++ last ∷ [])) text → ⊥
  no_front fails h =
      let r = ends_of first between last text h in
      false≢true (sym fails ∙ (bytes_eq-Decides (take (length first) text) first).1 (ap (take (length first)) r.1 ∙ take-append_seam first (r.0 ++ last)))

  pub start : pointwise nat_eq (take (length first) text) first ≡ true → text ≡ first ++ drop (length first) text
  start holds = sym (take-append-drop (length first) text) ∙ ap (λ (x : List ℕ). x ++ drop (length first) text) ((bytes_eq-Decides (take (length first) text) first).0 holds)

  pub no_end : (remainder : List ℕ) → text ≡ first ++ remainder → pointwise nat_eq (drop (length remainder - length last) remainder) last ≡ false → Stand (first ∷ (between ++ last ∷ [])) text → ⊥
  no_end remainder e fails h =
      let r = ends_of first between last text h in
      let is : remainder ≡ r.0 ++ last = append_cancel_left first remainder (r.0 ++ last) (sym e ∙ r.1) in
      let n : length remainder - length last ≡ length r.0 = omega (arith, ap length is, length-append r.0 last) in
      false≢true (sym fails ∙ (bytes_eq-Decides (drop (length remainder - length last) remainder) last).1 (ap (λ (k : ℕ). drop k remainder) n ∙ ap (drop (length r.0)) is ∙ drop-append_seam r.0 last))

  pub end : (remainder : List ℕ) → pointwise nat_eq (drop (length remainder - length last) remainder) last ≡ true → remainder ≡ take (length remainder - length last) remainder ++ last
  end remainder holds =
      let n : ℕ = length remainder - length last in
      sym (take-append-drop n remainder) ∙ ap (λ (x : List ℕ). take n remainder ++ x) ((bytes_eq-Decides (drop n remainder) last).0 holds)

  pub round : (remainder middle : List ℕ) → text ≡ first ++ remainder → remainder ≡ middle ++ last → Between between middle ↔ Stand (first ∷ (between ++ last ∷ [])) text
  round remainder middle e f = (
    (λ h. stand_of first between last text middle (e ∙ ap (λ (x : List ℕ). first ++ x) f) h),
    (λ h.
        let r = ends_of first between last text h in
        let is : r.0 ≡ middle = append_cancel_right r.0 middle last (append_cancel_left first (r.0 ++ last) (middle ++ last) (sym r.1 ∙ e ∙ ap (λ (x : List ℕ). first ++ x) f)) in
        subst (λ (x : List ℕ). Between between x) is r.2),
  )

-- ---- the loop

module _ (pieces : List (List ℕ)) (i : ℕ) (piece text rest : List ℕ) (inside : i < length pieces) (is : piece ≡ get_or pieces i piece) (kept : Between pieces text ↔ Between (drop i pieces) rest) where
  left : drop i pieces ≡ piece ∷ drop (i + 1) pieces
  left = drop_more pieces i piece inside ∙ ap (λ (x : List ℕ). x ∷ drop (i + 1) pieces) (sym is)

  pub never : FindsNeedle rest piece 0 None → Between pieces text → ⊥
  never nowhere h = not_between rest piece (drop (i + 1) pieces) nowhere (subst (λ (x : List (List ℕ)). Between x rest) left (kept.0 h))

  pub passed : (at : ℕ) (remainder : List ℕ) → FindsNeedle rest piece 0 (Some at) → remainder ≡ drop (at + length piece) rest → Between pieces text ↔ Between (drop (i + 1) pieces) remainder
  passed at remainder found e =
      let step = first_found rest piece (drop (i + 1) pieces) at found in (
        λ h. subst (λ (x : List ℕ). Between (drop (i + 1) pieces) x) (sym e) (step.0 (subst (λ (x : List (List ℕ)). Between x rest) left (kept.0 h))),
        λ h. kept.1 (subst (λ (x : List (List ℕ)). Between x rest) (sym left) (step.1 (subst (λ (x : List ℕ). Between (drop (i + 1) pieces) x) e h))),
      )

-- ---- first, others and last

pub only : (pieces others : List (List ℕ)) (last text : List ℕ) (r : Bool) → pieces ≡ others ++ last ∷ [] → length others ≡ 0 → r ≡ pointwise nat_eq text last → IsTrue r ↔ Stand pieces text
only pieces [] last text r e none is = subst (λ (x : List (List ℕ)). IsTrue r ↔ Stand x text) (sym e) (Decides-at r _ is (bytes_eq-Decides text last))
only pieces (piece ∷ more) last text r e none is = absurd (omega (arith, none))

pub joined : (pieces others between : List (List ℕ)) (first last text : List ℕ) (r : Bool) → pieces ≡ others ++ last ∷ [] → others ≡ first ∷ between → IsTrue r ↔ Stand (first ∷ (between ++ last ∷ [])) text → IsTrue r ↔ Stand pieces text
joined pieces others between first last text r e f h = subst (λ (x : List (List ℕ)). IsTrue r ↔ Stand x text) (sym (e ∙ ap (λ (x : List (List ℕ)). x ++ last ∷ []) f)) h
