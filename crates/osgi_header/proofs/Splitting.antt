-- A text cut at a separator outside quotes: its first part, and what the parts are.
use Rattle.std.proofs.Common.{◌≡◌, ℕ, ◌+◌, ◌-◌, ◌<◌, ◌≤◌, List, [], ◌∷◌, ◌++◌, length, take, drop, add-one, ap, sym, ◌∙◌, refl, arith, append-nil, length-drop}
use Rattle.std.specs.Prelude.{Bool, true, false, map, ◌==◌, Option, None, Some}
use Rattle.std.specs.List.{concat, join_with_byte, onto_first}
use Rattle.std.proofs.lemmas.Bool.{cond-false, cond-true, eq-eqb}
use Rattle.std.proofs.lemmas.List.{length-take-le}
use Rattle.std.proofs.Math.Seq.{take-length}
use Rattle.osgi_base.specs.laws.Scans.{ends_at, part_len-within, scan_more}
use Rattle.osgi_base.specs.Parts.{ends_part, part_len, state_after, scan}
use Rattle.osgi_base.specs.declared.parts.QuoteState.{QuoteState}
use Rattle.osgi_base.specs.declared.parts.QuoteState.TheVariants.{Bare}
use Rattle.osgi_header.specs.computed.Cutting.{cut, cut_from, cut_left, left_len, place_at_end, BeginsWithPart}

-- ---- the first part split off

-- what is left after a separator
abbrev pub behind_first : List ℕ → Option (List ℕ)
behind_first [] = None
behind_first (b ∷ rest) = Some rest

Split : ℕ → QuoteState → List ℕ → Type 0
Split separator place text =
    cut_from separator place text
    ≡ take (part_len separator place text) text ∷ cut_left separator (behind_first (drop (part_len separator place text) text))

split_by : (separator : ℕ) (place : QuoteState) (b : ℕ) (rest : List ℕ) (test : Bool) → ends_part separator place b ≡ test → Split separator (state_after place b) rest →
    Split separator place (b ∷ rest)
unfolding Split
split_by separator place b rest true e more =
    let here : part_len separator place (b ∷ rest) ≡ 0 = cond-true (ends_part separator place b) _ _ e in
    cond-true (ends_part separator place b) _ _ e ∙ rw here refl
split_by separator place b rest false e more =
    let n : ℕ = part_len separator (state_after place b) rest in
    let here : part_len separator place (b ∷ rest) ≡ n + 1 = cond-false (ends_part separator place b) _ _ e in
    cond-false (ends_part separator place b) _ _ e ∙ ap (onto_first b) more ∙ rw (here, add-one) refl

split : (separator : ℕ) (place : QuoteState) (text : List ℕ) → Split separator place text
unfolding Split
split separator place [] = refl
split separator place (b ∷ rest) = split_by separator place b rest (ends_part separator place b) refl (split separator (state_after place b) rest)

pub first_part : (separator : ℕ) (text : List ℕ) →
    cut separator text ≡ take (part_len separator Bare text) text ∷ cut_left separator (behind_first (drop (part_len separator Bare text) text))
unfolding Split
first_part separator text = split separator Bare text

behind_len : (rest : List ℕ) → left_len (behind_first rest) ≡ length rest
behind_len [] = refl
behind_len (b ∷ rest) = omega arith

pub behind_none : (rest : List ℕ) → length rest < 1 → behind_first rest ≡ None
behind_none [] below = refl
behind_none (b ∷ rest) below = absurd (omega (arith, below))

pub behind_some : (rest : List ℕ) → 1 ≤ length rest → behind_first rest ≡ Some (take (length rest - 1) (drop 1 rest))
behind_some [] some = absurd (omega (arith, some))
behind_some (b ∷ rest) some =
    let len : length (b ∷ rest) - 1 ≡ length rest = omega arith in
    ap Some (sym (ap (λ n. take n rest) len ∙ take-length rest))

-- the first part, and what follows it
pub begins : (separator : ℕ) (text part rest : List ℕ) (left : Option (List ℕ)) → part ≡ take (part_len separator Bare text) text →
    rest ≡ drop (part_len separator Bare text) text → behind_first rest ≡ left → BeginsWithPart separator text part left
begins separator text part rest left prefix back remainder =
    let within = part_len-within separator Bare text in
    record {
      parts =
          first_part separator text
          ∙ ap (λ l. l ∷ cut_left separator (behind_first (drop (part_len separator Bare text) text))) (sym prefix)
          ∙ ap (λ l. part ∷ cut_left separator l) (ap behind_first (sym back) ∙ remainder);
      len =
          omega (
            arith,
            within,
            ap length prefix,
            ap length back,
            length-take-le (part_len separator Bare text) text within,
            length-drop (part_len separator Bare text) text,
            behind_len rest,
            ap left_len remainder,
          );
    }

-- ---- scans of parts

pub scan_place : (separator : ℕ) (place end : QuoteState) (text : List ℕ) → scan separator place text ≡ Some end → place_at_end place text ≡ end
scan_place separator place end [] scanned = cc scanned
scan_place separator place end (b ∷ rest) scanned =
    scan_place separator (state_after place b) end rest (scan_more separator place b rest end (ends_part separator place b) refl scanned).1

-- a part that the separator ends
pub cut_ended : (separator : ℕ) (place : QuoteState) (part rest : List ℕ) → scan separator place part ≡ Some Bare →
    cut_from separator place (part ++ separator ∷ rest) ≡ part ∷ cut separator rest
cut_ended separator place [] rest scanned =
    let here : place ≡ Bare = cc scanned in
    rw here (cond-true (separator == separator) _ _ (eq-eqb separator separator refl))
cut_ended separator place (b ∷ part) rest scanned =
    let more = scan_more separator place b part Bare (ends_part separator place b) refl scanned in
    cond-false (ends_part separator place b) _ _ more.0 ∙ ap (onto_first b) (cut_ended separator (state_after place b) part rest more.1)

-- the last part
pub cut_last : (separator : ℕ) (place end : QuoteState) (part : List ℕ) → scan separator place part ≡ Some end → cut_from separator place part ≡ part ∷ []
cut_last separator place end [] scanned = refl
cut_last separator place end (b ∷ part) scanned =
    let more = scan_more separator place b part end (ends_part separator place b) refl scanned in
    cond-false (ends_part separator place b) _ _ more.0 ∙ ap (onto_first b) (cut_last separator (state_after place b) end part more.1)

-- ---- what the parts of a text are

pub data IsCut (separator : ℕ) : QuoteState → List ℕ → List (List ℕ) → Type 0 where
  last : {place : QuoteState} {text : List ℕ} (end : QuoteState) → scan separator place text ≡ Some end → IsCut separator place text (text ∷ [])
  more : {place : QuoteState} {part rest : List ℕ} {parts : List (List ℕ)} → scan separator place part ≡ Some Bare → IsCut separator Bare rest parts →
      IsCut separator place (part ++ separator ∷ rest) (part ∷ parts)

cut_onto : (separator : ℕ) (place : QuoteState) (b : ℕ) (rest : List ℕ) (parts : List (List ℕ)) → ends_part separator place b ≡ false →
    IsCut separator (state_after place b) rest parts → IsCut separator place (b ∷ rest) (onto_first b parts)
cut_onto separator place b rest parts e (last end scanned) = last end (cond-false (ends_part separator place b) _ _ e ∙ scanned)
cut_onto separator place b rest parts e (more {part = part} scanned are) =
    more {part = b ∷ part} (cond-false (ends_part separator place b) _ _ e ∙ scanned) are

cut_by : (separator : ℕ) (place : QuoteState) (b : ℕ) (rest : List ℕ) (test : Bool) → ends_part separator place b ≡ test → IsCut separator Bare rest (cut separator rest) →
    IsCut separator (state_after place b) rest (cut_from separator (state_after place b) rest) → IsCut separator place (b ∷ rest) (cut_from separator place (b ∷ rest))
cut_by separator place b rest true e remainder within =
    let at = ends_at separator place b e in
    rw (cond-true (ends_part separator place b) ([] ∷ cut separator rest) _ e, at.1) (more {part = []} (ap Some at.0) remainder)
cut_by separator place b rest false e remainder within =
    rw (cond-false (ends_part separator place b) ([] ∷ cut separator rest) _ e)
    (cut_onto separator place b rest (cut_from separator (state_after place b) rest) e within)

pub cut_is : (separator : ℕ) (place : QuoteState) (text : List ℕ) → IsCut separator place text (cut_from separator place text)
cut_is separator place [] = last place refl
cut_is separator place (b ∷ rest) =
    cut_by separator place b rest (ends_part separator place b) refl (cut_is separator Bare rest) (cut_is separator (state_after place b) rest)

-- ---- parts joined

pub join-cons : (separator : ℕ) (part : List ℕ) (parts : List (List ℕ)) → join_with_byte separator (part ∷ parts) ≡ part ++ concat (map (λ p. separator ∷ p) parts)
join-cons separator part [] = sym (append-nil part)
join-cons separator part (next ∷ parts) = ap (λ l. part ++ separator ∷ l) (join-cons separator next parts)

pub join-more : (separator : ℕ) (part : List ℕ) (parts : List (List ℕ)) → 0 < length parts →
    join_with_byte separator (part ∷ parts) ≡ part ++ separator ∷ join_with_byte separator parts
join-more separator part [] some = absurd (omega (arith, some))
join-more separator part (next ∷ parts) some = refl

pub cut_some : {separator : ℕ} {place : QuoteState} {text : List ℕ} {parts : List (List ℕ)} → IsCut separator place text parts → 0 < length parts
cut_some (last end scanned) = omega arith
cut_some (more scanned are) = omega arith

pub cut_joined : {separator : ℕ} {place : QuoteState} {text : List ℕ} {parts : List (List ℕ)} → IsCut separator place text parts → text ≡ join_with_byte separator parts
cut_joined (last end scanned) = refl
cut_joined {separator = separator} (more {part = part} {parts = parts} scanned are) =
    ap (λ l. part ++ separator ∷ l) (cut_joined are) ∙ sym (join-more separator part parts (cut_some are))

-- parts within which none ends
abbrev pub AreWhole : ℕ → List (List ℕ) → Type 0
AreWhole separator [] = Unit {0}
AreWhole separator (part ∷ parts) = (scan separator Bare part ≡ Some Bare) × AreWhole separator parts

pub joined_cut : (separator : ℕ) (parts : List (List ℕ)) → 0 < length parts → AreWhole separator parts → cut separator (join_with_byte separator parts) ≡ parts
joined_cut separator [] some whole = absurd (omega (arith, some))
joined_cut separator (part ∷ []) some whole = cut_last separator Bare Bare part whole.0
joined_cut separator (part ∷ next ∷ parts) some whole =
    cut_ended separator Bare part (join_with_byte separator (next ∷ parts)) whole.0
    ∙ ap (λ l. part ∷ l) (joined_cut separator (next ∷ parts) (omega arith) whole.1)
