-- The first word of a line, split off.
use Rattle.std.proofs.Common.{◌≡◌, ◌≢◌, ℕ, ◌+◌, ◌<◌, ◌≤◌, List, [], ◌∷◌, length, take, drop, add-one, ap, sym, ◌∙◌, refl, arith, length-drop}
use Rattle.std.specs.Prelude.{Bool, true, false, ◌==◌, Some}
use Rattle.std.specs.List.{onto_first}
use Rattle.std.proofs.lemmas.Bool.{cond-false, cond-true, eq-eqb, eqb-true, ne_eqb}
use Rattle.osgi_base.specs.declared.parts.QuoteState.{QuoteState}
use Rattle.osgi_base.specs.declared.parts.QuoteState.TheVariants.{Bare}
use Rattle.osgi_syntax.specs.laws.Spaces.{after_spaces-within, at_byte, at_end, EndsWord, Stops, stops, with_nothing, with_space}
use Rattle.std.proofs.lemmas.List.{nil_from_length}
use Rattle.osgi_base.specs.Parts.{ends_part, part_len, state_after}
use Rattle.osgi_base.specs.laws.Scans.{ends_at}
use Rattle.osgi_syntax.specs.Splitting.{after_spaces, after_word, BeginsWithWord, first_word, HasNoWord, words_from, words_of}

pub words_of-space : (b : ℕ) (rest : List ℕ) → b ≡ 32 → words_of (b ∷ rest) ≡ words_of rest
words_of-space b rest is = cond-true (b == 32) _ _ (eq-eqb b 32 is)

pub words_of-plain : (b : ℕ) (rest : List ℕ) → b ≢ 32 → words_of (b ∷ rest) ≡ words_from (Some Bare) (b ∷ rest)
words_of-plain b rest other =
    let no = ne_eqb b 32 other in
    cond-false (b == 32) _ _ no ∙ sym (cond-false (b == 32) _ _ no)

after_spaces_by : (b : ℕ) (rest : List ℕ) (test : Bool) → (b == 32) ≡ test → words_of (after_spaces rest) ≡ words_of rest → words_of (after_spaces (b ∷ rest)) ≡ words_of (b ∷ rest)
after_spaces_by b rest true e more = ap words_of (cond-true (b == 32) _ _ e) ∙ more ∙ sym (words_of-space b rest (eqb-true b 32 e))
after_spaces_by b rest false e more = ap words_of (cond-false (b == 32) _ _ e)

pub words_of-after_spaces : (text : List ℕ) → words_of (after_spaces text) ≡ words_of text
words_of-after_spaces [] = refl
words_of-after_spaces (b ∷ rest) = after_spaces_by b rest (b == 32) refl (words_of-after_spaces rest)

-- ---- the first word split off

-- the word that a text begins with at this place, and the words after it
pub Split : QuoteState → List ℕ → Type 0
Split place text = words_from (Some place) text ≡ take (part_len 32 place text) text ∷ words_of (drop (part_len 32 place text) text)

split_by : (place : QuoteState) (b : ℕ) (rest : List ℕ) (test : Bool) → ends_part 32 place b ≡ test → Split (state_after place b) rest → Split place (b ∷ rest)
unfolding Split
split_by place b rest true e more =
    let here : part_len 32 place (b ∷ rest) ≡ 0 = cond-true (ends_part 32 place b) _ _ e in
    cond-true (ends_part 32 place b) _ _ e
    ∙ rw here (ap (λ l. [] ∷ l) (sym (words_of-space b rest (ends_at 32 place b e).1)))
split_by place b rest false e more =
    let n : ℕ = part_len 32 (state_after place b) rest in
    let here : part_len 32 place (b ∷ rest) ≡ n + 1 = cond-false (ends_part 32 place b) _ _ e in
    cond-false (ends_part 32 place b) _ _ e ∙ ap (onto_first b) more ∙ rw (here, add-one) refl

pub split : (place : QuoteState) (text : List ℕ) → Split place text
unfolding Split
split place [] = refl
split place (b ∷ rest) = split_by place b rest (ends_part 32 place b) refl (split (state_after place b) rest)

begins_by : (text remainder : List ℕ) → after_spaces text ≡ remainder → Stops remainder → 0 < length remainder →
    BeginsWithWord text (take (part_len 32 Bare remainder) remainder) (drop (part_len 32 Bare remainder) remainder)
unfolding Split
begins_by text [] is at_end some = absurd (omega (arith, some))
begins_by text (b ∷ rest) is (at_byte _ _ other) some =
    let n : ℕ = part_len 32 (state_after Bare b) rest in
    let len : part_len 32 Bare (b ∷ rest) ≡ n + 1 = cond-false (b == 32) _ _ (ne_eqb b 32 other) in
    let within : length (b ∷ rest) ≤ length text = omega (arith, after_spaces-within text, ap length is) in
    record {
      words = sym (words_of-after_spaces text) ∙ ap words_of is ∙ words_of-plain b rest other ∙ split Bare (b ∷ rest);
      first = ap (λ l. take (part_len 32 Bare l) l) (sym is);
      remainder = ap (λ l. drop (part_len 32 Bare l) l) (sym is);
      shorter = omega (arith, within, len, length-drop (part_len 32 Bare (b ∷ rest)) (b ∷ rest));
    }

-- where a word is left, it follows the spaces at the start
pub begins : (text : List ℕ) → 0 < length (after_spaces text) → BeginsWithWord text (first_word text) (after_word text)
begins text some = begins_by text (after_spaces text) refl (stops text) some

-- and where nothing is left after these, no word is
pub no_word : (text : List ℕ) → length (after_spaces text) ≡ 0 → HasNoWord text
no_word text none =
    let nothing : after_spaces text ≡ [] = nil_from_length (after_spaces text) none in
    record { words = sym (words_of-after_spaces text) ∙ ap words_of nothing; first = ap (λ l. take (part_len 32 Bare l) l) nothing }

-- ---- what follows the first word

ends_by : (place : QuoteState) (b : ℕ) (rest : List ℕ) (test : Bool) → ends_part 32 place b ≡ test → EndsWord (drop (part_len 32 (state_after place b) rest) rest) →
    EndsWord (drop (part_len 32 place (b ∷ rest)) (b ∷ rest))
ends_by place b rest true e more =
    let here : part_len 32 place (b ∷ rest) ≡ 0 = cond-true (ends_part 32 place b) _ _ e in
    rw here (with_space b rest (ends_at 32 place b e).1)
ends_by place b rest false e more =
    let here : part_len 32 place (b ∷ rest) ≡ part_len 32 (state_after place b) rest + 1 = cond-false (ends_part 32 place b) _ _ e in
    rw (here, add-one) more

ends : (place : QuoteState) (text : List ℕ) → EndsWord (drop (part_len 32 place text) text)
ends place [] = with_nothing
ends place (b ∷ rest) = ends_by place b rest (ends_part 32 place b) refl (ends (state_after place b) rest)

pub after_word-ends : (text : List ℕ) → EndsWord (after_word text)
after_word-ends text = ends Bare (after_spaces text)
