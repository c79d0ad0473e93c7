-- The words of a line part it.
use Rattle.std.proofs.Common.{◌≡◌, ◌≢◌, ℕ, ◌<◌, List, [], ◌∷◌, ◌++◌, length, ap, sym, ◌∙◌, refl, arith, append-nil, append_assoc, length-append}
use Rattle.std.specs.Prelude.{Bool, true, false, ◌==◌, Some}
use Rattle.std.specs.List.{onto_first}
use Rattle.std.proofs.lemmas.Bool.{cond-false, cond-true, eqb-false, eqb-true, ne_eqb}
use Rattle.std.proofs.lemmas.List.{take-append-drop}
use Rattle.std.proofs.lemmas.List.Elements.{All-append, All-cons}
use Rattle.osgi_base.specs.declared.parts.QuoteState.{QuoteState}
use Rattle.osgi_base.specs.declared.parts.QuoteState.TheVariants.{Bare}
use Rattle.osgi_syntax.specs.laws.Spaces.{no_spaces, spaced}
use Rattle.osgi_syntax.specs.laws.Splitting.{words_of-space}
use Rattle.osgi_base.specs.laws.Scans.{ends_at}
use Rattle.osgi_base.specs.Parts.{ends_part, state_after, part_len}
use Rattle.osgi_syntax.specs.Splitting.{after_spaces, after_word, first_word, words_from, words_of}
use Rattle.osgi_syntax.specs.Words.{AreSpaces, IsSeparated}

-- a text that begins at a place of a word: the rest of the word, and the words after it
pub record PartsFrom (place : QuoteState) (text : List ℕ) : Type 0 where
  pub word : List ℕ
  pub words : List (List ℕ)
  pub rest : List ℕ
  pub are : words_from (Some place) text ≡ word ∷ words
  pub is : text ≡ word ++ rest
  pub separated : IsSeparated AreSpaces words rest

-- spaces, and the words of a text after them
Parts : List ℕ → Type 0
Parts text = (spaces : List ℕ) → AreSpaces spaces → 0 < length spaces → IsSeparated AreSpaces (words_of text) (spaces ++ text)

parts_space : (b : ℕ) (rest : List ℕ) → b ≡ 32 → Parts rest → Parts (b ∷ rest)
unfolding Parts
parts_space b rest is more spaces are some =
    let all : AreSpaces (spaces ++ b ∷ []) = All-append (λ x. x ≡ 32) spaces (b ∷ []) are (All-cons (λ x. x ≡ 32) b [] is no_spaces) in
    let separated : IsSeparated AreSpaces (words_of rest) ((spaces ++ b ∷ []) ++ rest)
    = more (spaces ++ b ∷ []) all (omega (arith, length-append spaces (b ∷ []))) in
    rw (words_of-space b rest is, ← append_assoc spaces (b ∷ []) rest) separated

parts_word : (b : ℕ) (rest : List ℕ) → b ≢ 32 → PartsFrom (state_after Bare b) rest → Parts (b ∷ rest)
unfolding Parts
parts_word b rest other more spaces are some =
    let words : words_of (b ∷ rest) ≡ (b ∷ more.word) ∷ more.words
    = cond-false (b == 32) _ _ (ne_eqb b 32 other) ∙ ap (onto_first b) more.are in
    rw words (spaces, more.rest, are, some, ap (λ l. spaces ++ b ∷ l) more.is, more.separated)

parts_end : (place : QuoteState) (b : ℕ) (rest : List ℕ) → ends_part 32 place b ≡ true → Parts rest → PartsFrom place (b ∷ rest)
unfolding Parts
parts_end place b rest e more =
    let space : b ≡ 32 = (ends_at 32 place b e).1 in
    record {
      word = [];
      words = words_of rest;
      rest = b ∷ rest;
      are = cond-true (ends_part 32 place b) _ _ e;
      is = refl;
      separated = more (b ∷ []) (All-cons (λ x. x ≡ 32) b [] space no_spaces) (omega arith);
    }

parts_more : (place : QuoteState) (b : ℕ) (rest : List ℕ) → ends_part 32 place b ≡ false → PartsFrom (state_after place b) rest → PartsFrom place (b ∷ rest)
parts_more place b rest e more = record {
  word = b ∷ more.word;
  words = more.words;
  rest = more.rest;
  are = cond-false (ends_part 32 place b) _ _ e ∙ ap (onto_first b) more.are;
  is = ap (λ l. b ∷ l) more.is;
  separated = more.separated;
}

-- both at once, since each needs the other
record PartsBoth (text : List ℕ) : Type 0 where
  between : Parts text
  within : (place : QuoteState) → PartsFrom place text

between_by : (b : ℕ) (rest : List ℕ) (test : Bool) → (b == 32) ≡ test → PartsBoth rest → Parts (b ∷ rest)
between_by b rest true e more = parts_space b rest (eqb-true b 32 e) more.between
between_by b rest false e more = parts_word b rest (eqb-false b 32 e) (more.within (state_after Bare b))

within_by : (place : QuoteState) (b : ℕ) (rest : List ℕ) (test : Bool) → ends_part 32 place b ≡ test → PartsBoth rest → PartsFrom place (b ∷ rest)
within_by place b rest true e more = parts_end place b rest e more.between
within_by place b rest false e more = parts_more place b rest e (more.within (state_after place b))

parts_both : (text : List ℕ) → PartsBoth text
unfolding Parts
parts_both [] = record {
  between = λ spaces are some. rw append-nil are;
  within = λ place. record { word = []; words = []; rest = []; are = refl; is = refl; separated = no_spaces };
}
parts_both (b ∷ rest) =
    let more = parts_both rest in
    record { between = between_by b rest (b == 32) refl more; within = λ place. within_by place b rest (ends_part 32 place b) refl more }

-- the words of a line part it
pub words_separate : (line : List ℕ) → IsSeparated AreSpaces (words_of line) (32 ∷ line)
unfolding Parts
words_separate line = (parts_both line).between (32 ∷ []) (All-cons (λ x. x ≡ 32) 32 [] refl no_spaces) (omega arith)

-- the first word of a text, after a space, and what parts the rest
pub first_separates : (IsEnd : List ℕ → Type 0) (words : List (List ℕ)) (text : List ℕ) → IsSeparated IsEnd words (after_word text) →
    IsSeparated IsEnd (first_word text ∷ words) (32 ∷ text)
first_separates IsEnd words text separated =
    let prefix = spaced text in (
      32 ∷ prefix.spaces,
      after_word text,
      All-cons (λ x. x ≡ 32) 32 prefix.spaces refl prefix.are,
      omega arith,
      ap (λ l. 32 ∷ l) (prefix.is ∙ ap (λ l. prefix.spaces ++ l) (sym (take-append-drop (part_len 32 Bare (after_spaces text)) (after_spaces text)))),
      separated,
    )
