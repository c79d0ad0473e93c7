-- How a line is cut into words, before what a word says is looked at.
use Rattle.std.specs.Prelude.{ℕ, ◌≡◌, ◌<◌, ◌==◌, if◌then◌else◌, List, [], ◌∷◌, length, take, drop, Option, None, Some, map}
use Rattle.std.specs.Borrow.{Bor}
use Rattle.std.specs.List.{onto_first}
use Rattle.osgi_base.specs.Parts.{ends_part, part_len, state_after}
use Rattle.osgi_base.specs.declared.parts.QuoteState.{QuoteState}
use Rattle.osgi_base.specs.declared.parts.QuoteState.TheVariants.{Bare}

-- what is left after the spaces at the start
abbrev pub after_spaces : List ℕ → List ℕ
after_spaces [] = []
after_spaces (b ∷ rest) = if b == 32 then after_spaces rest else b ∷ rest

-- the words of a text, which begins at this place of a word, or between words
abbrev pub words_from : Option QuoteState → List ℕ → List (List ℕ)
words_from None [] = []
words_from (Some place) [] = [] ∷ []
words_from None (b ∷ rest) = if b == 32 then words_from None rest else onto_first b (words_from (Some (state_after Bare b)) rest)
words_from (Some place) (b ∷ rest) =
    if ends_part 32 place b then [] ∷ words_from None rest else onto_first b (words_from (Some (state_after place b)) rest)

abbrev pub words_of : List ℕ → List (List ℕ)
words_of line = words_from None line

-- the first word of a text, and what is left after it
abbrev pub first_word : List ℕ → List ℕ
first_word text = take (part_len 32 Bare (after_spaces text)) (after_spaces text)

abbrev pub after_word : List ℕ → List ℕ
after_word text = drop (part_len 32 Bare (after_spaces text)) (after_spaces text)

-- the one word, where there is one and no other
abbrev pub only_word_of : List (List ℕ) → Option (List ℕ)
only_word_of (word ∷ []) = Some word
only_word_of _ = None

-- the text has no word
pub record HasNoWord (text : List ℕ) : Type 0 where
  pub words : words_of text ≡ []
  pub first : first_word text ≡ []

-- the text begins with this word, and what is left after that is shorter
pub record BeginsWithWord (text word left : List ℕ) : Type 0 where
  pub words : words_of text ≡ word ∷ words_of left
  pub first : word ≡ first_word text
  pub remainder : left ≡ after_word text
  pub shorter : length left < length text

-- the texts after references
abbrev pub texts_of : List (Bor (List ℕ)) → List (List ℕ)
texts_of names = map (λ name. name.now) names
