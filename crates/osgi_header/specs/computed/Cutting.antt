-- What the reader computes of a text that it cuts at a separator outside quotes. No public promise speaks of this: it is
-- proved to give the readings of the grammar.
use Rattle.std.specs.Prelude.{ℕ, ◌≡◌, ◌+◌, if◌then◌else◌, not, Bool, List, [], ◌∷◌, length, Option, None, Some}
use Rattle.std.specs.Borrow.{Bor}
use Rattle.std.specs.List.{onto_first}
use Rattle.std.specs.Option.{option_map}
use Rattle.osgi_base.specs.Parts.{ends_part, is_bare, state_after}
use Rattle.osgi_base.specs.declared.parts.QuoteState.{QuoteState}
use Rattle.osgi_base.specs.declared.parts.QuoteState.TheVariants.{Bare}

-- the parts of a text that begins at this place of a part
abbrev pub cut_from : ℕ → QuoteState → List ℕ → List (List ℕ)
cut_from separator place [] = [] ∷ []
cut_from separator place (b ∷ rest) =
    if ends_part separator place b then [] ∷ cut_from separator Bare rest else onto_first b (cut_from separator (state_after place b) rest)

abbrev pub cut : ℕ → List ℕ → List (List ℕ)
cut separator text = cut_from separator Bare text

-- the parts of what is left after a separator, if one stands there
abbrev pub cut_left : ℕ → Option (List ℕ) → List (List ℕ)
cut_left separator None = []
cut_left separator (Some left) = cut separator left

-- how much work is left
abbrev pub left_len : Option (List ℕ) → ℕ
left_len None = 0
left_len (Some left) = length left + 1

abbrev pub left_after : Option (Bor (List ℕ)) → Option (List ℕ)
left_after left = option_map (λ l. l.now) left

-- the text begins with this part, and what is left after that is shorter
pub record BeginsWithPart (separator : ℕ) (text part : List ℕ) (left : Option (List ℕ)) : Type 0 where
  pub parts : cut separator text ≡ part ∷ cut_left separator left
  pub len : length part + left_len left ≡ length text

-- where a scan stands at the end of a text
abbrev pub place_at_end : QuoteState → List ℕ → QuoteState
place_at_end place [] = place
place_at_end place (b ∷ rest) = place_at_end (state_after place b) rest

abbrev pub is_open : List ℕ → Bool
is_open text = not (is_bare (place_at_end Bare text))
