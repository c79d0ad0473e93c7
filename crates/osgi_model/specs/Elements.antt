-- The elements of a list, as a text spells them.
use Rattle.std.specs.Prelude.{ℕ, ◌≡◌, ◌≢◌, ◌⊎◌, List, [], ◌∷◌, ◌++◌}

-- an element as it is spelled, and the text that it stands for: `\,` stands for `,` and `\\` for `\`; any other byte,
-- another `\` too, stands for itself. A `,` that no `\` stands before is none of its bytes
pub data SpellsElement : List ℕ → List ℕ → Type 0 where
  nothing : SpellsElement [] []
  plain : {b : ℕ} {spelled text : List ℕ} → b ≢ 44 → b ≢ 92 → SpellsElement spelled text → SpellsElement (b ∷ spelled) (b ∷ text)
  escaped : {b : ℕ} {spelled text : List ℕ} → (b ≡ 44) ⊎ (b ≡ 92) → SpellsElement spelled text → SpellsElement (92 ∷ b ∷ spelled) (b ∷ text)
  backslash : {b : ℕ} {spelled text : List ℕ} → b ≢ 44 → b ≢ 92 → SpellsElement spelled text → SpellsElement (92 ∷ b ∷ spelled) (92 ∷ b ∷ text)

-- the elements of a list, of which there are some, with `,` between them. A `\` at the very end stands for itself
pub data AreElements : List ℕ → List (List ℕ) → Type 0 where
  last : {spelled text : List ℕ} → SpellsElement spelled text → AreElements spelled (text ∷ [])
  last_backslash : {spelled text : List ℕ} → SpellsElement spelled text → AreElements (spelled ++ 92 ∷ []) ((text ++ 92 ∷ []) ∷ [])
  more : {spelled text rest : List ℕ} {texts : List (List ℕ)} →
      SpellsElement spelled text → AreElements rest texts → AreElements (spelled ++ 44 ∷ rest) (text ∷ texts)
