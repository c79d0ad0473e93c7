-- Spaces, and the words between them.
use Rattle.std.proofs.Common.{◌≡◌, ◌≢◌, ℕ, List, [], ◌∷◌, ◌++◌, length, ◌≤◌, ap, sym, ◌∙◌, refl, arith, append-nil, length-append, subst}
use Rattle.std.specs.Prelude.{Bool, true, false, ◌==◌}
use Rattle.std.proofs.lemmas.Bool.{cond-false, cond-true, eq-eqb, eqb-false, eqb-true}
use Rattle.std.proofs.lemmas.List.Elements.{All-cons, All-head, All-tail}
use Rattle.osgi_syntax.specs.Splitting.{after_spaces}
use Rattle.osgi_syntax.specs.Words.{AreSpaces}

pub no_spaces : AreSpaces []
no_spaces k d below = absurd (omega arith)

-- a text is some spaces and what is left after them
pub record Spaced (text : List ℕ) : Type 0 where
  pub spaces : List ℕ
  pub are : AreSpaces spaces
  pub is : text ≡ spaces ++ after_spaces text

spaced_by : (b : ℕ) (rest : List ℕ) (test : Bool) → (b == 32) ≡ test → Spaced rest → Spaced (b ∷ rest)
spaced_by b rest true e after = record {
  spaces = b ∷ after.spaces;
  are = All-cons (λ x. x ≡ 32) b after.spaces (eqb-true b 32 e) after.are;
  is = ap (λ l. b ∷ l) after.is ∙ ap (λ l. b ∷ after.spaces ++ l) (sym (cond-true (b == 32) (after_spaces rest) (b ∷ rest) e));
}
spaced_by b rest false e after = record { spaces = []; are = no_spaces; is = sym (cond-false (b == 32) (after_spaces rest) (b ∷ rest) e) }

pub spaced : (text : List ℕ) → Spaced text
spaced [] = record { spaces = []; are = no_spaces; is = refl }
spaced (b ∷ rest) = spaced_by b rest (b == 32) refl (spaced rest)

pub after_spaces-prefix : (spaces rest : List ℕ) → AreSpaces spaces → after_spaces (spaces ++ rest) ≡ after_spaces rest
after_spaces-prefix [] rest are = refl
after_spaces-prefix (b ∷ spaces) rest are =
    cond-true (b == 32) _ _ (eq-eqb b 32 (All-head (λ x. x ≡ 32) b spaces are)) ∙ after_spaces-prefix spaces rest (All-tail (λ x. x ≡ 32) b spaces are)

pub after_spaces-all : (spaces : List ℕ) → AreSpaces spaces → after_spaces spaces ≡ []
after_spaces-all spaces are = ap after_spaces (sym (append-nil spaces)) ∙ after_spaces-prefix spaces [] are

-- what may follow a word
pub data EndsWord : List ℕ → Type 0 where
  with_nothing : EndsWord []
  with_space : (b : ℕ) (rest : List ℕ) → b ≡ 32 → EndsWord (b ∷ rest)

-- what follows spaces is nothing, or begins with another byte
pub data Stops : List ℕ → Type 0 where
  at_end : Stops []
  at_byte : (b : ℕ) (rest : List ℕ) → b ≢ 32 → Stops (b ∷ rest)

stops_by : (b : ℕ) (rest : List ℕ) (test : Bool) → (b == 32) ≡ test → Stops (after_spaces rest) → Stops (after_spaces (b ∷ rest))
stops_by b rest true e more = rw (cond-true (b == 32) (after_spaces rest) (b ∷ rest) e) more
stops_by b rest false e more = rw (cond-false (b == 32) (after_spaces rest) (b ∷ rest) e) (at_byte b rest (eqb-false b 32 e))

pub stops : (text : List ℕ) → Stops (after_spaces text)
stops [] = at_end
stops (b ∷ rest) = stops_by b rest (b == 32) refl (stops rest)

-- where nothing follows the spaces at the start, all are spaces
pub all_spaces : (text : List ℕ) → after_spaces text ≡ [] → AreSpaces text
all_spaces text none =
    let prefix = spaced text in
    subst AreSpaces (sym (prefix.is ∙ ap (λ l. prefix.spaces ++ l) none ∙ append-nil prefix.spaces)) prefix.are

pub after_spaces-within : (text : List ℕ) → length (after_spaces text) ≤ length text
after_spaces-within text =
    let split = spaced text in
    omega (arith, ap length split.is, length-append split.spaces (after_spaces text))
