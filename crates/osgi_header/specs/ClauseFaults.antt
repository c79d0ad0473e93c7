-- What is wrong with a header's value that has no reading as clauses, and where.
use Rattle.std.specs.Prelude.{ℕ, ◌≡◌, ◌≢◌, List, [], ◌∷◌, ◌++◌, length, map, All}
use Rattle.std.specs.List.{AllPass, concat}
use Rattle.osgi_header.specs.declared.clause.Clause.{Clause}
use Rattle.osgi_header.specs.declared.fault.HeaderFault.{HeaderFault}
use Rattle.osgi_header.specs.declared.fault.HeaderKind.{HeaderKind}
use Rattle.osgi_header.specs.declared.fault.HeaderKind.TheVariants.{BadClause, OpenQuote}
use Rattle.osgi_header.specs.Clauses.{IsClause}
use Rattle.osgi_base.specs.Quotes.{IsQuoted, Spells}
use Rattle.osgi_header.specs.Spaces.{is_space_or_tab}

-- A value falls into texts at each `,` outside quotes, also where it is no value of the grammar. A `"` opens a quoted text
-- wherever it stands outside one, and ends it inside one, but not after a `\` that takes it.

-- no `,` in it stands outside quotes, and each quoted text in it ends: quoted texts, and bytes other than `,` and `"`
pub data IsClosedText : List ℕ → Type 0 where
  nothing : IsClosedText []
  byte : {b : ℕ} {rest : List ℕ} → b ≢ 44 → b ≢ 34 → IsClosedText rest → IsClosedText (b ∷ rest)
  quotes : {quoted text rest : List ℕ} → IsQuoted quoted text → IsClosedText rest → IsClosedText (quoted ++ rest)

-- what follows a `"` that nothing ends: no `"` other than those that a `\` takes, and maybe a lone `\` at the end
pub data IsEndless : List ℕ → Type 0 where
  spelled : {spelled text : List ℕ} → Spells spelled text → IsEndless spelled
  slashed : {spelled text : List ℕ} → Spells spelled text → IsEndless (spelled ++ 92 ∷ [])

-- its last quoted text does not end
pub record IsOpen (text : List ℕ) : Type 0 where
  pub prefix : List ℕ
  pub remainder : List ℕ
  pub is : text ≡ prefix ++ 34 ∷ remainder
  pub closed : IsClosedText prefix
  pub endless : IsEndless remainder

-- what follows a text: nothing, or the `,` and other texts
pub data FollowsText : List ℕ → Type 0 where
  nothing : FollowsText []
  more : {rest : List ℕ} → FollowsText (44 ∷ rest)

-- what is wrong with a text, before this rest of the value, that is no clause. One whose quoted text does not end is no
-- clause either, and goes to the end of the value
pub data IsFaulty : List ℕ → List ℕ → HeaderKind → Type 0 where
  unended : {text : List ℕ} → IsOpen text → IsFaulty text [] OpenQuote
  bad : {text rest : List ℕ} → IsClosedText text → FollowsText rest → ((clause : Clause) → ¬ IsClause text clause) → IsFaulty text rest BadClause

-- with a `,` (44) after it
abbrev pub with_comma : List ℕ → List ℕ
with_comma text = text ++ 44 ∷ []

-- the first text that is no clause: what is wrong with it, and where it begins. It begins right after the `,` before it,
-- so that spaces and tabs there belong to it, or at 0
pub record IsClauseFault (value : List ℕ) (fault : HeaderFault) : Type 0 where
  pub before : List (List ℕ)
  pub text : List ℕ
  pub rest : List ℕ
  pub is : value ≡ concat (map with_comma before) ++ (text ++ rest)
  pub clauses : All (λ t. (clause : Clause) × IsClause t clause) before
  pub faulty : IsFaulty text rest fault.kind
  pub at : fault.at ≡ length (concat (map with_comma before))
  pub not_blank : ¬ AllPass is_space_or_tab value
