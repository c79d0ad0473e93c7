-- Where the candidates of a problem are found.
use Rattle.std.specs.Prelude.{◌≡◌, ◌+◌, ◌<◌, ℕ, List, [], ◌∷◌, length, MatchOption, Option}
use Rattle.std.specs.BTreeMap.{BTreeMap}
use Rattle.std.specs.Map.{lookup}
use Rattle.osgi_world.specs.Candidates.{same_place}
use Rattle.osgi_world.specs.declared.problem.Choice.{Choice}
use Rattle.osgi_world.specs.declared.wiring.ReqRef.{ReqRef}
use Rattle.osgi_candidate_rows.specs.Listed.{listed}
use Rattle.osgi_candidate_rows.specs.computed.Numbers.{row_of}
use Rattle.osgi_candidate_rows.specs.declared.index.Index.{Index}
use Rattle.osgi_candidate_rows.specs.declared.index.Key.{Key}

abbrev pub key_for : ReqRef → Key
key_for q = record { owner = q.owner; index = q.index }

abbrev pub requirement_at : Key → ReqRef
requirement_at k = record { owner = k.owner; index = k.index }

-- the row at the key of the same requirement
abbrev pub row_at : BTreeMap Key ℕ → ReqRef → Option ℕ
row_at rows q = lookup (λ k. same_place q (requirement_at k)) rows.entries

-- a requirement that is listed among these choices has its first row, and no other has one
abbrev pub AreFirstRows : List Choice → List Choice → BTreeMap Key ℕ → Type 0
AreFirstRows choices among rows = (q : ReqRef) → MatchOption (row_at rows q) (listed among q ≡ []) (λ row. (row < length choices) × (listed among q ≡ row_of choices row))

-- the number of each row's first item where items are counted from this number on, and the number that comes after the last item's
abbrev pub numbers_from : ℕ → List Choice → List ℕ
numbers_from number [] = number ∷ []
numbers_from number (c ∷ choices) = number ∷ numbers_from (number + length c.candidates) choices

pub record IsIndexOf (choices : List Choice) (index : Index) : Type 0 where
  pub rows : AreFirstRows choices choices index.rows
  pub firsts : index.firsts.items ≡ numbers_from 0 choices
