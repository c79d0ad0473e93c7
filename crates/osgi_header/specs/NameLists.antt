-- The names that a directive's value lists, as `uses` and `mandatory` do.
use Rattle.std.specs.Prelude.{ℕ, ◌≡◌, ◌≢◌, ◌<◌, List, length, All}
use Rattle.std.specs.List.{AllZip, join_with_byte}
use Rattle.osgi_header.specs.Spaces.{IsTrimmed}

-- the names stand between the `,` of the text, with spaces and tabs round each or none. The empty text lists one empty name
pub record AreNames (text : List ℕ) (names : List (List ℕ)) : Type 0 where
  pub parts : List (List ℕ)
  pub is : text ≡ join_with_byte 44 parts
  pub some : 0 < length parts
  pub apart : All (λ part. All (λ b. b ≢ 44) part) parts
  pub named : AllZip IsTrimmed parts names
