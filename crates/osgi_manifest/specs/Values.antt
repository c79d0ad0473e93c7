-- The values of headers, and their clauses.
use Rattle.std.specs.Prelude.{ℕ, ◌≡◌, List, [], find, Option, MatchOption}
use Rattle.std.specs.Option.{option_map}
use Rattle.std.specs.Str.{str_eq_ignore_ascii_case}
use Rattle.osgi_header.specs.Clauses.{AreClausesOf}
use Rattle.osgi_header.specs.declared.clause.Clause.{Clause}
use Rattle.osgi_header.specs.declared.header.Header.{Header}

-- the value of the header of this name, if the manifest has it. Names are compared without ASCII case, and each comes once
abbrev pub header_value : List ℕ → List Header → Option (List ℕ)
header_value name headers = option_map (λ (h : Header). h.value) (find (λ (h : Header). str_eq_ignore_ascii_case h.name name) headers)

-- the clauses of the header of this name; without the header there are none
abbrev pub AreClausesIn : List Header → List ℕ → List Clause → Type 0
AreClausesIn headers name clauses = MatchOption (header_value name headers) (clauses ≡ []) (λ value. AreClausesOf value clauses)
