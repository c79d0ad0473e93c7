-- What the reader computes of the clauses of a value and of their parts. No public promise speaks of this: it is proved to
-- give the readings of the grammar.
use Rattle.std.specs.Prelude.{ℕ, ◌+◌, ◌==◌, ◌&&◌, ◌||◌, if◌then◌else◌, not, Bool, false, List, [], ◌∷◌, ◌++◌, length, map, reverse, take, drop, codes, Option, None, Some, option_and_then, Result, Ok, Err}
use Rattle.std.specs.List.{list_all, position}
use Rattle.std.specs.Option.{option_map}
use Rattle.osgi_base.specs.QuoteReader.{quoted_of}
use Rattle.osgi_header.specs.declared.clause.Clause.{Clause}
use Rattle.osgi_header.specs.declared.clause.ClauseAt.{ClauseAt}
use Rattle.osgi_header.specs.declared.clause.ReadClauses.{ReadClauses}
use Rattle.osgi_header.specs.declared.fault.HeaderFault.{HeaderFault}
use Rattle.osgi_header.specs.declared.fault.HeaderKind.{HeaderKind}
use Rattle.osgi_header.specs.declared.fault.HeaderKind.TheVariants.{BadClause, OpenQuote}
use Rattle.osgi_header.specs.declared.parameters.ClausePart.{ClausePart}
use Rattle.osgi_header.specs.declared.parameters.ClausePart.TheVariants.{Path, Directive, Attribute}
use Rattle.osgi_header.specs.Clauses.{is_unquoted_byte, is_parameter_name_byte, is_path_byte}
use Rattle.osgi_header.specs.computed.Cutting.{cut, is_open}
use Rattle.osgi_header.specs.Spaces.{is_space_or_tab}

-- ---- spaces and tabs round a text

abbrev pub after_blanks : List ℕ → List ℕ
after_blanks [] = []
after_blanks (b ∷ rest) = if is_space_or_tab b then after_blanks rest else b ∷ rest

abbrev pub before_blanks : List ℕ → List ℕ
before_blanks text = reverse (after_blanks (reverse text))

abbrev pub trimmed : List ℕ → List ℕ
trimmed text = before_blanks (after_blanks text)

-- ---- the parts of a clause

abbrev pub path_if : List ℕ → Option (List ℕ)
path_if path = if (length path == 0) || not (list_all is_path_byte path) then None else Some path

abbrev pub path_of : List ℕ → Option (List ℕ)
path_of text = path_if (trimmed text)

abbrev pub name_if : List ℕ → Option (List ℕ)
name_if name = if (length name == 0) || not (list_all is_parameter_name_byte name) then None else Some name

abbrev pub parameter_name : List ℕ → Option (List ℕ)
parameter_name text = name_if (trimmed text)

-- a `"` (34) stands first
abbrev pub begins_with_quote : List ℕ → Bool
begins_with_quote [] = false
begins_with_quote (b ∷ rest) = b == 34

abbrev pub value_from : List ℕ → Option (List ℕ)
value_from spelled = if begins_with_quote spelled then quoted_of spelled else (if list_all is_unquoted_byte spelled then Some spelled else None)

abbrev pub parameter_value : List ℕ → Option (List ℕ)
parameter_value text = value_from (trimmed text)

abbrev pub directive_of : List ℕ → List ℕ → Option ClausePart
directive_of name spelled = option_map (λ value. Directive (record { name = name; value = value })) (parameter_value spelled)

abbrev pub attribute_of : List ℕ → List ℕ → List ℕ → Option ClausePart
attribute_of name kind spelled = option_map (λ value. Attribute (record { name = name; kind = kind; value = value })) (parameter_value spelled)

-- `=` (61), which ends an attribute's type
abbrev pub ends_kind : ℕ → Bool
ends_kind b = b == 61

-- an attribute, by what follows the `:` between name and type
abbrev pub typed_of : List ℕ → List ℕ → Option ClausePart
typed_of name rest =
    option_and_then (λ end. option_and_then (λ kind. attribute_of name kind (drop (end + 1) rest)) (path_of (take end rest))) (position ends_kind rest)

-- a parameter, by what follows the `:` at the end of its name: a directive where `=` (61) does
abbrev pub colon_of : List ℕ → List ℕ → Option ClausePart
colon_of name [] = typed_of name []
colon_of name (b ∷ rest) = if b == 61 then directive_of name rest else typed_of name (b ∷ rest)

-- a parameter, by what follows its name: `=` (61) or `:` (58)
abbrev pub parameter_of : List ℕ → List ℕ → Option ClausePart
parameter_of name [] = None
parameter_of name (b ∷ rest) =
    if b == 61 then attribute_of name (codes "String") rest else (if b == 58 then colon_of name rest else None)

-- `:` (58) or `=` (61)
abbrev pub ends_name : ℕ → Bool
ends_name b = (b == 58) || (b == 61)

abbrev pub part_by : List ℕ → Option ℕ → Option ClausePart
part_by text None = option_map Path (path_of text)
part_by text (Some end) = option_and_then (λ name. parameter_of name (drop end text)) (parameter_name (take end text))

abbrev pub part_of : List ℕ → Option ClausePart
part_of text = part_by text (position ends_name text)

-- ---- clauses

abbrev pub empty_clause : Clause
empty_clause = record { paths = []; directives = []; attributes = [] }

abbrev pub may_take : Clause → ClausePart → Bool
may_take clause (Path path) = (length clause.directives == 0) && (length clause.attributes == 0)
may_take clause (Directive directive) = not (length clause.paths == 0)
may_take clause (Attribute attribute) = not (length clause.paths == 0)

abbrev pub with_part : Clause → ClausePart → Clause
with_part clause (Path path) = record clause { paths = clause.paths ++ path ∷ [] }
with_part clause (Directive directive) = record clause { directives = clause.directives ++ directive ∷ [] }
with_part clause (Attribute attribute) = record clause { attributes = clause.attributes ++ attribute ∷ [] }

-- the clause that these texts go on with, after the clause so far
abbrev pub clause_after : Clause → List (List ℕ) → Option Clause
clause_after clause [] = Some clause
clause_after clause (text ∷ texts) =
    option_and_then (λ part. if may_take clause part then clause_after (with_part clause part) texts else None) (part_of text)

-- the clause whose parts stand between the `;` (59) of the text
abbrev pub clause_of : List ℕ → Option Clause
clause_of text = clause_after empty_clause (cut 59 text)

abbrev pub ok_or_bad : Option Clause → Result Clause HeaderKind
ok_or_bad None = Err BadClause
ok_or_bad (Some clause) = Ok clause

abbrev pub clause_or_kind : List ℕ → Result Clause HeaderKind
clause_or_kind text = if is_open text then Err OpenQuote else ok_or_bad (clause_of text)

-- ---- the clauses of a value up to its first fault

-- a clause at this place or a fault there, and what is read of the texts after it
abbrev pub read_by : ℕ → Result Clause HeaderKind → ReadClauses → ReadClauses
read_by at (Err kind) others = record { clauses = []; fault = Some (record { kind = kind; at = at }) }
read_by at (Ok clause) others = record { clauses = record { at = at; clause = clause } ∷ others.clauses; fault = others.fault }

-- what is read of these texts, of which the first begins here
abbrev pub read_from : ℕ → List (List ℕ) → ReadClauses
read_from at [] = record { clauses = []; fault = None }
read_from at (text ∷ texts) = read_by at (clause_or_kind text) (read_from (at + (length text + 1)) texts)

-- the clauses so far before the others
abbrev pub read_onto : List ClauseAt → ReadClauses → ReadClauses
read_onto clauses others = record { clauses = clauses ++ others.clauses; fault = others.fault }

-- what is read of a value, whose clauses stand between its `,` (44)
abbrev pub read_of : List ℕ → ReadClauses
read_of value = if list_all is_space_or_tab value then record { clauses = []; fault = None } else read_from 0 (cut 44 value)

-- all clauses, or the fault
abbrev pub all_or_fault_by : List ClauseAt → Option HeaderFault → Result (List Clause) HeaderFault
all_or_fault_by clauses None = Ok (map (λ c. c.clause) clauses)
all_or_fault_by clauses (Some fault) = Err fault

abbrev pub all_or_fault : ReadClauses → Result (List Clause) HeaderFault
all_or_fault read = all_or_fault_by read.clauses read.fault
