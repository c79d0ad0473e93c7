-- The grammar of a header's value: clauses joined by `,`, and what each of them says.
use Rattle.std.specs.Prelude.{ℕ, ◌≡◌, ◌<◌, ◌==◌, ◌||◌, ◌&&◌, nat_le, not, Bool, List, [], ◌∷◌, ◌++◌, length, codes}
use Rattle.std.specs.List.{AllPass, join_with_byte}
use Rattle.osgi_header.specs.declared.clause.Clause.{Clause}
use Rattle.osgi_header.specs.declared.clause.Pair.{Pair}
use Rattle.osgi_header.specs.declared.clause.Typed.{Typed}
use Rattle.osgi_base.specs.Quotes.{IsQuoted}
use Rattle.osgi_header.specs.Spaces.{is_space_or_tab, IsTrimmed}

-- ---- paths, names, types and values, each with spaces and tabs round it or none. Those are dropped first, so spaces and tabs
-- alone are no path, name or type, and stand for the empty value

-- any byte other than `,`, `;`, `:`, `=` and `"`
abbrev pub is_path_byte : ℕ → Bool
is_path_byte b = not ((b == 44) || (b == 59) || (b == 58) || (b == 61) || (b == 34))

-- a path or a type: one or more such bytes
pub record IsPath (text path : List ℕ) : Type 0 where
  pub trimmed : IsTrimmed text path
  pub some : 0 < length path
  pub bytes : AllPass is_path_byte path

-- a letter, a digit, `_`, `-` or `.`
abbrev pub is_parameter_name_byte : ℕ → Bool
is_parameter_name_byte b =
    (nat_le 97 b && nat_le b 122) || (nat_le 65 b && nat_le b 90) || (nat_le 48 b && nat_le b 57) || (b == 95) || (b == 45) || (b == 46)

-- the name of a parameter: one or more such bytes
pub record IsParameterName (text name : List ℕ) : Type 0 where
  pub trimmed : IsTrimmed text name
  pub some : 0 < length name
  pub bytes : AllPass is_parameter_name_byte name

-- any byte other than `,`, `;` and `"`
abbrev pub is_unquoted_byte : ℕ → Bool
is_unquoted_byte b = not ((b == 44) || (b == 59) || (b == 34))

-- what stands for a value, and the value: a quoted text, or any number of such bytes as they stand
pub data IsSpelled : List ℕ → List ℕ → Type 0 where
  quoted : {spelled value : List ℕ} → IsQuoted spelled value → IsSpelled spelled value
  bare : {value : List ℕ} → AllPass is_unquoted_byte value → IsSpelled value value

pub record IsValue (text value : List ℕ) : Type 0 where
  pub spelled : List ℕ
  pub trimmed : IsTrimmed text spelled
  pub spells : IsSpelled spelled value

-- ---- directives and attributes

-- `name:=value`
pub record IsDirective (text : List ℕ) (directive : Pair) : Type 0 where
  pub name : List ℕ
  pub value : List ℕ
  pub is : text ≡ name ++ 58 ∷ 61 ∷ value
  pub named : IsParameterName name directive.name
  pub valued : IsValue value directive.value

-- `name=value`, which has the type `String`
pub record IsPlainAttribute (text : List ℕ) (attribute : Typed) : Type 0 where
  pub name : List ℕ
  pub value : List ℕ
  pub is : text ≡ name ++ 61 ∷ value
  pub named : IsParameterName name attribute.name
  pub kind : attribute.kind ≡ codes "String"
  pub valued : IsValue value attribute.value

-- `name:Type=value`
pub record IsTypedAttribute (text : List ℕ) (attribute : Typed) : Type 0 where
  pub name : List ℕ
  pub type : List ℕ
  pub value : List ℕ
  pub is : text ≡ name ++ (58 ∷ type ++ 61 ∷ value)
  pub named : IsParameterName name attribute.name
  pub kind : IsPath type attribute.kind
  pub valued : IsValue value attribute.value

-- ---- clauses

-- each text is one of the paths, in order
abbrev pub ArePaths : List (List ℕ) → List (List ℕ) → Type 0
ArePaths [] [] = Unit {0}
ArePaths (text ∷ texts) (path ∷ paths) = IsPath text path × ArePaths texts paths
ArePaths _ _ = ⊥

-- each text is one of the directives or of the attributes, in order. A name may come again
pub data AreParameters : List (List ℕ) → List Pair → List Typed → Type 0 where
  none : AreParameters [] [] []
  directive : {text : List ℕ} {texts : List (List ℕ)} {pair : Pair} {directives : List Pair} {attributes : List Typed} →
      IsDirective text pair → AreParameters texts directives attributes → AreParameters (text ∷ texts) (pair ∷ directives) attributes
  plain : {text : List ℕ} {texts : List (List ℕ)} {typed : Typed} {directives : List Pair} {attributes : List Typed} →
      IsPlainAttribute text typed → AreParameters texts directives attributes → AreParameters (text ∷ texts) directives (typed ∷ attributes)
  typed : {text : List ℕ} {texts : List (List ℕ)} {typed : Typed} {directives : List Pair} {attributes : List Typed} →
      IsTypedAttribute text typed → AreParameters texts directives attributes → AreParameters (text ∷ texts) directives (typed ∷ attributes)

-- a clause is one or more paths and then parameters, all joined by `;`. Nothing between two of them, or after the last, is no
-- part, so `a;` and `a;;b` are no clauses
pub record IsClause (text : List ℕ) (clause : Clause) : Type 0 where
  pub paths : List (List ℕ)
  pub parameters : List (List ℕ)
  pub is : text ≡ join_with_byte 59 (paths ++ parameters)
  pub some : 0 < length paths
  pub are_paths : ArePaths paths clause.paths
  pub are_parameters : AreParameters parameters clause.directives clause.attributes

-- each text is one of the clauses, in order
abbrev pub AreClauses : List (List ℕ) → List Clause → Type 0
AreClauses [] [] = Unit {0}
AreClauses (text ∷ texts) (clause ∷ clauses) = IsClause text clause × AreClauses texts clauses
AreClauses _ _ = ⊥

-- the clauses of a value: one or more, joined by `,`; a value of spaces and tabs alone has none
pub data AreClausesOf : List ℕ → List Clause → Type 0 where
  blank : {value : List ℕ} → AllPass is_space_or_tab value → AreClausesOf value []
  joined : {value : List ℕ} {clauses : List Clause} (texts : List (List ℕ)) → 0 < length texts → value ≡ join_with_byte 44 texts → AreClauses texts clauses →
      AreClausesOf value clauses
