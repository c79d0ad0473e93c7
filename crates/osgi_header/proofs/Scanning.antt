-- No separator stands outside quotes within a part of a clause or a clause.
use Rattle.std.proofs.Common.{◌≡◌, ℕ, List, [], ◌∷◌, ◌++◌, get_or, ap, ◌∙◌, refl}
use Rattle.std.specs.Prelude.{All, false, ◌==◌, Some}
use Rattle.std.specs.List.{join_with_byte}
use Rattle.osgi_header.specs.declared.parameters.ClausePart.{ClausePart}
use Rattle.osgi_base.specs.declared.parts.QuoteState.TheVariants.{Bare}
use Rattle.osgi_header.proofs.PartReading.{directive, IsPart, path, plain, typed}
use Rattle.osgi_base.specs.laws.Scans.{IsPlain, plain_by, scan-append, scan-one, scan-plain, scan_plain, scan_quoted}
use Rattle.osgi_base.specs.Parts.{scan}
use Rattle.osgi_header.proofs.Splitting.{AreWhole}
use Rattle.osgi_header.proofs.Values.{trimmed_each}
use Rattle.osgi_header.specs.Clauses.{bare, is_unquoted_byte, is_parameter_name_byte, is_path_byte, IsParameterName, IsPath, IsSpelled, IsValue, quoted}
use Rattle.osgi_header.specs.Spaces.{is_space_or_tab}

-- ---- the parts of a clause, before either separator

-- a byte that nothing in a part is, outside quotes
record Separates (separator : ℕ) : Type 0 where
  blank : is_space_or_tab separator ≡ false
  path : is_path_byte separator ≡ false
  name : is_parameter_name_byte separator ≡ false
  value : is_unquoted_byte separator ≡ false
  colon : (58 == separator) ≡ false
  equals : (61 == separator) ≡ false
  quote : (34 == separator) ≡ false

comma : Separates 44
comma = record { blank = refl; path = refl; name = refl; value = refl; colon = refl; equals = refl; quote = refl }

semicolon : Separates 59
semicolon = record { blank = refl; path = refl; name = refl; value = refl; colon = refl; equals = refl; quote = refl }

path_plain : (separator : ℕ) (text inner : List ℕ) → Separates separator → IsPath text inner → All (IsPlain separator) text
path_plain separator text inner s is =
    trimmed_each (IsPlain separator) text inner (λ b blank. plain_by separator is_space_or_tab b s.blank refl blank) is.trimmed
    (λ k d below. plain_by separator is_path_byte (get_or inner k d) s.path refl (is.bytes k d below))

name_plain : (separator : ℕ) (text inner : List ℕ) → Separates separator → IsParameterName text inner → All (IsPlain separator) text
name_plain separator text inner s is =
    trimmed_each (IsPlain separator) text inner (λ b blank. plain_by separator is_space_or_tab b s.blank refl blank) is.trimmed
    (λ k d below. plain_by separator is_parameter_name_byte (get_or inner k d) s.name refl (is.bytes k d below))

spelled_value : (separator : ℕ) (spelled value : List ℕ) → Separates separator → IsSpelled spelled value → scan separator Bare spelled ≡ Some Bare
spelled_value separator spelled value s (quoted is) = scan_quoted separator spelled value is s.quote
spelled_value separator spelled value s (bare all) =
    scan_plain separator value (λ k d below. plain_by separator is_unquoted_byte (get_or value k d) s.value refl (all k d below))

value_scan : (separator : ℕ) (text value : List ℕ) → Separates separator → IsValue text value → scan separator Bare text ≡ Some Bare
value_scan separator text value s is =
    ap (scan separator Bare) is.trimmed.is
    ∙ scan-plain separator is.trimmed.before (is.spelled ++ is.trimmed.remainder) (λ k d below. plain_by separator is_space_or_tab (get_or is.trimmed.before k d) s.blank refl (is.trimmed.blank_before k d below))
    ∙ scan-append separator Bare Bare is.spelled is.trimmed.remainder (spelled_value separator is.spelled value s is.spells)
    ∙ scan_plain separator is.trimmed.remainder (λ k d below. plain_by separator is_space_or_tab (get_or is.trimmed.remainder k d) s.blank refl (is.trimmed.blank_after k d below))

part_scan : (separator : ℕ) (text : List ℕ) (part : ClausePart) → Separates separator → IsPart text part → scan separator Bare text ≡ Some Bare
part_scan separator text part s (path {path = name} is) = scan_plain separator text (path_plain separator text name s is)
part_scan separator text part s (directive {pair = pair} is) =
    ap (scan separator Bare) is.is ∙ scan-plain separator is.name (58 ∷ 61 ∷ is.value) (name_plain separator is.name pair.name s is.named)
    ∙ scan-one separator 58 (61 ∷ is.value) (s.colon, refl) ∙ scan-one separator 61 is.value (s.equals, refl)
    ∙ value_scan separator is.value pair.value s is.valued
part_scan separator text part s (plain {typed = one} is) =
    ap (scan separator Bare) is.is ∙ scan-plain separator is.name (61 ∷ is.value) (name_plain separator is.name one.name s is.named)
    ∙ scan-one separator 61 is.value (s.equals, refl)
    ∙ value_scan separator is.value one.value s is.valued
part_scan separator text part s (typed {typed = one} is) =
    ap (scan separator Bare) is.is ∙ scan-plain separator is.name (58 ∷ is.type ++ 61 ∷ is.value) (name_plain separator is.name one.name s is.named)
    ∙ scan-one separator 58 (is.type ++ 61 ∷ is.value) (s.colon, refl)
    ∙ scan-plain separator is.type (61 ∷ is.value) (path_plain separator is.type one.kind s is.kind)
    ∙ scan-one separator 61 is.value (s.equals, refl)
    ∙ value_scan separator is.value one.value s is.valued

pub part_in_clause : (text : List ℕ) (part : ClausePart) → IsPart text part → scan 59 Bare text ≡ Some Bare
part_in_clause text part is = part_scan 59 text part semicolon is

pub part_in_value : (text : List ℕ) (part : ClausePart) → IsPart text part → scan 44 Bare text ≡ Some Bare
part_in_value text part is = part_scan 44 text part comma is

-- texts in which no `,` stands outside quotes, joined by `;`
pub joined_scan : (texts : List (List ℕ)) → AreWhole 44 texts → scan 44 Bare (join_with_byte 59 texts) ≡ Some Bare
joined_scan [] whole = refl
joined_scan (text ∷ []) whole = whole.0
joined_scan (text ∷ next ∷ texts) whole =
    scan-append 44 Bare Bare text (59 ∷ join_with_byte 59 (next ∷ texts)) whole.0
    ∙ scan-one 44 59 (join_with_byte 59 (next ∷ texts)) (refl, refl)
    ∙ joined_scan (next ∷ texts) whole.1
