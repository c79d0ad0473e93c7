-- Paths, names and values are read as what they are, and nothing else is.
use Rattle.std.proofs.Common.{◌≡◌, ◌≢◌, ℕ, ◌<◌, List, [], ◌∷◌, ◌++◌, length, ap, sym, ◌∙◌, refl, arith}
use Rattle.std.specs.Prelude.{All, Bool, cond, false, None, not, Option, Some, true, ◌==◌, ◌||◌}
use Rattle.std.specs.List.{AllPass, list_all}
use Rattle.std.proofs.lemmas.Bool.{cond-false, cond-true, eqb-false, ne_eqb, or_from, or_left, or_right}
use Rattle.std.proofs.lemmas.List.Elements.{All-append, All-head}
use Rattle.std.proofs.lemmas.List.Sums.{AllPass-from_list_all, list_all-from_AllPass}
use Rattle.std.proofs.lemmas.Option.{cond_some}
use Rattle.osgi_base.specs.laws.Scans.{other_byte}
use Rattle.osgi_base.specs.laws.Quoting.{quoted_read, quoted_sound}
use Rattle.osgi_header.proofs.Trimming.{trimmed-is, trims}
use Rattle.osgi_header.specs.computed.ClauseReader.{begins_with_quote, name_if, parameter_name, path_if, path_of, trimmed, value_from, parameter_value}
use Rattle.osgi_header.specs.Clauses.{bare, is_unquoted_byte, is_parameter_name_byte, is_path_byte, IsParameterName, IsPath, IsSpelled, IsValue, quoted}
use Rattle.osgi_header.specs.Spaces.{is_space_or_tab, IsTrimmed}

-- what holds of blanks and of each byte of what they stand round
pub trimmed_each : (P : ℕ → Type 0) (text inner : List ℕ) → ((b : ℕ) → is_space_or_tab b ≡ true → P b) → IsTrimmed text inner → All P inner → All P text
trimmed_each P text inner blank is each =
    rw is.is
    (All-append P is.before (inner ++ is.remainder) (λ k d below. blank _ (is.blank_before k d below))
    (All-append P inner is.remainder each (λ k d below. blank _ (is.blank_after k d below))))

-- ---- one or more bytes that pass

-- the bytes, if there are some and all pass
abbrev some_if : (ℕ → Bool) → List ℕ → Option (List ℕ)
some_if p text = cond ((length text == 0) || not (list_all p text)) None (Some text)

record SomePass (p : ℕ → Bool) (inner text : List ℕ) : Type 0 where
  is : inner ≡ text
  some : 0 < length text
  bytes : AllPass p text

some_by : (p : ℕ → Bool) (inner text : List ℕ) (none all : Bool) → (length inner == 0) ≡ none → list_all p inner ≡ all → some_if p inner ≡ Some text → SomePass p inner text
some_by p inner text true all is_none is_all e =
    absurd (cc (e, cond-true ((length inner == 0) || not (list_all p inner)) None (Some inner) (or_left (length inner == 0) (not (list_all p inner)) is_none)))
some_by p inner text false false is_none is_all e =
    absurd (cc (e, cond-true ((length inner == 0) || not (list_all p inner)) None (Some inner) (or_right (length inner == 0) (not (list_all p inner)) (ap not is_all))))
some_by p inner text false true is_none is_all e =
    let pass : ((length inner == 0) || not (list_all p inner)) ≡ false = or_from (length inner == 0) (not (list_all p inner)) is_none (ap not is_all) in
    let whole : Some inner ≡ Some text = sym (cond-false ((length inner == 0) || not (list_all p inner)) None (Some inner) pass) ∙ e in
    let same : inner ≡ text = cc whole in
    let ne : length inner ≢ 0 = eqb-false (length inner) 0 is_none in
    record { is = same; some = omega (arith, ne, ap length same); bytes = rw (← same) (AllPass-from_list_all p inner is_all) }

some_sound : (p : ℕ → Bool) (inner text : List ℕ) → some_if p inner ≡ Some text → SomePass p inner text
some_sound p inner text e = some_by p inner text (length inner == 0) (list_all p inner) refl refl e

some_read : (p : ℕ → Bool) (text : List ℕ) → 0 < length text → AllPass p text → some_if p text ≡ Some text
some_read p text some bytes =
    cond-false ((length text == 0) || not (list_all p text)) None (Some text)
    (or_from (length text == 0) (not (list_all p text)) (ne_eqb (length text) 0 (λ e. absurd (omega (arith, e, some)))) (ap not (list_all-from_AllPass p text bytes)))

pub path_sound : (text path : List ℕ) → path_of text ≡ Some path → IsPath text path
path_sound text path e =
    let is = some_sound is_path_byte (trimmed text) path e in
    record { trimmed = rw (← is.is) (trims text); some = is.some; bytes = is.bytes }

pub path_read : (text path : List ℕ) → IsPath text path → path_of text ≡ Some path
path_read text path is = ap path_if (trimmed-is text path is.trimmed) ∙ some_read is_path_byte path is.some is.bytes

pub name_sound : (text name : List ℕ) → parameter_name text ≡ Some name → IsParameterName text name
name_sound text name e =
    let is = some_sound is_parameter_name_byte (trimmed text) name e in
    record { trimmed = rw (← is.is) (trims text); some = is.some; bytes = is.bytes }

pub name_read : (text name : List ℕ) → IsParameterName text name → parameter_name text ≡ Some name
name_read text name is = ap name_if (trimmed-is text name is.trimmed) ∙ some_read is_parameter_name_byte name is.some is.bytes

-- ---- values

spelled_by : (spelled value : List ℕ) (test : Bool) → begins_with_quote spelled ≡ test → value_from spelled ≡ Some value → IsSpelled spelled value
spelled_by spelled value true quote e = quoted (quoted_sound spelled value (sym (cond-true (begins_with_quote spelled) _ _ quote) ∙ e))
spelled_by spelled value false other e =
    let read = cond_some (list_all is_unquoted_byte spelled) spelled value (sym (cond-false (begins_with_quote spelled) _ _ other) ∙ e) in
    rw (← read.1) (bare (AllPass-from_list_all is_unquoted_byte spelled read.0))

no_quote : (text : List ℕ) → AllPass is_unquoted_byte text → begins_with_quote text ≡ false
no_quote [] all = refl
no_quote (b ∷ rest) all = other_byte is_unquoted_byte 34 b refl (All-head (λ x. is_unquoted_byte x ≡ true) b rest all)

spelled_read : (spelled value : List ℕ) → IsSpelled spelled value → value_from spelled ≡ Some value
spelled_read spelled value (quoted is) =
    cond-true (begins_with_quote spelled) _ _ (ap begins_with_quote is.is) ∙ quoted_read spelled value is
spelled_read spelled value (bare all) =
    cond-false (begins_with_quote value) _ _ (no_quote value all) ∙ cond-true (list_all is_unquoted_byte value) _ _ (list_all-from_AllPass is_unquoted_byte value all)

pub value_sound : (text value : List ℕ) → parameter_value text ≡ Some value → IsValue text value
value_sound text value e = record {
  spelled = trimmed text;
  trimmed = trims text;
  spells = spelled_by (trimmed text) value (begins_with_quote (trimmed text)) refl e;
}

pub value_read : (text value : List ℕ) → IsValue text value → parameter_value text ≡ Some value
value_read text value is = ap value_from (trimmed-is text is.spelled is.trimmed) ∙ spelled_read is.spelled value is.spells
