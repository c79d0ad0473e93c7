-- The headers of a manifest are read as what its lines are, or as the fault that they have, and as nothing else.
use Rattle.std.proofs.Common.{◌≡◌, ◌≢◌, ℕ, ◌<◌, List, [], ◌∷◌, ◌++◌, length, get_or, ap, sym, ◌∙◌, refl, append_assoc, subst}
use Rattle.std.specs.Prelude.{All, Bool, true, false, cond, ◌==◌, ◌||◌, IsUtf8, None, Some, Option, Result, Ok, Err, IfOk, MatchResult}
use Rattle.std.specs.List.{list_all}
use Rattle.std.specs.Str.{is_utf8}
use Rattle.std.specs.declared.alloc.AllocError.{AllocError}
use Rattle.std.proofs.Math.Seq.{drop-append-add, take-append_seam}
use Rattle.std.proofs.lemmas.Bool.{cond-false, cond-true, eqb-false, eqb-true, le-ltb, lt-ltb, ltb-false, ltb-true, ne_eqb, or_from, or_left, or_right}
use Rattle.std.proofs.lemmas.List.Elements.{All-cons, All-head, All-nil, All-tail}
use Rattle.std.proofs.lemmas.List.Sums.{AllPass-from_list_all, list_all-from_AllPass}
use Rattle.std.proofs.lemmas.Str.{is_utf8-from_IsUtf8, IsUtf8-from_is_utf8}
use Rattle.osgi_header.specs.declared.fault.HeaderFault.{HeaderFault}
use Rattle.osgi_header.specs.declared.fault.HeaderKind.{HeaderKind}
use Rattle.osgi_header.specs.declared.fault.HeaderKind.TheVariants.{BadName, BadUtf8, LongLine, NoColon}
use Rattle.osgi_header.specs.declared.header.Header.{Header}
use Rattle.osgi_header.specs.declared.unfolding.TheConstants.{MAX_LINE_LEN}
use Rattle.osgi_header.proofs.Grouping.{grouped, only_groups}
use Rattle.osgi_header.proofs.LineReading.{only_lines}
use Rattle.osgi_base.specs.laws.Places.{Fails, Found, found, nowhere, position-front, position-none, somewhere}
use Rattle.osgi_base.specs.laws.Scans.{other_byte}
use Rattle.osgi_header.specs.computed.HeaderReader.{counted, first_long, groups_of, header_by, header_of, headers_by, headers_from, headers_onto, if_short, is_colon, is_header_name, is_long, parsed, parsed_at, without_space}
use Rattle.osgi_header.specs.Headers.{AreHeaders, AreHeadersOf, bad_name, bad_utf8, bare, first_long as is_first_long, is_header_name_byte, IsGroupFault, IsHeader, IsHeaderFault, IsHeaderName, IsHeaderValue, HasHeaderName, IsShort, more_long, no_colon, spaced}
use Rattle.osgi_header.specs.Lines.{AreGrouped, AreLines, Group, joined, PhysicalLine}

-- ---- one header more

headers_onto_by : (so_far pushed : List Header) (header : Header) (others : Result (List Header) HeaderFault) → pushed ≡ so_far ++ header ∷ [] →
    headers_onto pushed others ≡ headers_onto so_far (headers_by (Ok header) others)
headers_onto_by so_far pushed header (Err fault) added = refl
headers_onto_by so_far pushed header (Ok others) added = ap Ok (ap (λ l. l ++ others) added ∙ append_assoc so_far (header ∷ []) others)

pub headers_more : (so_far pushed : List Header) (header : Header) (lines : Group) (groups rest : List Group) (whole : Result (List Header) HeaderFault) →
    groups ≡ lines ∷ rest → Ok header ≡ header_of lines → pushed ≡ so_far ++ header ∷ [] → headers_onto so_far (headers_from groups) ≡ whole →
    headers_onto pushed (headers_from rest) ≡ whole
headers_more so_far pushed header lines groups rest whole begun is added read =
    headers_onto_by so_far pushed header (headers_from rest) added
    ∙ ap (λ h. headers_onto so_far (headers_by h (headers_from rest))) is
    ∙ ap (λ g. headers_onto so_far (headers_from g)) (sym begun) ∙ read

-- ---- names and values

name_byte_no_colon : (b : ℕ) → is_header_name_byte b ≡ true → is_colon b ≡ false
name_byte_no_colon b passes = other_byte is_header_name_byte 58 b refl passes

name_no_colon : (name : List ℕ) → IsHeaderName name → Fails is_colon name
name_no_colon name is = λ k d below. name_byte_no_colon (get_or name k d) (is.bytes k d below)

name_by : (b : ℕ) (rest : List ℕ) (underscore dash all : Bool) → (b == 95) ≡ underscore → (b == 45) ≡ dash → list_all is_header_name_byte (b ∷ rest) ≡ all →
    is_header_name (b ∷ rest) ≡ true → IsHeaderName (b ∷ rest)
name_by b rest true dash all e f g is =
    absurd (cc (is, cond-true ((b == 95) || (b == 45)) false (list_all is_header_name_byte (b ∷ rest)) (or_left (b == 95) (b == 45) e)))
name_by b rest false true all e f g is =
    absurd (cc (is, cond-true ((b == 95) || (b == 45)) false (list_all is_header_name_byte (b ∷ rest)) (or_right (b == 95) (b == 45) f)))
name_by b rest false false all e f g is = record {
  first = b;
  rest = rest;
  is = refl;
  bytes = AllPass-from_list_all is_header_name_byte (b ∷ rest) (sym (cond-false ((b == 95) || (b == 45)) false (list_all is_header_name_byte (b ∷ rest)) (or_from (b == 95) (b == 45) e f)) ∙ is);
  no_underscore = eqb-false b 95 e;
  no_dash = eqb-false b 45 f;
}

name_sound : (name : List ℕ) → is_header_name name ≡ true → IsHeaderName name
name_sound [] is = absurd (cc is)
name_sound (b ∷ rest) is = name_by b rest (b == 95) (b == 45) (list_all is_header_name_byte (b ∷ rest)) refl refl refl is

name_read : (name : List ℕ) → IsHeaderName name → is_header_name name ≡ true
name_read name is =
    ap is_header_name is.is
    ∙ cond-false ((is.first == 95) || (is.first == 45)) false (list_all is_header_name_byte (is.first ∷ is.rest))
    (or_from (is.first == 95) (is.first == 45) (ne_eqb is.first 95 is.no_underscore) (ne_eqb is.first 45 is.no_dash))
    ∙ ap (list_all is_header_name_byte) (sym is.is) ∙ list_all-from_AllPass is_header_name_byte name is.bytes

value_by : (b : ℕ) (rest : List ℕ) (space : Bool) → (b == 32) ≡ space → IsHeaderValue (b ∷ rest) (without_space (b ∷ rest))
value_by b rest true e = rw (cond-true (b == 32) rest (b ∷ rest) e, eqb-true b 32 e) spaced
value_by b rest false e =
    let other : b ≢ 32 = eqb-false b 32 e in
    rw (cond-false (b == 32) rest (b ∷ rest) e) (bare {value = b ∷ rest} (λ more same. other (cc same)))

value_sound : (remainder : List ℕ) → IsHeaderValue remainder (without_space remainder)
value_sound [] = bare {value = []} (λ more same. cc same)
value_sound (b ∷ rest) = value_by b rest (b == 32) refl

bare_value : (value : List ℕ) → ((rest : List ℕ) → value ≢ 32 ∷ rest) → without_space value ≡ value
bare_value [] stops = refl
bare_value (b ∷ rest) stops = cond-false (b == 32) _ _ (ne_eqb b 32 (λ e. absurd (stops rest (ap (λ x. x ∷ rest) e))))

value_read : (remainder value : List ℕ) → IsHeaderValue remainder value → without_space remainder ≡ value
value_read remainder value spaced = refl
value_read remainder value (bare stops) = bare_value value stops

-- ---- joined lines

-- what joined lines are read as
data IsParsed (text : List ℕ) : Result Header HeaderKind → Type 0 where
  parsed_as : (one : Header) (remainder : List ℕ) → HasHeaderName text one.name remainder → IsHeaderValue remainder one.value → IsUtf8 text → IsParsed text (Ok one)
  colonless : All (λ b. b ≢ 58) text → IsParsed text (Err NoColon)
  misnamed : (name remainder : List ℕ) → text ≡ name ++ 58 ∷ remainder → All (λ b. b ≢ 58) name → ¬ IsHeaderName name → IsParsed text (Err BadName)
  misspelled : (name remainder : List ℕ) → HasHeaderName text name remainder → ¬ IsUtf8 text → IsParsed text (Err BadUtf8)

-- the answer where the name and the bytes pass or do not
abbrev answer : Bool → Bool → List ℕ → List ℕ → Result Header HeaderKind
answer named utf8 name remainder = cond named (cond utf8 (Ok (record { name = name; value = without_space remainder })) (Err BadUtf8)) (Err BadName)

parsed_split : (name remainder : List ℕ) → Fails is_colon name →
    parsed (name ++ 58 ∷ remainder) ≡ answer (is_header_name name) (is_utf8 (name ++ 58 ∷ remainder)) name remainder
parsed_split name remainder fails =
    rw (position-front is_colon name 58 remainder fails refl, take-append_seam name (58 ∷ remainder), drop-append-add name (58 ∷ remainder) 1) refl

no_colon_in : (name : List ℕ) → Fails is_colon name → All (λ b. b ≢ 58) name
no_colon_in name fails = λ k d below. eqb-false (get_or name k d) 58 (fails k d below)

colon_fails : (name : List ℕ) → All (λ b. b ≢ 58) name → Fails is_colon name
colon_fails name none = λ k d below. ne_eqb (get_or name k d) 58 (none k d below)

split_by : (text name remainder : List ℕ) (named utf8 : Bool) → text ≡ name ++ 58 ∷ remainder → Fails is_colon name → is_header_name name ≡ named → is_utf8 text ≡ utf8 →
    IsParsed text (answer named utf8 name remainder)
split_by text name remainder false utf8 is fails e f =
    misnamed name remainder is (no_colon_in name fails) (λ named. cc (e, name_read name named))
split_by text name remainder true false is fails e f =
    misspelled name remainder (record { is = is; named = name_sound name e }) (λ spelled. cc (f, is_utf8-from_IsUtf8 text spelled))
split_by text name remainder true true is fails e f =
    parsed_as (record { name = name; value = without_space remainder }) remainder (record { is = is; named = name_sound name e }) (value_sound remainder) (IsUtf8-from_is_utf8 text f)

parsed_found : (text : List ℕ) → Found is_colon text → IsParsed text (parsed text)
parsed_found text (nowhere fails) = subst (IsParsed text) (ap (parsed_at text) (sym (position-none is_colon text fails))) (colonless (no_colon_in text fails))
parsed_found text (somewhere name b remainder fails passes is) =
    let split : text ≡ name ++ 58 ∷ remainder = is ∙ ap (λ x. name ++ x ∷ remainder) (eqb-true b 58 passes) in
    subst (IsParsed text) (sym (ap parsed split ∙ parsed_split name remainder fails ∙ ap (λ l. answer (is_header_name name) (is_utf8 l) name remainder) (sym split)))
    (split_by text name remainder (is_header_name name) (is_utf8 text) split fails refl refl)

parsed_is : (text : List ℕ) → IsParsed text (parsed text)
parsed_is text = parsed_found text (found is_colon text)

not_named : (name : List ℕ) (test : Bool) → is_header_name name ≡ test → ¬ IsHeaderName name → test ≡ false
not_named name true e none = absurd (none (name_sound name e))
not_named name false e none = refl

not_utf8 : (text : List ℕ) (test : Bool) → is_utf8 text ≡ test → ¬ IsUtf8 text → test ≡ false
not_utf8 text true e none = absurd (none (IsUtf8-from_is_utf8 text e))
not_utf8 text false e none = refl

parsed_named : (text name remainder : List ℕ) → HasHeaderName text name remainder → parsed text ≡ answer true (is_utf8 text) name remainder
parsed_named text name remainder is =
    ap parsed is.is ∙ parsed_split name remainder (name_no_colon name is.named)
    ∙ ap (λ t. answer t (is_utf8 (name ++ 58 ∷ remainder)) name remainder) (name_read name is.named)
    ∙ ap (λ l. answer true (is_utf8 l) name remainder) (sym is.is)

is_parsed : (text : List ℕ) (r : Result Header HeaderKind) → IsParsed text r → parsed text ≡ r
is_parsed text r (parsed_as one remainder named valued utf8) =
    parsed_named text one.name remainder named
    ∙ ap (λ t. answer true t one.name remainder) (is_utf8-from_IsUtf8 text utf8)
    ∙ ap (λ v. Ok (record { name = one.name; value = v })) (value_read remainder one.value valued)
is_parsed text r (colonless none) = ap (parsed_at text) (position-none is_colon text (colon_fails text none))
is_parsed text r (misnamed name remainder is none no_name) =
    ap parsed is ∙ parsed_split name remainder (colon_fails name none)
    ∙ ap (λ t. answer t (is_utf8 (name ++ 58 ∷ remainder)) name remainder) (not_named name (is_header_name name) refl no_name)
is_parsed text r (misspelled name remainder named no_utf8) =
    parsed_named text name remainder named ∙ ap (λ t. answer true t name remainder) (not_utf8 text (is_utf8 text) refl no_utf8)

-- ---- lines that are too long

not_long : (line : PhysicalLine) → is_long line ≡ false → IsShort line
not_long line e = ltb-false MAX_LINE_LEN (length line.text) e

short_is : (line : PhysicalLine) → IsShort line → is_long line ≡ false
short_is line short = le-ltb MAX_LINE_LEN (length line.text) short

-- what is known of the first line that is too long
data FirstLong (lines : List PhysicalLine) : Option ℕ → Type 0 where
  none_long_in : All IsShort lines → FirstLong lines None
  long_at : (before : List PhysicalLine) (line : PhysicalLine) (rest : List PhysicalLine) → lines ≡ before ++ line ∷ rest → All IsShort before → MAX_LINE_LEN < length line.text → FirstLong lines (Some line.at)

long_later : (line : PhysicalLine) (rest : List PhysicalLine) (at : Option ℕ) → IsShort line → FirstLong rest at → FirstLong (line ∷ rest) at
long_later line rest at short (none_long_in all) = none_long_in (All-cons IsShort line rest short all)
long_later line rest at short (long_at before one remainder is all over) = long_at (line ∷ before) one remainder (ap (λ l. line ∷ l) is) (All-cons IsShort line before short all) over

long_by : (line : PhysicalLine) (rest : List PhysicalLine) (test : Bool) → is_long line ≡ test → FirstLong rest (first_long rest) → FirstLong (line ∷ rest) (first_long (line ∷ rest))
long_by line rest true e more =
    subst (FirstLong (line ∷ rest)) (sym (cond-true (is_long line) (Some line.at) (first_long rest) e))
    (long_at [] line rest refl (All-nil IsShort) (ltb-true MAX_LINE_LEN (length line.text) e))
long_by line rest false e more =
    subst (FirstLong (line ∷ rest)) (sym (cond-false (is_long line) (Some line.at) (first_long rest) e)) (long_later line rest (first_long rest) (not_long line e) more)

long_is : (lines : List PhysicalLine) → FirstLong lines (first_long lines)
long_is [] = none_long_in (All-nil IsShort)
long_is (line ∷ rest) = long_by line rest (is_long line) refl (long_is rest)

none_long : (lines : List PhysicalLine) → All IsShort lines → first_long lines ≡ None
none_long [] all = refl
none_long (line ∷ rest) all =
    cond-false (is_long line) _ _ (short_is line (All-head IsShort line rest all)) ∙ none_long rest (All-tail IsShort line rest all)

one_long : (before : List PhysicalLine) (line : PhysicalLine) (rest : List PhysicalLine) → All IsShort before → MAX_LINE_LEN < length line.text → first_long (before ++ line ∷ rest) ≡ Some line.at
one_long [] line rest all over = cond-true (is_long line) _ _ (lt-ltb MAX_LINE_LEN (length line.text) over)
one_long (first ∷ before) line rest all over =
    cond-false (is_long first) _ _ (short_is first (All-head IsShort first before all)) ∙ one_long before line rest (All-tail IsShort first before all) over

-- ---- the header of a group of lines

-- a header or a fault, each as the grammar has it
abbrev IsRead : Group → Result Header HeaderFault → Type 0
IsRead lines (Ok header) = IsHeader lines header
IsRead lines (Err fault) = IsGroupFault lines fault

more_by : (lines : Group) (one : Header) (remainder : List ℕ) (at : Option ℕ) → IsShort lines.first → HasHeaderName (joined lines) one.name remainder → IsHeaderValue remainder one.value →
    IsUtf8 (joined lines) → FirstLong lines.more at → IsRead lines (if_short one at)
more_by lines one remainder None short named valued utf8 (none_long_in all) =
    record { remainder = remainder; named = named; value = valued; utf8 = utf8; short = short; all_short = all }
more_by lines one remainder (Some at) short named valued utf8 (long_at before over_long rest is all over) =
    more_long one.name remainder before over_long rest short named utf8 is all over

parsed_by : (lines : Group) (r : Result Header HeaderKind) → IsShort lines.first → IsParsed (joined lines) r → IsRead lines (header_by lines r)
parsed_by lines r short (parsed_as one remainder named valued utf8) = more_by lines one remainder (first_long lines.more) short named valued utf8 (long_is lines.more)
parsed_by lines r short (colonless none) = no_colon short none
parsed_by lines r short (misnamed name remainder is none no_name) = bad_name name remainder short is none no_name
parsed_by lines r short (misspelled name remainder named no_utf8) = bad_utf8 name remainder short named no_utf8

read_by : (lines : Group) (test : Bool) → is_long lines.first ≡ test → IsRead lines (header_of lines)
read_by lines true e =
    subst (IsRead lines) (sym (cond-true (is_long lines.first) (Err (record { kind = LongLine; at = lines.first.at })) (header_by lines (parsed (joined lines))) e))
    (is_first_long (ltb-true MAX_LINE_LEN (length lines.first.text) e))
read_by lines false e =
    subst (IsRead lines) (sym (cond-false (is_long lines.first) (Err (record { kind = LongLine; at = lines.first.at })) (header_by lines (parsed (joined lines))) e))
    (parsed_by lines (parsed (joined lines)) (not_long lines.first e) (parsed_is (joined lines)))

is_read : (lines : Group) → IsRead lines (header_of lines)
is_read lines = read_by lines (is_long lines.first) refl

short_first : (lines : Group) (r : Result Header HeaderKind) → IsShort lines.first → IsParsed (joined lines) r → header_of lines ≡ header_by lines r
short_first lines r short is =
    cond-false (is_long lines.first) _ _ (short_is lines.first short) ∙ ap (header_by lines) (is_parsed (joined lines) r is)

header_read : (lines : Group) (one : Header) → IsHeader lines one → header_of lines ≡ Ok one
header_read lines one is =
    short_first lines (Ok one) is.short (parsed_as one is.remainder is.named is.value is.utf8) ∙ ap (if_short one) (none_long lines.more is.all_short)

-- a header whose name stands before the colon
abbrev named_header : List ℕ → List ℕ → Header
named_header name remainder = record { name = name; value = without_space remainder }

fault_read : (lines : Group) (fault : HeaderFault) → IsGroupFault lines fault → header_of lines ≡ Err fault
fault_read lines fault (is_first_long over) = cond-true (is_long lines.first) _ _ (lt-ltb MAX_LINE_LEN (length lines.first.text) over)
fault_read lines fault (no_colon short none) = short_first lines (Err NoColon) short (colonless none)
fault_read lines fault (bad_name name remainder short is none no_name) = short_first lines (Err BadName) short (misnamed name remainder is none no_name)
fault_read lines fault (bad_utf8 name remainder short named no_utf8) = short_first lines (Err BadUtf8) short (misspelled name remainder named no_utf8)
fault_read lines fault (more_long name remainder before over_long rest short named utf8 is all over) =
    short_first lines (Ok (named_header name remainder)) short (parsed_as (named_header name remainder) remainder named (value_sound remainder) utf8)
    ∙ ap (if_short (named_header name remainder)) (ap first_long is ∙ one_long before over_long rest all over)

-- ---- all headers

header_sound : (lines : Group) (one : Header) → header_of lines ≡ Ok one → IsHeader lines one
header_sound lines one e = subst (IsRead lines) e (is_read lines)

fault_sound : (lines : Group) (fault : HeaderFault) → header_of lines ≡ Err fault → IsGroupFault lines fault
fault_sound lines fault e = subst (IsRead lines) e (is_read lines)

-- the answer for the first group was a header, and that for the others headers
record BothRead (first : Result Header HeaderFault) (others : Result (List Header) HeaderFault) (all : List Header) : Type 0 where
  one : Header
  headers : List Header
  is_header : first ≡ Ok one
  are_headers : others ≡ Ok headers
  is : all ≡ one ∷ headers

both_read : (first : Result Header HeaderFault) (others : Result (List Header) HeaderFault) (all : List Header) → headers_by first others ≡ Ok all → BothRead first others all
both_read (Err fault) others all e = absurd (cc e)
both_read (Ok one) (Err fault) all e = absurd (cc e)
both_read (Ok one) (Ok headers) all e = record { one = one; headers = headers; is_header = refl; are_headers = refl; is = cc e }

headers_sound : (groups : List Group) (all : List Header) → headers_from groups ≡ Ok all → AreHeaders groups all
headers_sound [] [] e = tt
headers_sound [] (one ∷ headers) e = absurd (cc e)
headers_sound (lines ∷ groups) all e =
    let read = both_read (header_of lines) (headers_from groups) all e in
    rw read.is (header_sound lines read.one read.is_header, headers_sound groups read.headers read.are_headers)

headers_read : (groups : List Group) (all : List Header) → AreHeaders groups all → headers_from groups ≡ Ok all
headers_read [] [] are = refl
headers_read [] (one ∷ headers) are = absurd are
headers_read (lines ∷ groups) [] are = absurd are
headers_read (lines ∷ groups) (one ∷ headers) are = rw (header_read lines one are.0, headers_read groups headers are.1) refl

-- ---- the first fault

data FaultRead (first : Result Header HeaderFault) (others : Result (List Header) HeaderFault) (fault : HeaderFault) : Type 0 where
  here : first ≡ Err fault → FaultRead first others fault
  later : (one : Header) → first ≡ Ok one → others ≡ Err fault → FaultRead first others fault

same_faults : (answer : Result (List Header) HeaderFault) (first second : HeaderFault) → answer ≡ Err first → answer ≡ Err second → first ≡ second
same_faults answer first second e f = cc

fault_told : (first : Result Header HeaderFault) (others : Result (List Header) HeaderFault) (fault : HeaderFault) → headers_by first others ≡ Err fault → FaultRead first others fault
fault_told (Err other) others fault e = here (ap Err (same_faults (headers_by (Err other) others) other fault refl e))
fault_told (Ok one) (Err other) fault e = later one refl e
fault_told (Ok one) (Ok headers) fault e = absurd (cc e)

record FaultIn (groups : List Group) (fault : HeaderFault) : Type 0 where
  before : List Group
  faulty : Group
  rest : List Group
  split : groups ≡ before ++ faulty ∷ rest
  are_headers : All (λ lines. (one : Header) × IsHeader lines one) before
  is : IsGroupFault faulty fault

fault_by : (lines : Group) (groups : List Group) (fault : HeaderFault) → FaultRead (header_of lines) (headers_from groups) fault →
    (headers_from groups ≡ Err fault → FaultIn groups fault) → FaultIn (lines ∷ groups) fault
fault_by lines groups fault (here e) go = record {
  before = [];
  faulty = lines;
  rest = groups;
  split = refl;
  are_headers = All-nil (λ l. (one : Header) × IsHeader l one);
  is = fault_sound lines fault e;
}
fault_by lines groups fault (later one e others) go =
    let found = go others in
    record {
      before = lines ∷ found.before;
      faulty = found.faulty;
      rest = found.rest;
      split = ap (λ l. lines ∷ l) found.split;
      are_headers = All-cons (λ l. (h : Header) × IsHeader l h) lines found.before (one, header_sound lines one e) found.are_headers;
      is = found.is;
    }

fault_in : (groups : List Group) (fault : HeaderFault) → headers_from groups ≡ Err fault → FaultIn groups fault
fault_in [] fault e = absurd (cc e)
fault_in (lines ∷ groups) fault e = fault_by lines groups fault (fault_told (header_of lines) (headers_from groups) fault e) (λ h. fault_in groups fault h)

fault_answer : (before : List Group) (faulty : Group) (rest : List Group) (fault : HeaderFault) → All (λ lines. (one : Header) × IsHeader lines one) before → IsGroupFault faulty fault →
    headers_from (before ++ faulty ∷ rest) ≡ Err fault
fault_answer [] faulty rest fault are is = ap (λ h. headers_by h (headers_from rest)) (fault_read faulty fault is)
fault_answer (lines ∷ before) faulty rest fault are is =
    let head = All-head (λ l. (h : Header) × IsHeader l h) lines before are in
    ap (λ h. headers_by h (headers_from (before ++ faulty ∷ rest))) (header_read lines head.0 head.1)
    ∙ ap (headers_by (Ok head.0)) (fault_answer before faulty rest fault (All-tail (λ l. (h : Header) × IsHeader l h) lines before are) is)

-- ---- what the reader answers

answer_by : (bytes : List ℕ) (lines : List PhysicalLine) (r : Result (List Header) HeaderFault) → AreLines 0 bytes lines → headers_from (groups_of lines) ≡ r →
    MatchResult (counted r) (AreHeadersOf bytes) (IsHeaderFault bytes)
answer_by bytes lines (Ok all) are is = record {
  lines = lines;
  groups = groups_of lines;
  all = all;
  are_lines = are;
  are_grouped = grouped lines;
  are_headers = headers_sound (groups_of lines) all is;
  count = refl;
}
answer_by bytes lines (Err fault) are is =
    let found = fault_in (groups_of lines) fault is in
    record {
      lines = lines;
      before = found.before;
      faulty = found.faulty;
      rest = found.rest;
      are_lines = are;
      are_grouped = subst (AreGrouped lines) found.split (grouped lines);
      are_headers = found.are_headers;
      is = found.is;
    }

pub answer_reads : (bytes : List ℕ) (lines : List PhysicalLine) (r : Result (Result (List Header) HeaderFault) AllocError) → AreLines 0 bytes lines →
    IfOk r (λ a. a ≡ counted (headers_from (groups_of lines))) → IfOk r (λ a. MatchResult a (AreHeadersOf bytes) (IsHeaderFault bytes))
answer_reads bytes lines (Ok a) are is =
    subst (λ b. MatchResult b (AreHeadersOf bytes) (IsHeaderFault bytes)) (sym is) (answer_by bytes lines (headers_from (groups_of lines)) are refl)
answer_reads bytes lines (Err e) are is = tt

headers_only : (bytes : List ℕ) (lines : List PhysicalLine) (others : List Header) → AreLines 0 bytes lines → AreHeadersOf bytes others →
    counted (headers_from (groups_of lines)) ≡ Ok others
headers_only bytes lines others are is =
    ap (λ l. counted (headers_from (groups_of l))) (only_lines bytes lines is.lines are is.are_lines)
    ∙ ap (λ g. counted (headers_from g)) (sym (only_groups is.are_grouped))
    ∙ ap counted (headers_read is.groups is.all is.are_headers)
    ∙ ap Ok (sym is.count)

pub answer_only : (bytes : List ℕ) (lines : List PhysicalLine) (r : Result (Result (List Header) HeaderFault) AllocError) → AreLines 0 bytes lines →
    IfOk r (λ a. a ≡ counted (headers_from (groups_of lines))) → (others : List Header) → AreHeadersOf bytes others → IfOk r (λ a. a ≡ Ok others)
answer_only bytes lines (Ok a) are is others headers = is ∙ headers_only bytes lines others are headers
answer_only bytes lines (Err e) are is others headers = tt

fault_only : (bytes : List ℕ) (lines : List PhysicalLine) (fault : HeaderFault) → AreLines 0 bytes lines → IsHeaderFault bytes fault →
    counted (headers_from (groups_of lines)) ≡ Err fault
fault_only bytes lines fault are is =
    ap (λ l. counted (headers_from (groups_of l))) (only_lines bytes lines is.lines are is.are_lines)
    ∙ ap (λ g. counted (headers_from g)) (sym (only_groups is.are_grouped))
    ∙ ap counted (fault_answer is.before is.faulty is.rest fault is.are_headers is.is)

pub answer_only_fault : (bytes : List ℕ) (lines : List PhysicalLine) (r : Result (Result (List Header) HeaderFault) AllocError) → AreLines 0 bytes lines →
    IfOk r (λ a. a ≡ counted (headers_from (groups_of lines))) → (other : HeaderFault) → IsHeaderFault bytes other → IfOk r (λ a. a ≡ Err other)
answer_only_fault bytes lines (Ok a) are is other fault = is ∙ fault_only bytes lines other are fault
answer_only_fault bytes lines (Err e) are is other fault = tt
