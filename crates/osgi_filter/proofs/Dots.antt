-- The parts of a version stand between the dots of its text.
use Rattle.std.proofs.Common.{◌≡◌, ◌↔◌, ℕ, suc, ◌+◌, ◌-◌, ◌<◌, true, false, List, [], ◌∷◌, ◌++◌, length, take, drop, Option, None, Some, refl, sym, ap, subst, ◌∙◌, append_assoc, add-one, one-add, arith, length-append}
use Rattle.std.specs.Char.{is_ascii_whitespace}
use Rattle.std.specs.List.{AllPass, after_first, before_first, position_or_len, prefix_len}
use Rattle.std.specs.Option.{IsNone, is_some}
use Rattle.std.specs.Prelude.{◌≤◌, Result, Ok, Err}
use Rattle.std.specs.Result.{result_unwrap_or}
use Rattle.std.specs.Str.{IsUtf8}
use Rattle.std.specs.Str.Parse.{AllDigits, ParsesUnsigned, digits_value}
use Rattle.std.specs.declared.cmp.Ordering.{Ordering}
use Rattle.std.proofs.Math.Seq.{take-append_seam}
use Rattle.std.proofs.lemmas.Bool.{false≢true, false_from_ne_true}
use Rattle.std.proofs.lemmas.Grind.{common_steps}
use Rattle.std.proofs.lemmas.List.{drop_all, take_all}
use Rattle.std.proofs.lemmas.List.Elements.{All-from_recursion}
use Rattle.std.proofs.lemmas.List.Sums.{position_or_len_is}
use Rattle.std.proofs.lemmas.Fmt.{IsAscii-from_digits}
use Rattle.std.proofs.lemmas.Option.{none-some}
use Rattle.std.proofs.lemmas.Str.{IsUtf8-from_ascii}
use Rattle.std.proofs.lemmas.Str.Parse.{IsNumeralModel, numerals_by_value, parse_gives, tells_digits}
use Rattle.memchr.specs.Find.{IsFirstByte}
use Rattle.osgi_version.specs.Bytes.{Each, IsBlank, IsDigit, IsWordByte}
use Rattle.osgi_version.specs.VersionReading.{parts_of}
use Rattle.osgi_version.specs.Versions.{IsBody, IsMicro, IsMinor, IsNumber, IsQualified, IsReadableVersion, NumbersFit, Parts, SpellsVersion, numbered, major, minor, micro, qualified, blank, body}
use Rattle.osgi_version.specs.declared.version.TheConstants.{MAX_NUMBER}
use Rattle.osgi_version.specs.laws.Digits.{each_digit}
use Rattle.osgi_version.specs.laws.VersionReading.{parts_read, parts_sound}
use Rattle.osgi_model.specs.computed.LongReader.{trimmed}
use Rattle.osgi_model.specs.laws.Trimming.{IsTight, trimmed-tight}
use Rattle.osgi_filter.specs.computed.Spelled.{CutsInto, IsPart, is_dot}

-- ---- cuts at dots

not_dot : (b : ℕ) → IsDigit b → is_dot b ≡ false
not_dot b e = grind (arith, common_steps)

-- what stands before the first dot, and what follows it
record IsCut (text front back : List ℕ) : Type 0 where
  front_is : before_first is_dot text ≡ front
  back_is : after_first is_dot text ≡ back

place_at : (front back : List ℕ) → Each IsDigit front → position_or_len is_dot (front ++ 46 ∷ back) ≡ length front
place_at [] back digits = refl
place_at (b ∷ front) back digits = rw (not_dot b digits.0) (omega (arith, place_at front back digits.1))

behind : (front back : List ℕ) → drop (suc (length front)) (front ++ 46 ∷ back) ≡ back
behind [] back = refl
behind (b ∷ front) back = behind front back

cut_at : (text front back : List ℕ) → text ≡ front ++ 46 ∷ back → Each IsDigit front → IsCut text front back
cut_at text front back is digits = subst (λ (x : List ℕ). IsCut x front back) (sym is) (record {
  front_is = ap (λ (n : ℕ). take n (front ++ 46 ∷ back)) (place_at front back digits) ∙ take-append_seam front (46 ∷ back);
  back_is = ap (λ (n : ℕ). drop (n + 1) (front ++ 46 ∷ back)) (place_at front back digits) ∙ ap (λ (n : ℕ). drop n (front ++ 46 ∷ back)) (add-one (length front)) ∙ behind front back;
})

no_place : (text : List ℕ) → Each IsDigit text → position_or_len is_dot text ≡ length text
no_place [] digits = refl
no_place (b ∷ text) digits = rw (not_dot b digits.0) (omega (arith, no_place text digits.1))

uncut : (text : List ℕ) → Each IsDigit text → IsCut text text []
uncut text digits = record {
  front_is = ap (λ (n : ℕ). take n text) (no_place text digits) ∙ take_all (length text) text (omega arith);
  back_is = ap (λ (n : ℕ). drop (n + 1) text) (no_place text digits) ∙ drop_all (length text + 1) text (omega arith);
}

-- the place of the first dot, from what a search for one says
pub place_none : (text : List ℕ) → IsFirstByte is_dot text None → position_or_len is_dot text ≡ length text
place_none text nowhere =
    position_or_len_is is_dot text (length text) 0 (omega arith) (λ k below. false_from_ne_true _ (nowhere k (omega arith) below)) (λ lt. absurd (omega (arith, lt)))

pub place_some : (text : List ℕ) (at : ℕ) → IsFirstByte is_dot text (Some at) → position_or_len is_dot text ≡ at
place_some text at (first, here) =
    position_or_len_is is_dot text at 0 (omega (arith, first.high)) (λ k below. false_from_ne_true _ (first.before k (omega arith) below)) (λ lt. here)

-- ---- the parts of a version

digits_of : (text : List ℕ) (n : ℕ) → IsNumber text n → Each IsDigit text
digits_of text n number = each_digit text number.numeral.1

part : (text : List ℕ) (n : ℕ) → IsNumber text n → IsPart text n
part [] n number = absurd (omega (arith, number.numeral.0))
part (b ∷ bs) n number = number

made : (text a r b s c q : List ℕ) (v : Parts) → IsCut text a r → IsCut r b s → IsCut s c q → IsPart a v.major → IsPart b v.minor → IsPart c v.micro → q ≡ v.qualifier → CutsInto text v
made text a r b s c q v first second third m i n e =
    let behind_first : after_first is_dot (after_first is_dot text) ≡ s = ap (after_first is_dot) first.back_is ∙ second.back_is in
    record {
      major = subst (λ (x : List ℕ). IsPart x v.major) (sym first.front_is) m;
      minor = subst (λ (x : List ℕ). IsPart x v.minor) (sym (ap (before_first is_dot) first.back_is ∙ second.front_is)) i;
      micro = subst (λ (x : List ℕ). IsPart x v.micro) (sym (ap (before_first is_dot) behind_first ∙ third.front_is)) n;
      qualifier = ap (after_first is_dot) behind_first ∙ third.back_is ∙ e;
    }

cuts_none : CutsInto [] (numbered 0 0 0)
cuts_none = made [] [] [] [] [] [] [] (numbered 0 0 0) (uncut [] tt) (uncut [] tt) (uncut [] tt) refl refl refl refl

cuts_major : (text : List ℕ) (m : ℕ) → IsNumber text m → CutsInto text (numbered m 0 0)
cuts_major text m number = made text text [] [] [] [] [] (numbered m 0 0) (uncut text (digits_of text m number)) (uncut [] tt) (uncut [] tt) (part text m number) refl refl refl

cuts_minor : (text : List ℕ) (m i : ℕ) → IsMinor text m i → CutsInto text (numbered m i 0)
cuts_minor text m i h =
    made text h.prefix h.digits h.digits [] [] [] (numbered m i 0) (cut_at text h.prefix h.digits h.parts (digits_of h.prefix m h.major)) (uncut h.digits (digits_of h.digits i h.number)) (uncut [] tt)
    (part h.prefix m h.major) (part h.digits i h.number) refl refl

-- a minor text with more behind it
minor_then : (prefix rest : List ℕ) (m i : ℕ) (h : IsMinor prefix m i) → prefix ++ rest ≡ h.prefix ++ 46 ∷ (h.digits ++ rest)
minor_then prefix rest m i h = ap (λ (x : List ℕ). x ++ rest) h.parts ∙ append_assoc h.prefix (46 ∷ h.digits) rest

cuts_micro : (text : List ℕ) (m i c : ℕ) → IsMicro text m i c → CutsInto text (numbered m i c)
cuts_micro text m i c h =
    let front = h.minor in
    let rest : List ℕ = front.digits ++ 46 ∷ h.digits in
    made text front.prefix rest front.digits h.digits h.digits [] (numbered m i c)
    (cut_at text front.prefix rest (h.parts ∙ minor_then h.prefix (46 ∷ h.digits) m i front) (digits_of front.prefix m front.major))
    (cut_at rest front.digits h.digits refl (digits_of front.digits i front.number))
    (uncut h.digits (digits_of h.digits c h.number))
    (part front.prefix m front.major) (part front.digits i front.number) (part h.digits c h.number) refl

cuts_qualified : (text : List ℕ) (m i c : ℕ) (q : List ℕ) → IsQualified text m i c q → CutsInto text (record { major = m; minor = i; micro = c; qualifier = q })
cuts_qualified text m i c q h =
    let middle = h.micro in
    let front = middle.minor in
    let last : List ℕ = middle.digits ++ 46 ∷ q in
    let rest : List ℕ = front.digits ++ 46 ∷ last in
    let whole : text ≡ front.prefix ++ 46 ∷ rest
    = h.parts ∙ ap (λ (x : List ℕ). x ++ 46 ∷ q) middle.parts ∙ append_assoc middle.prefix (46 ∷ middle.digits) (46 ∷ q) ∙ minor_then middle.prefix (46 ∷ last) m i front in
    made text front.prefix rest front.digits last middle.digits q (record { major = m; minor = i; micro = c; qualifier = q })
    (cut_at text front.prefix rest whole (digits_of front.prefix m front.major))
    (cut_at rest front.digits last refl (digits_of front.digits i front.number))
    (cut_at last middle.digits q refl (digits_of middle.digits c middle.number))
    (part front.prefix m front.major) (part front.digits i front.number) (part middle.digits c middle.number) refl

cuts : (text : List ℕ) (v : Parts) → IsBody text v → CutsInto text v
cuts text v (major number) = cuts_major text _ number
cuts text v (minor h) = cuts_minor text _ _ h
cuts text v (micro h) = cuts_micro text _ _ _ h
cuts text v (qualified h) = cuts_qualified text _ _ _ _ h

-- ---- white space round a version

each_joined : (P : ℕ → Type 0) (xs ys : List ℕ) → Each P xs → Each P ys → Each P (xs ++ ys)
each_joined P [] ys all others = others
each_joined P (x ∷ xs) ys all others = (all.0, each_joined P xs ys all.1 others)

each_is : (P Q : ℕ → Type 0) → ((b : ℕ) → P b → Q b) → (xs : List ℕ) → Each P xs → Each Q xs
each_is P Q f [] all = tt
each_is P Q f (x ∷ xs) all = (f x all.0, each_is P Q f xs all.1)

dark_digit : (b : ℕ) → IsDigit b → is_ascii_whitespace b ≡ false
dark_digit b e = grind (arith, common_steps)

dark_word : (b : ℕ) → IsWordByte b → is_ascii_whitespace b ≡ false
dark_word b e = grind (arith, common_steps)

white : (b : ℕ) → IsBlank b → is_ascii_whitespace b ≡ true
white b e = grind (arith, common_steps)

dark_number : (text : List ℕ) (n : ℕ) → IsNumber text n → Each (λ b. is_ascii_whitespace b ≡ false) text
dark_number text n number = each_is IsDigit (λ b. is_ascii_whitespace b ≡ false) dark_digit text (digits_of text n number)

dark_joined : (text front back : List ℕ) → text ≡ front ++ 46 ∷ back → Each (λ b. is_ascii_whitespace b ≡ false) front → Each (λ b. is_ascii_whitespace b ≡ false) back → Each (λ b. is_ascii_whitespace b ≡ false) text
dark_joined text front back e one other = subst (λ (x : List ℕ). Each (λ b. is_ascii_whitespace b ≡ false) x) (sym e) (each_joined (λ b. is_ascii_whitespace b ≡ false) front (46 ∷ back) one (refl, other))

dark_minor : (text : List ℕ) (m i : ℕ) → IsMinor text m i → Each (λ b. is_ascii_whitespace b ≡ false) text
dark_minor text m i h = dark_joined text h.prefix h.digits h.parts (dark_number h.prefix m h.major) (dark_number h.digits i h.number)

dark_micro : (text : List ℕ) (m i c : ℕ) → IsMicro text m i c → Each (λ b. is_ascii_whitespace b ≡ false) text
dark_micro text m i c h = dark_joined text h.prefix h.digits h.parts (dark_minor h.prefix m i h.minor) (dark_number h.digits c h.number)

dark_qualified : (text : List ℕ) (m i c : ℕ) (q : List ℕ) → IsQualified text m i c q → Each (λ b. is_ascii_whitespace b ≡ false) text
dark_qualified text m i c q h = dark_joined text h.prefix q h.parts (dark_micro h.prefix m i c h.micro) (each_is IsWordByte (λ b. is_ascii_whitespace b ≡ false) dark_word q h.words)

dark : (text : List ℕ) (v : Parts) → IsBody text v → Each (λ b. is_ascii_whitespace b ≡ false) text
dark text v (major number) = dark_number text _ number
dark text v (minor h) = dark_minor text _ _ h
dark text v (micro h) = dark_micro text _ _ _ h
dark text v (qualified h) = dark_qualified text _ _ _ _ h

some_joined : (text front back : List ℕ) → text ≡ front ++ 46 ∷ back → 0 < length text
some_joined text front back e = omega (arith, ap length e, length-append front (46 ∷ back))

some : (text : List ℕ) (v : Parts) → IsBody text v → 0 < length text
some text v (major number) = number.numeral.0
some text v (minor h) = some_joined text h.prefix h.digits h.parts
some text v (micro h) = some_joined text h.prefix h.digits h.parts
some text v (qualified h) = some_joined text h.prefix _ h.parts

tight : (text : List ℕ) (v : Parts) → IsBody text v → IsTight text
tight text v h =
    let at = All-from_recursion (λ b. is_ascii_whitespace b ≡ false) text (dark text v h) in
    let few : 0 < length text = some text v h in
    record { some = few; first = at 0 0 few; last = at (length text - 1) 0 (omega (arith, few)) }

all_white : (text : List ℕ) → Each IsBlank text → AllPass is_ascii_whitespace text
all_white text all = All-from_recursion (λ b. is_ascii_whitespace b ≡ true) text (each_is IsBlank (λ b. is_ascii_whitespace b ≡ true) white text all)

none_left : (text : List ℕ) → Each IsBlank text → drop (prefix_len is_ascii_whitespace text) text ≡ []
none_left [] all = refl
none_left (b ∷ text) all = rw (white b all.0, one-add) (none_left text all.1)

trimmed_blank : (text : List ℕ) → Each IsBlank text → trimmed text ≡ []
trimmed_blank text all = rw (none_left text all) refl

spelled_cuts : (text : List ℕ) (v : Parts) → SpellsVersion text v → CutsInto (trimmed text) v
spelled_cuts text v (blank all) = subst (λ (x : List ℕ). CutsInto x (numbered 0 0 0)) (sym (trimmed_blank text all)) cuts_none
spelled_cuts text v (body lead inner end e before h after) =
    subst (λ (x : List ℕ). CutsInto x v) (sym (ap trimmed e ∙ trimmed-tight lead inner end (tight inner v h) (all_white lead before) (all_white end after))) (cuts inner v h)

-- ---- numbers

own : IsNumeralModel (AllDigits 10) (digits_value 10)
own = numerals_by_value (AllDigits 10) tells_digits

-- the digits of a number are parsed as it
parsed_number : {E : Type 0} (text : List ℕ) (n : ℕ) (r : Result ℕ E) → ParsesUnsigned 32 10 text r → IsNumber text n → n ≤ MAX_NUMBER → r ≡ Ok n
parsed_number text n r parses number few =
    parse_gives own 32 text r parses number.numeral.1 number.numeral.0 (omega (arith, number.value, few)) ∙ ap Ok (sym number.value)

parsed_none : {E : Type 0} (r : Result ℕ E) → ParsesUnsigned 32 10 [] r → result_unwrap_or r 0 ≡ 0
parsed_none (Ok n) parses = absurd (omega (arith, parses.0.0.0))
parsed_none (Err e) parses = refl

pub parsed_part : {E : Type 0} (text : List ℕ) (n : ℕ) (r : Result ℕ E) → ParsesUnsigned 32 10 text r → IsPart text n → n ≤ MAX_NUMBER → result_unwrap_or r 0 ≡ n
parsed_part [] n r parses is few = parsed_none r parses ∙ sym is
parsed_part (b ∷ bs) n r parses number few = ap (λ x. result_unwrap_or x 0) (parsed_number (b ∷ bs) n r parses number few)

-- bytes that are no UTF-8 are no part
pub no_part : (text : List ℕ) (n : ℕ) → ¬ IsUtf8 text → IsPart text n → 0 ≡ n
no_part [] n other is = sym is
no_part (b ∷ bs) n other number = absurd (other (IsUtf8-from_ascii (b ∷ bs) (IsAscii-from_digits (b ∷ bs) number.numeral.1)))

-- ---- texts that read as versions

-- what any version stands to: a version that is read, with its parts
pub record IsRead (text : List ℕ) : Type 0 where
  pub version : Parts
  pub is : parts_of text ≡ Some version
  pub cut : CutsInto (trimmed text) version
  pub fits : NumbersFit version

read_by : (text : List ℕ) (r : Option Ordering) (o : Ordering) (read : Option Parts) → parts_of text ≡ read → (IsNone r ↔ ¬ IsReadableVersion text) → r ≡ Some o → IsRead text
read_by text r o None e none is =
    let nothing : is_some r ≡ false = none.1 (λ h. none-some h.0 (sym e ∙ parts_read text h.0 h.1)) in
    absurd (false≢true (sym nothing ∙ ap (λ (x : Option Ordering). is_some x) is))
read_by text r o (Some v) e none is =
    let reads = parts_sound text v e in
    record { version = v; is = e; cut = spelled_cuts text v reads.spells; fits = reads.fits }

pub compared : (text : List ℕ) (r : Option Ordering) (o : Ordering) → (IsNone r ↔ ¬ IsReadableVersion text) → r ≡ Some o → IsRead text
compared text r o none is = read_by text r o (parts_of text) refl none is

unread_by : (text : List ℕ) (r : Option Ordering) (read : Option Parts) → parts_of text ≡ read → (IsNone r ↔ ¬ IsReadableVersion text) → r ≡ None → None ≡ read
unread_by text r None e none is = refl
unread_by text r (Some v) e none is = absurd (none.0 (rw is refl) (v, parts_sound text v e))

pub incomparable : (text : List ℕ) (r : Option Ordering) → (IsNone r ↔ ¬ IsReadableVersion text) → r ≡ None → None ≡ parts_of text
incomparable text r none is = unread_by text r (parts_of text) refl none is
