-- What is printed of a version or a range reads as it.
use Rattle.std.proofs.Common.{◌≡◌, ◌≤◌, ◌<◌, ◌+◌, ◌/◌, ◌%◌, ℕ, Bool, true, false, if◌then◌else◌, List, [], ◌∷◌, ◌++◌, refl, ◌∙◌, sym, append_assoc, arith}
use Rattle.std.specs.Fmt.{decimal}
use Rattle.std.proofs.lemmas.Fmt.{decimal_by_steps}
use Rattle.std.proofs.lemmas.List.{append-nil}
use Rattle.std.proofs.lemmas.Grind.{common_steps}
use Rattle.osgi_version.specs.Bytes.{Each, IsDigit, IsWordByte}
use Rattle.osgi_version.specs.RangeValues.{range_text}
use Rattle.osgi_version.specs.Ranges.{RangeParts, Opens, Closes, IsRangeOf, plain, bounded}
use Rattle.osgi_version.specs.VersionValues.{qualifier_text, parts_text}
use Rattle.osgi_version.specs.Versions.{Parts, IsNumber, IsMinor, IsMicro, IsBody, major, minor, micro, qualified, SpellsVersion, blank, body, NumbersFit, ReadsVersion}
use Rattle.osgi_version.specs.declared.version.TheConstants.{MAX_NUMBER}
use Rattle.osgi_version.specs.laws.Capping.{grown}
use Rattle.osgi_version.specs.laws.VersionSeen.{one_digit, digit_push}

digit_byte : (k : ℕ) → k < 10 → IsDigit (48 + k)
digit_byte k h = grind (arith, common_steps)

pub decimal_number : (n : ℕ) → n ≤ MAX_NUMBER → IsNumber (decimal n) n
decimal_number n h = decimal_by_steps (λ n ds. IsNumber ds n) one step n (omega arith)
  where
    one : (n : ℕ) → n < 10 → IsNumber ((48 + n) ∷ []) n
    one n lt = let e : grown 0 (48 + n) ≡ n = omega arith in rw e at (one_digit (48 + n) (digit_byte n lt))

    step : (n : ℕ) (ds : List ℕ) → 10 ≤ n → IsNumber ds (n / 10) → IsNumber (ds ++ ((48 + n % 10) ∷ [])) n
    step n ds le again = let e : grown (n / 10) (48 + n % 10) ≡ n = omega arith in rw e at (digit_push ds (n / 10) (48 + n % 10) again (digit_byte (n % 10) (omega arith)))

body_words : (text : List ℕ) (v : Parts) → IsBody text v → Each IsWordByte v.qualifier
body_words text v (major h) = tt
body_words text v (minor h) = tt
body_words text v (micro h) = tt
body_words text v (qualified h) = h.words

-- a qualifier that was read
pub words : (text : List ℕ) (v : Parts) → SpellsVersion text v → Each IsWordByte v.qualifier
words text v (blank h) = tt
words text v (body lead inner end parts ls h bs) = body_words inner v h

print_body : (m i n : ℕ) (q : List ℕ) → m ≤ MAX_NUMBER → i ≤ MAX_NUMBER → n ≤ MAX_NUMBER → Each IsWordByte q → IsBody (decimal m ++ 46 ∷ (decimal i ++ 46 ∷ (decimal n ++ qualifier_text q))) (record { major = m; minor = i; micro = n; qualifier = q })
print_body m i n q hm hi hn hq =
    let b : IsMinor (decimal m ++ 46 ∷ decimal i) m i = record { prefix = decimal m; digits = decimal i; parts = refl; major = decimal_number m hm; number = decimal_number i hi } in
    let c : IsMicro ((decimal m ++ 46 ∷ decimal i) ++ 46 ∷ decimal n) m i n = record { prefix = decimal m ++ 46 ∷ decimal i; digits = decimal n; parts = refl; minor = b; number = decimal_number n hn } in
    rw (sym (shape (decimal m) (decimal i) (decimal n) (qualifier_text q))) (with_qualifier q hq c)
  where
    shape : (x y z r : List ℕ) → ((x ++ 46 ∷ y) ++ 46 ∷ z) ++ r ≡ x ++ 46 ∷ (y ++ 46 ∷ (z ++ r))
    shape x y z r = append_assoc (x ++ 46 ∷ y) (46 ∷ z) r ∙ append_assoc x (46 ∷ y) (46 ∷ (z ++ r))

    with_qualifier : (q : List ℕ) → Each IsWordByte q → IsMicro ((decimal m ++ 46 ∷ decimal i) ++ 46 ∷ decimal n) m i n → IsBody (((decimal m ++ 46 ∷ decimal i) ++ 46 ∷ decimal n) ++ qualifier_text q) (record { major = m; minor = i; micro = n; qualifier = q })
    with_qualifier [] h c = rw append-nil (micro c)
    with_qualifier (b ∷ q) h c = qualified (record { prefix = (decimal m ++ 46 ∷ decimal i) ++ 46 ∷ decimal n; parts = refl; micro = c; some = omega arith; words = h })

-- what is printed of a version reads as that version
pub print_reads : (v : Parts) → NumbersFit v → Each IsWordByte v.qualifier → ReadsVersion (parts_text v) v
print_reads v f w = record { spells = body [] (parts_text v) [] (sym (append-nil (parts_text v))) tt (print_body v.major v.minor v.micro v.qualifier f.major f.minor f.micro w) tt; fits = f }

print_again : (bytes : List ℕ) (v : Parts) → ReadsVersion bytes v → ReadsVersion (parts_text v) v
print_again bytes v h = print_reads v h.fits (words bytes v h.spells)

opens_if : (x : Bool) → Opens (if x then 91 else 40) x
opens_if true = Opens.square
opens_if false = Opens.round

closes_if : (x : Bool) → Closes (if x then 93 else 41) x
closes_if true = Closes.square
closes_if false = Closes.round

pub print_range_reads : (bytes : List ℕ) (r : RangeParts) → IsRangeOf ReadsVersion bytes r → IsRangeOf ReadsVersion (range_text r) r
print_range_reads bytes r (plain {v = v} h) = plain (print_again bytes v h)
print_range_reads bytes r (bounded {low = low} {high = high} {low_in = low_in} {high_in = high_in} h) = bounded (record {
  lead = [];
  open_byte = if low_in then 91 else 40;
  low_text = parts_text low;
  high_text = parts_text high;
  close_byte = if high_in then 93 else 41;
  tail = [];
  parts = refl;
  lead_blanks = tt;
  opens = opens_if low_in;
  low_reads = print_again h.low_text low h.low_reads;
  high_reads = print_again h.high_text high h.high_reads;
  closes = closes_if high_in;
  tail_blanks = tt;
})
