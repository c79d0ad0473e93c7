-- A text is read as the number of 64 bits that it writes, and only as that.
use Rattle.std.proofs.Common.{◌≡◌, ◌≢◌, ◌↔◌, ℕ, suc, ◌-◌, ◌⊎◌, inl, inr, List, [], ◌∷◌, length, get_or, ap, sym, ◌∙◌, refl, arith, w64}
use Rattle.std.specs.Prelude.{Bool, true, false, ◌==◌, ◌&&◌, ◌≤ℤ◌, ℤ, pos, negsuc, FitsSigned, Option, None, Some, Result, Ok, Err}
use Rattle.std.specs.Char.{digit_value, is_ascii_whitespace}
use Rattle.std.specs.Int.{IsInRange}
use Rattle.std.specs.Result.{result_ok}
use Rattle.std.specs.Str.{IsAscii, IsUtf8}
use Rattle.std.specs.Str.Parse.{digits_value, IsNumeral, ParsesSigned, signed_digits_value, without_leading_sign}
use Rattle.std.proofs.lemmas.Bool.{and_from, and_parts, cond-false, cond-true, false_from_ne_true, ne_eqb}
use Rattle.std.proofs.lemmas.Bool.Decides.{eqb_tells, nat_tests}
use Rattle.std.proofs.lemmas.Fmt.{IsAscii-from_digits}
use Rattle.std.proofs.lemmas.Int.{ints}
use Rattle.std.proofs.lemmas.Option.{cond_some, none-some}
use Rattle.std.proofs.lemmas.Str.{IsUtf8-from_ascii}
use Rattle.std.proofs.lemmas.Str.Ascii.{IsAscii-cons}
use Rattle.std.proofs.lemmas.Str.Parse.{digit_at}
use Rattle.osgi_model.specs.laws.Numerals.{is_numeral-from, numeral_from}
use Rattle.osgi_model.specs.laws.Trimming.{IsTight, trimmed-tight, trims}
use Rattle.osgi_model.specs.computed.LongReader.{fits, is_numeral, long_of, number_of, trimmed}
use Rattle.osgi_model.specs.Longs.{IsLong, negative, positive, unsigned, Writes}

-- ---- what digits with a sign write

no_sign : (digits : List ℕ) (b : ℕ) → IsNumeral 10 digits → (digit_value b ≡ 36) → get_or digits 0 0 ≢ b
no_sign [] b numeral other is = absurd (omega (arith, numeral.0))
no_sign (d ∷ rest) b numeral other is = absurd (omega (arith, numeral.1.0, ap digit_value is, other))

unsigned_whole : (digits : List ℕ) → get_or digits 0 0 ≢ 45 → get_or digits 0 0 ≢ 43 → without_leading_sign digits ≡ digits
unsigned_whole digits no_minus no_plus =
    cond-false (get_or digits 0 0 == 45) _ _ (ne_eqb _ 45 no_minus)
    ∙ rw (ne_eqb (get_or digits 0 0) 43 no_plus) refl

-- what `text` writes is read so
pub record IsNumberOf (text : List ℕ) (number : ℤ) : Type 0 where
  pub numeral : IsNumeral 10 (without_leading_sign text)
  pub value : signed_digits_value 10 text ≡ number

pub number_written : (text : List ℕ) (number : ℤ) → Writes text number → IsNumberOf text number
number_written text number (unsigned {digits = digits} numeral) =
    let whole = unsigned_whole digits (no_sign digits 45 numeral refl) (no_sign digits 43 numeral refl) in
    record {
      numeral = rw whole numeral;
      value = cond-false (get_or digits 0 0 == 45) _ _ (ne_eqb _ 45 (no_sign digits 45 numeral refl)) ∙ ap (λ ds. pos (digits_value 10 ds)) whole;
    }
number_written text number (positive numeral) = record { numeral = numeral; value = refl }
number_written text number (negative numeral) = record { numeral = numeral; value = refl }

Tells : ℕ → ℕ → Type 0
Tells a b = ((a == b) ≡ true) × (a ≡ b) ⊎ ((a == b) ≡ false) × (a ≢ b)

written_by : (b : ℕ) (rest : List ℕ) → Tells b 45 → Tells b 43 → IsNumeral 10 (without_leading_sign (b ∷ rest)) → Writes (b ∷ rest) (signed_digits_value 10 (b ∷ rest))
unfolding Tells
written_by b rest (inl minus) plus numeral = rw minus.1 (negative {digits = rest} (rw minus.1 at numeral))
written_by b rest (inr no_minus) (inl plus) numeral = rw plus.1 (positive {digits = rest} (rw plus.1 at numeral))
written_by b rest (inr no_minus) (inr no_plus) numeral =
    let whole = unsigned_whole (b ∷ rest) no_minus.1 no_plus.1 in
    let value : signed_digits_value 10 (b ∷ rest) ≡ pos (digits_value 10 (b ∷ rest))
    = cond-false (b == 45) _ _ no_minus.0 ∙ ap (λ ds. pos (digits_value 10 ds)) whole in
    rw value (unsigned (rw whole at numeral))

pub written : (text : List ℕ) → IsNumeral 10 (without_leading_sign text) → Writes text (signed_digits_value 10 text)
unfolding Tells
written [] numeral = absurd (omega (arith, numeral.0))
written (b ∷ rest) numeral = written_by b rest (eqb_tells b 45) (eqb_tells b 43) numeral

written_ascii : (text : List ℕ) (number : ℤ) → Writes text number → IsAscii text
written_ascii text number (unsigned {digits = digits} numeral) = IsAscii-from_digits digits numeral.1
written_ascii text number (positive {digits = digits} numeral) = IsAscii-cons 43 digits (omega arith) (IsAscii-from_digits digits numeral.1)
written_ascii text number (negative {digits = digits} numeral) = IsAscii-cons 45 digits (omega arith) (IsAscii-from_digits digits numeral.1)

-- ---- what is read of them

fits_from : (number : ℤ) → fits number ≡ true → FitsSigned w64 number
fits_from number e = grind (arith, ints)

fits_pass : (number : ℤ) → FitsSigned w64 number → fits number ≡ true
fits_pass number e = grind (arith, ints)

test : List ℕ → Bool
test text = is_numeral (without_leading_sign text) && fits (signed_digits_value 10 text)

-- what std reads is what is computed here
pub number_parsed : {E : Type 0} (text : List ℕ) (r : Result ℤ E) → ParsesSigned w64 10 text r → result_ok r ≡ number_of text
unfolding test
number_parsed text (Ok number) parses =
    let passes : test text ≡ true = and_from _ _ (is_numeral-from (without_leading_sign text) parses.0.0) (fits_pass (signed_digits_value 10 text) parses.0.1) in
    ap Some parses.1 ∙ sym (cond-true (test text) _ _ passes)
number_parsed text (Err e) parses =
    let fails : test text ≡ false
    = false_from_ne_true (test text) (λ passes.
    let parts = and_parts (is_numeral (without_leading_sign text)) (fits (signed_digits_value 10 text)) passes in
    parses (numeral_from (without_leading_sign text) parts.0, fits_from (signed_digits_value 10 text) parts.1)) in
    sym (cond-false (test text) _ _ fails)

-- bytes that are no UTF-8 write no number
pub no_number : (text : List ℕ) → ¬ IsUtf8 text → None ≡ number_of text
unfolding test
no_number text other =
    let fails : test text ≡ false
    = false_from_ne_true (test text) (λ passes.
    let parts = and_parts (is_numeral (without_leading_sign text)) (fits (signed_digits_value 10 text)) passes in
    other (IsUtf8-from_ascii text (written_ascii text _ (written text (numeral_from (without_leading_sign text) parts.0))))) in
    sym (cond-false (test text) _ _ fails)

-- ---- numbers of 64 bits

digit_tight : (b : ℕ) → IsInRange 48 57 b → is_ascii_whitespace b ≡ false
digit_tight b range = grind (arith, nat_tests)

tight_digits : (digits : List ℕ) → IsNumeral 10 digits → IsTight digits
tight_digits digits numeral = record {
  some = numeral.0;
  first = digit_tight _ (digit_at digits 0 numeral.1 numeral.0);
  last = digit_tight _ (digit_at digits (length digits - 1) numeral.1 (omega (arith, numeral.0)));
}

tight_behind : (sign : ℕ) (digits : List ℕ) → is_ascii_whitespace sign ≡ false → IsTight digits → IsTight (sign ∷ digits)
tight_behind sign [] tells tight = absurd (omega (arith, tight.some))
tight_behind sign (b ∷ rest) tells tight = record {
  some = omega arith;
  first = tells;
  last =
      let e : suc (suc (length rest)) - 1 ≡ suc (length rest) = omega arith in
      let f : suc (length rest) - 1 ≡ length rest = omega arith in
      rw e (rw f at tight.last);
}

written_tight : (text : List ℕ) (number : ℤ) → Writes text number → IsTight text
written_tight text number (unsigned {digits = digits} numeral) = tight_digits digits numeral
written_tight text number (positive {digits = digits} numeral) = tight_behind 43 digits refl (tight_digits digits numeral)
written_tight text number (negative {digits = digits} numeral) = tight_behind 45 digits refl (tight_digits digits numeral)

-- a number is within 64 bits just where it passes the test
least_from : (number : ℤ) → fits number ≡ true → negsuc 9223372036854775807 ≤ℤ number
least_from number e = grind (arith, ints)

greatest_from : (number : ℤ) → fits number ≡ true → number ≤ℤ pos 9223372036854775807
greatest_from number e = grind (arith, ints)

fits_within : (number : ℤ) → negsuc 9223372036854775807 ≤ℤ number → number ≤ℤ pos 9223372036854775807 → fits number ≡ true
fits_within number least greatest = grind (arith, ints)

pub long_sound : (text : List ℕ) (number : ℤ) → long_of text ≡ Some number → IsLong text number
unfolding test
long_sound text number e =
    let read = cond_some (test (trimmed text)) (signed_digits_value 10 (trimmed text)) number e in
    let parts = and_parts (is_numeral (without_leading_sign (trimmed text))) (fits (signed_digits_value 10 (trimmed text))) read.0 in
    let around = trims text in
    record {
      before = around.before;
      written = trimmed text;
      remainder = around.remainder;
      is = around.is;
      white_before = around.white_before;
      white_after = around.white_after;
      writes = rw (← read.1) (written (trimmed text) (numeral_from (without_leading_sign (trimmed text)) parts.0));
      least = rw (← read.1) (least_from (signed_digits_value 10 (trimmed text)) parts.1);
      greatest = rw (← read.1) (greatest_from (signed_digits_value 10 (trimmed text)) parts.1);
    }

number_read : (text : List ℕ) (number : ℤ) → IsNumberOf text number → fits number ≡ true → number_of text ≡ Some number
unfolding test
number_read text number is within =
    let passes : test text ≡ true
    = and_from _ _ (is_numeral-from (without_leading_sign text) is.numeral) (ap fits is.value ∙ within) in
    cond-true (test text) _ _ passes ∙ ap Some is.value

pub long_read : (text : List ℕ) (number : ℤ) → IsLong text number → long_of text ≡ Some number
long_read text number long =
    let tight = written_tight long.written number long.writes in
    ap long_of long.is
    ∙ ap number_of (trimmed-tight long.before long.written long.remainder tight long.white_before long.white_after)
    ∙ number_read long.written number (number_written long.written number long.writes) (fits_within number long.least long.greatest)

-- what gives just the numbers that a text writes is what is computed
read_by : (text : List ℕ) (o : Option ℤ) → long_of text ≡ o → ((number : ℤ) → IsLong text number → ⊥) → None ≡ o
read_by text None e no_long = refl
read_by text (Some number) e no_long = absurd (no_long number (long_sound text number e))

pub read_is : (text : List ℕ) (r : Option ℤ) → ((number : ℤ) → (r ≡ Some number) ↔ IsLong text number) → r ≡ long_of text
read_is text None reads = read_by text (long_of text) refl (λ number long. absurd (none-some number ((reads number).1 long)))
read_is text (Some number) reads = sym (long_read text number ((reads number).0 refl))
