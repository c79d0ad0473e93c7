-- Decimal digits are read as the id of a service.
use Rattle.std.proofs.Common.{◌≡◌, ◌<◌, ◌^◌, ℕ, List, length, subst, ap, sym, ◌∙◌, refl, arith}
use Rattle.std.specs.Prelude.{true, ◌&&◌, nat_le, nat_lt, Option, None, Some, Result, Ok}
use Rattle.std.specs.Str.Parse.{AllDigits, digits_value, ParsesUnsigned}
use Rattle.std.proofs.lemmas.Bool.{and_from, and_parts, cond-true, le-leb, leb-true, lt-ltb, ltb-true}
use Rattle.std.proofs.lemmas.Option.{cond_some}
use Rattle.std.proofs.lemmas.Str.Parse.{digits_value_short, IsNumeralModel, numerals_by_value, parse_gives, tells_digits}
use Rattle.osgi_base.specs.declared.ids.BundleId.{BundleId}
use Rattle.osgi_base.specs.declared.ids.ServiceId.{ServiceId}
use Rattle.osgi_model.specs.laws.Numerals.{digits_pass, is_numeral-from, numeral_from}
use Rattle.osgi_model.specs.computed.LongReader.{is_decimal, is_numeral}
use Rattle.osgi_syntax.specs.laws.Whole.{bare_by, whole_bare}
use Rattle.osgi_syntax.specs.WordReader.{bundle_by, bundle_id_of, service_id_of}
use Rattle.osgi_syntax.specs.LineWords.{IsLineWord}
use Rattle.osgi_syntax.specs.Words.{IsBundleId, IsId}

-- std's words for digits and their number
pub own : IsNumeralModel (AllDigits 10) (digits_value 10)
own = numerals_by_value (AllDigits 10) tells_digits

-- ---- ids

-- up to ten digits are read as their number
pub id_parsed : {E : Type 0} (word : List ℕ) (r : Result ℕ E) → nat_le (length word) 10 ≡ true → is_numeral word ≡ true → ParsesUnsigned 64 10 word r → r ≡ Ok (digits_value 10 word)
id_parsed word r short digits parses =
    let numeral = numeral_from word digits in
    parse_gives own 64 word r parses numeral.1 numeral.0 (omega (arith, digits_value_short own word 10 numeral.1 (leb-true (length word) 10 short)))

pub id_sound : (word : List ℕ) (service : ServiceId) → service_id_of word ≡ Some service → IsId word service
id_sound word service e =
    let read = cond_some (nat_le (length word) 10 && is_numeral word) (record { 0 = digits_value 10 word }) service e in
    let tests = and_parts (nat_le (length word) 10) (is_numeral word) read.0 in
    record { numeral = numeral_from word tests.1; short = leb-true (length word) 10 tests.0; number = ap (λ (s : ServiceId). s.0) (sym read.1) }

pub id_of-digits : (word : List ℕ) → nat_le (length word) 10 ≡ true → is_numeral word ≡ true → service_id_of word ≡ Some (record { 0 = digits_value 10 word })
id_of-digits word short digits = cond-true _ _ _ (and_from (nat_le (length word) 10) (is_numeral word) short digits)

pub id_read : (word : List ℕ) (service : ServiceId) → IsId word service → service_id_of word ≡ Some service
id_read word service id =
    let same : ◌≡◌ {A = ServiceId} (record { 0 = digits_value 10 word }) service = λ i. record { 0 = sym id.number i } in
    id_of-digits word (le-leb (length word) 10 id.short) (is_numeral-from word id.numeral) ∙ ap Some same

pub whole_id : (word : List ℕ) (service : ServiceId) → IsId word service → IsLineWord word
whole_id word service id = whole_bare word id.numeral.0 (bare_by is_decimal word refl refl (digits_pass word id.numeral.1))

-- ---- ids of bundles

-- the same digits as the id of a service
as_service : (word : List ℕ) (bundle : BundleId) → IsBundleId word bundle → IsId word (record { 0 = digits_value 10 word })
as_service word bundle id = record { numeral = id.numeral; short = id.short; number = refl }

bundle_sound_by : (word : List ℕ) (number : Option ServiceId) (bundle : BundleId) → service_id_of word ≡ number → bundle_by number ≡ Some bundle → IsBundleId word bundle
bundle_sound_by word None bundle is e = absurd (cc e)
bundle_sound_by word (Some service) bundle is e =
    let id = id_sound word service is in
    let read = cond_some (nat_lt service.0 (2 ^ 32)) (record { 0 = service.0 }) bundle e in
    record {
      numeral = id.numeral;
      short = id.short;
      fits = subst (λ n. n < 2 ^ 32) id.number (ltb-true service.0 (2 ^ 32) read.0);
      number = ap (λ (b : BundleId). b.0) (sym read.1) ∙ id.number;
    }

pub bundle_id_sound : (word : List ℕ) (bundle : BundleId) → bundle_id_of word ≡ Some bundle → IsBundleId word bundle
bundle_id_sound word bundle e = bundle_sound_by word (service_id_of word) bundle refl e

pub bundle_id_read : (word : List ℕ) (bundle : BundleId) → IsBundleId word bundle → bundle_id_of word ≡ Some bundle
bundle_id_read word bundle id =
    let same : ◌≡◌ {A = BundleId} (record { 0 = digits_value 10 word }) bundle = λ i. record { 0 = sym id.number i } in
    ap bundle_by (id_read word (record { 0 = digits_value 10 word }) (as_service word bundle id))
    ∙ cond-true _ _ _ (lt-ltb (digits_value 10 word) (2 ^ 32) id.fits) ∙ ap Some same

pub whole_bundle_id : (word : List ℕ) (bundle : BundleId) → IsBundleId word bundle → IsLineWord word
whole_bundle_id word bundle id = whole_id word (record { 0 = digits_value 10 word }) (as_service word bundle id)
