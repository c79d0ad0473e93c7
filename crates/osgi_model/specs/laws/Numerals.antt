-- Decimal digits, as they are tested and as they are said.
use Rattle.std.proofs.Common.{◌≡◌, ℕ, List, [], ◌∷◌, length, sym, ◌∙◌, arith}
use Rattle.std.specs.Prelude.{true, ◌==◌}
use Rattle.std.specs.Char.{digit_value}
use Rattle.std.specs.List.{AllPass, list_all}
use Rattle.std.specs.Str.{IsUtf8}
use Rattle.std.specs.Str.Parse.{AllDigits, IsNumeral}
use Rattle.std.proofs.lemmas.Bool.{cond-false, lt-ltb, ltb-true, ne_eqb}
use Rattle.std.proofs.lemmas.Fmt.{IsAscii-from_digits}
use Rattle.std.proofs.lemmas.List.Elements.{All-cons, All-head, All-tail}
use Rattle.std.proofs.lemmas.List.Sums.{AllPass-from_list_all, list_all-from_AllPass}
use Rattle.std.proofs.lemmas.Str.{IsUtf8-from_ascii}
use Rattle.osgi_model.specs.computed.LongReader.{is_decimal, is_numeral}

digits_from : (ds : List ℕ) → AllPass is_decimal ds → AllDigits 10 ds
digits_from [] all = tt
digits_from (b ∷ ds) all =
    (ltb-true (digit_value b) 10 (All-head (λ x. is_decimal x ≡ true) b ds all), digits_from ds (All-tail (λ x. is_decimal x ≡ true) b ds all))

pub digits_pass : (ds : List ℕ) → AllDigits 10 ds → AllPass is_decimal ds
digits_pass [] all = λ k d below. absurd (omega arith)
digits_pass (b ∷ ds) all = All-cons (λ x. is_decimal x ≡ true) b ds (lt-ltb (digit_value b) 10 all.0) (digits_pass ds all.1)

not_empty : (b : ℕ) (rest : List ℕ) → is_numeral (b ∷ rest) ≡ list_all is_decimal (b ∷ rest)
not_empty b rest = cond-false (length (b ∷ rest) == 0) _ _ (ne_eqb _ 0 (λ e. absurd (omega (arith, e))))

pub numeral_from : (ds : List ℕ) → is_numeral ds ≡ true → IsNumeral 10 ds
numeral_from [] e = absurd (cc e)
numeral_from (b ∷ rest) e = (omega arith, digits_from (b ∷ rest) (AllPass-from_list_all is_decimal (b ∷ rest) (sym (not_empty b rest) ∙ e)))

pub is_numeral-from : (ds : List ℕ) → IsNumeral 10 ds → is_numeral ds ≡ true
is_numeral-from [] numeral = absurd (omega (arith, numeral.0))
is_numeral-from (b ∷ rest) numeral = not_empty b rest ∙ list_all-from_AllPass is_decimal (b ∷ rest) (digits_pass (b ∷ rest) numeral.1)

pub numeral_utf8 : (ds : List ℕ) → IsNumeral 10 ds → IsUtf8 ds
numeral_utf8 ds numeral = IsUtf8-from_ascii ds (IsAscii-from_digits ds numeral.1)
