-- One to ten digits are UTF-8, and their number is of 64 bits.
use Rattle.std.proofs.Common.{◌≡◌, ◌∙◌, ap, sym, arith, rules}
use Rattle.std.specs.Prelude.{true, nat_le, length, Some}
use Rattle.std.specs.Result.{result_ok}
use Rattle.std.specs.Str.Parse.{digits_value}
use Rattle.std.proofs.lemmas.Bool.{le-leb}
use Rattle.osgi_model.specs.computed.LongReader.{is_numeral}
use Rattle.osgi_model.specs.laws.Numerals.{numeral_from, numeral_utf8}
use Rattle.osgi_syntax.specs.laws.Ids.{id_of-digits, id_parsed}
use Rattle.osgi_syntax.proofs.ids.service_id.Goals as goal

pub returns-in_default : goal.returns-in_default
returns-in_default c =
    let word = c.args.word.now in
    absurd (c.in_default.ensures.cases.0 (numeral_utf8 word (numeral_from word (sym c.if-not-is_numeral.ensures.numeral))))

pub returns : goal.returns
returns c =
    let word = c.args.word.now in
    let short : nat_le (length word) 10 ≡ true = le-leb (length word) 10 (omega arith) in
    let digits : is_numeral word ≡ true = sym c.if-not-is_numeral.ensures.numeral in
    let parsed = id_parsed word c.parse.result short digits (rw c.in-Ok.ensures.cases.0 at c.parse.ensures.value.0) in
    let number : c.ok.result ≡ Some (digits_value 10 word) = c.ok.ensures.value ∙ ap result_ok parsed in
    let read = id_of-digits word short digits in
    record { id = search (rules, number, read) }
