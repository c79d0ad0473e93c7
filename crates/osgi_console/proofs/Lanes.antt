-- A word is read as the number of a lane that it is, and only as that.
use Rattle.std.proofs.Common.{◌≡◌, ℕ, ◌≤◌, List, ap, sym, ◌∙◌, refl, subst}
use Rattle.std.specs.Prelude.{◌||◌, Bool, true, false, cond, nat_lt, Option, None, Some}
use Rattle.std.specs.Str.Parse.{digits_value}
use Rattle.std.proofs.lemmas.Bool.{cond-false, le-ltb, ltb-false, or_from, or_parts}
use Rattle.osgi_base.specs.declared.ids.ServiceId.{ServiceId}
use Rattle.osgi_console.specs.Console.{IsLane}
use Rattle.osgi_console.specs.computed.LineReader.{lane_by, lane_of}
use Rattle.osgi_syntax.specs.laws.Ids.{id_read, id_sound, whole_id}
use Rattle.osgi_syntax.specs.LineWords.{IsLineWord}
use Rattle.osgi_syntax.specs.WordReader.{service_id_of}
use Rattle.osgi_syntax.specs.Words.{IsId}

none_or : (b : Bool) (x y : ℕ) → cond b None (Some x) ≡ Some y → (b ≡ false) × (x ≡ y)
none_or true x y e = absurd (cc e)
none_or false x y e = (refl, cc e)

lane_sound_by : (lanes : ℕ) (word : List ℕ) (number : Option ServiceId) (lane : ℕ) → service_id_of word ≡ number → lane_by lanes number ≡ Some lane → IsLane lanes word lane
lane_sound_by lanes word None lane is e = absurd (cc e)
lane_sound_by lanes word (Some service) lane is e =
    let id = id_sound word service is in
    let read = none_or (nat_lt service.0 1 || nat_lt lanes service.0) service.0 lane e in
    let within = or_parts (nat_lt service.0 1) (nat_lt lanes service.0) read.0 in
    record {
      numeral = id.numeral;
      short = id.short;
      some = subst (λ n. 1 ≤ n) id.number (ltb-false service.0 1 within.0);
      fits = subst (λ n. n ≤ lanes) id.number (ltb-false lanes service.0 within.1);
      number = sym read.1 ∙ id.number;
    }

pub lane_sound : (lanes : ℕ) (word : List ℕ) (lane : ℕ) → lane_of lanes word ≡ Some lane → IsLane lanes word lane
lane_sound lanes word lane e = lane_sound_by lanes word (service_id_of word) lane refl e

-- the same digits as the id of a service
as_service : (lanes : ℕ) (word : List ℕ) (lane : ℕ) → IsLane lanes word lane → IsId word (record { 0 = digits_value 10 word })
as_service lanes word lane is = record { numeral = is.numeral; short = is.short; number = refl }

pub lane_read : (lanes : ℕ) (word : List ℕ) (lane : ℕ) → IsLane lanes word lane → lane_of lanes word ≡ Some lane
lane_read lanes word lane is =
    ap (lane_by lanes) (id_read word (record { 0 = digits_value 10 word }) (as_service lanes word lane is))
    ∙ cond-false _ _ _ (or_from _ _ (le-ltb (digits_value 10 word) 1 is.some) (le-ltb lanes (digits_value 10 word) is.fits)) ∙ ap Some (sym is.number)

pub whole_lane : (lanes : ℕ) (word : List ℕ) (lane : ℕ) → IsLane lanes word lane → IsLineWord word
whole_lane lanes word lane is = whole_id word (record { 0 = digits_value 10 word }) (as_service lanes word lane is)
