-- A text is read as the version that it reads as, and only as that.
use Rattle.std.proofs.Common.{◌≡◌, ◌≤◌, ℕ, List, ap, sym, ◌∙◌, refl, subst}
use Rattle.std.specs.Prelude.{Bool, true, false, Option, None, Some, option_and_then, Result, Ok, Err, nat_le, ◌&&◌}
use Rattle.std.specs.Result.{result_ok, IsOkAnd, MatchResult}
use Rattle.std.proofs.Math.Bridge.{le_prop}
use Rattle.std.proofs.lemmas.Bool.{and_from, le-leb}
use Rattle.std.proofs.lemmas.Option.{option_and_then_some, same_Some}
use Rattle.osgi_version.specs.VersionReading.{parts_of}
use Rattle.osgi_version.specs.laws.VersionReading.{parts_read, parts_sound}
use Rattle.osgi_version.specs.VersionValues.{parts}
use Rattle.osgi_version.specs.Versions.{Parts, ReadsVersion}
use Rattle.osgi_version.specs.declared.version.TheConstants.{MAX_NUMBER}
use Rattle.osgi_version.specs.declared.version.Version.{Version}
use Rattle.osgi_model.specs.computed.VersionReader.{is_within, version_by, version_of, version_with}

with_by : (v : Parts) (test : Bool) (e : is_within v ≡ test) (w : Version) → version_by v test e ≡ Some w → parts w ≡ v
with_by v true e w made = ap parts (sym (same_Some _ _ made))
with_by v false e w made = absurd (cc made)

pub version_sound : (text : List ℕ) (w : Version) → version_of text ≡ Some w → ReadsVersion text (parts w)
version_sound text w e =
    option_and_then_some version_with (parts_of text) w e
    (λ v read made. subst (ReadsVersion text) (sym (with_by v (is_within v) refl w made)) (parts_sound text v read))

within_one : {a b c n : ℕ} (x y : (a ≤ n) × (b ≤ n) × (c ≤ n)) → x ≡ y
within_one x y = λ i. (le_prop x.0 y.0 i, le_prop x.1 y.1 i, le_prop x.2 y.2 i)

is_within-from : (w : Version) → is_within (parts w) ≡ true
is_within-from w =
    and_from (nat_le w.major MAX_NUMBER) (nat_le w.minor MAX_NUMBER && nat_le w.micro MAX_NUMBER) (le-leb w.major MAX_NUMBER w.in_range.0)
    (and_from (nat_le w.minor MAX_NUMBER) (nat_le w.micro MAX_NUMBER) (le-leb w.minor MAX_NUMBER w.in_range.1) (le-leb w.micro MAX_NUMBER w.in_range.2))

with_read : (w : Version) (test : Bool) (e : is_within (parts w) ≡ test) → version_by (parts w) test e ≡ Some w
with_read w true e =
    ap (λ within. Some (record { major = w.major; minor = w.minor; micro = w.micro; qualifier = w.qualifier; in_range = within })) (within_one _ w.in_range)
with_read w false e = absurd (cc (e, is_within-from w))

pub version_read : (text : List ℕ) (w : Version) → ReadsVersion text (parts w) → version_of text ≡ Some w
version_read text w reads = ap (option_and_then version_with) (parts_read text (parts w) reads) ∙ with_read w (is_within (parts w)) refl

-- what is parsed is what is computed here
no_version : (text : List ℕ) (o : Option Version) → version_of text ≡ o → ((v : Parts) → ReadsVersion text v → ⊥) → None ≡ o
no_version text None e none = refl
no_version text (Some w) e none = absurd (none (parts w) (version_sound text w e))

pub version_parsed : {E : Type 0} (Fault : E → Type 0) (text : List ℕ) (r : Result Version E) → MatchResult r (λ w. ReadsVersion text (parts w)) Fault →
    ((v : Parts) → ReadsVersion text v → IsOkAnd r (λ w. parts w ≡ v)) → result_ok r ≡ version_of text
version_parsed Fault text (Ok w) reads only = sym (version_read text w reads)
version_parsed Fault text (Err fault) reads only = no_version text (version_of text) refl only
