-- What is computed of a text that may be a version. No promise of this crate speaks of this.
-- The laws in `VersionTexts` show that it is the version that the text reads as.
use Rattle.std.specs.Prelude.{ℕ, ◌≡◌, ◌&&◌, refl, nat_le, Bool, true, false, List, Option, None, Some, option_and_then}
use Rattle.std.proofs.lemmas.Bool.{and_parts, leb-true}
use Rattle.osgi_version.specs.VersionReading.{parts_of}
use Rattle.osgi_version.specs.Versions.{Parts}
use Rattle.osgi_version.specs.declared.version.TheConstants.{MAX_NUMBER}
use Rattle.osgi_version.specs.declared.version.Version.{Version}

-- no number is too large
abbrev pub is_within : Parts → Bool
is_within v = nat_le v.major MAX_NUMBER && (nat_le v.minor MAX_NUMBER && nat_le v.micro MAX_NUMBER)

abbrev pub version_by : (v : Parts) (test : Bool) → is_within v ≡ test → Option Version
version_by v true within =
    let first = and_parts (nat_le v.major MAX_NUMBER) (nat_le v.minor MAX_NUMBER && nat_le v.micro MAX_NUMBER) within in
    let second = and_parts (nat_le v.minor MAX_NUMBER) (nat_le v.micro MAX_NUMBER) first.1 in
    Some (record {
      major = v.major;
      minor = v.minor;
      micro = v.micro;
      qualifier = v.qualifier;
      in_range = (leb-true v.major MAX_NUMBER first.0, leb-true v.minor MAX_NUMBER second.0, leb-true v.micro MAX_NUMBER second.1);
    })
version_by v false within = None

abbrev pub version_with : Parts → Option Version
version_with v = version_by v (is_within v) refl

abbrev pub version_of : List ℕ → Option Version
version_of text = option_and_then version_with (parts_of text)
