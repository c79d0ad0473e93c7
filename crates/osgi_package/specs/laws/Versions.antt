-- A text reads as a version where what is computed of it is one.
use Rattle.std.proofs.Common.{◌≡◌, ℕ, List, sym, ◌∙◌, refl, subst, arith}
use Rattle.std.specs.Prelude.{None, Some}
use Rattle.osgi_model.specs.computed.VersionReader.{version_of}
use Rattle.osgi_model.specs.laws.VersionTexts.{version_read, version_sound}
use Rattle.osgi_version.specs.declared.version.Version.{Version}
use Rattle.osgi_version.specs.Versions.{NumbersFit, IsReadableVersion, Parts, ReadsVersion}
use Rattle.osgi_version.specs.VersionValues.{parts}

made : (v : Parts) → NumbersFit v → Version
made v fits = record {
  major = v.major;
  minor = v.minor;
  micro = v.micro;
  qualifier = v.qualifier;
  in_range = (omega (arith, fits.major), omega (arith, fits.minor), omega (arith, fits.micro));
}

made_parts : (v : Parts) (fits : NumbersFit v) → parts (made v fits) ≡ v
unfolding made
made_parts v fits = refl

pub unread : (text : List ℕ) → version_of text ≡ None → ¬ IsReadableVersion text
unread text e readable =
    let v : Parts = readable.0 in
    let reads : ReadsVersion text v = readable.1 in
    cc (sym e ∙ version_read text (made v reads.fits) (subst (ReadsVersion text) (sym (made_parts v reads.fits)) reads))

pub readable : (text : List ℕ) (w : Version) → version_of text ≡ Some w → IsReadableVersion text
readable text w e = (parts w, version_sound text w e)
