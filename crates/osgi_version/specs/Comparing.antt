-- Versions compared, one part after another.
use mathlib.Core.HLevel.{is_prop→PathP, ×₃_prop}
use Rattle.std.specs.Prelude.{◌≡◌, ◌≤◌, ◌==◌, Bool, nat_eq}
use Rattle.std.specs.Bool.{Decides}
use Rattle.std.specs.Cmp.{both_tied, IsTotalOrder, nat_cmp_total, on_total, then_total, unsigned_ties}
use Rattle.std.specs.Cmp.Lexicographic.{slice_cmp, pointwise, bytes_decides, on_texts, texts_ties}
use Rattle.std.specs.Coded.{le_prop}
use Rattle.std.specs.Ordering.{eq_by_cmp, eq_of_both, nat_cmp, on, then_cmp}
use Rattle.std.specs.declared.cmp.Ordering.{Ordering}
use Rattle.std.proofs.Common.{ap}
use Rattle.std.proofs.lemmas.Bool.Decides.{Decides-and, Decides-eqb, Decides-like}
use Rattle.osgi_version.specs.VersionValues.{parts}
use Rattle.osgi_version.specs.declared.version.TheConstants.{MAX_NUMBER}
use Rattle.osgi_version.specs.declared.version.Version.{Version}

abbrev pub version_eq : Version → Version → Bool
version_eq =
    eq_of_both (on (λ v. v.major) nat_eq)
    (eq_of_both (on (λ v. v.minor) nat_eq)
    (eq_of_both (on (λ v. v.micro) nat_eq) (on (λ v. v.qualifier) (pointwise ◌==◌))))

-- the order of what they say
abbrev pub version_cmp : Version → Version → Ordering
version_cmp =
    then_cmp (on (λ v. v.major) nat_cmp)
    (then_cmp (on (λ v. v.minor) nat_cmp)
    (then_cmp (on (λ v. v.micro) nat_cmp) (on (λ v. v.qualifier) (slice_cmp nat_cmp))))

-- a version is what it says
pub same_parts : (v w : Version) → parts v ≡ parts w → v ≡ w
same_parts v w e = λ i. record {
  major = (e i).major;
  minor = (e i).minor;
  micro = (e i).micro;
  qualifier = (e i).qualifier;
  in_range =
      is_prop→PathP (λ j. ((e j).major ≤ MAX_NUMBER) × ((e j).minor ≤ MAX_NUMBER) × ((e j).micro ≤ MAX_NUMBER)) (λ j. ×₃_prop le_prop le_prop le_prop)
      v.in_range w.in_range i;
}

pub exact_version : (v w : Version) → Decides (version_eq v w) (v ≡ w)
exact_version v w =
    Decides-like (version_eq v w)
    (λ e. same_parts v w (λ i. record { major = e.0 i; minor = e.1.0 i; micro = e.1.1.0 i; qualifier = e.1.1.1 i }))
    (λ e. (ap (λ (x : Version). x.major) e, (ap (λ (x : Version). x.minor) e, (ap (λ (x : Version). x.micro) e, ap (λ (x : Version). x.qualifier) e))))
    (Decides-and _ _ (Decides-eqb v.major w.major)
    (Decides-and _ _ (Decides-eqb v.minor w.minor) (Decides-and _ _ (Decides-eqb v.micro w.micro) (bytes_decides v.qualifier w.qualifier))))

pub version_total : IsTotalOrder version_cmp
version_total =
    then_total (on_total (λ (v : Version). v.major) nat_cmp_total)
    (then_total (on_total (λ (v : Version). v.minor) nat_cmp_total)
    (then_total (on_total (λ (v : Version). v.micro) nat_cmp_total) (on_texts (λ (v : Version). v.qualifier))))

-- versions are equal where neither comes before the other
pub version_ties : (v w : Version) → version_eq v w ≡ eq_by_cmp version_cmp v w
version_ties v w =
    both_tied _ _ _ _ (unsigned_ties v.major w.major)
    (both_tied _ _ _ _ (unsigned_ties v.minor w.minor) (both_tied _ _ _ _ (unsigned_ties v.micro w.micro) (texts_ties v.qualifier w.qualifier)))
