-- Keys: locations, and names with versions. Keys that tie are the same.
use Rattle.std.proofs.Common.{◌≡◌, ℕ, List, ap, sym, ◌∙◌, refl}
use Rattle.std.specs.Prelude.{Bool, true, false, ◌&&◌}
use Rattle.std.specs.Bool.{Decides}
use Rattle.std.specs.Cmp.{IsTotalOrder, on_total, then_total, tied_then}
use Rattle.std.specs.Cmp.Lexicographic.{nat_list_cmp_total, on_texts}
use Rattle.std.specs.Ordering.{eq_by_cmp}
use Rattle.std.specs.Str.{bytes_eq}
use Rattle.std.proofs.lemmas.Bool.Decides.{Decides-and, Decides-like}
use Rattle.std.proofs.lemmas.Map.Text.{is_eq-slice_cmp}
use Rattle.std.proofs.lemmas.Slice.Eq.{bytes_eq-Decides}
use Rattle.osgi_base.specs.computed.Texts.{text_cmp}
use Rattle.osgi_bundle.specs.computed.Kept.{name_cmp}
use Rattle.osgi_bundle.specs.declared.directory.BundleName.{BundleName}
use Rattle.osgi_version.specs.Comparing.{exact_version, version_cmp, version_ties, version_total}
use Rattle.osgi_version.specs.declared.version.Version.{Version}

pub text_total : IsTotalOrder text_cmp
text_total = nat_list_cmp_total

pub name_total : IsTotalOrder name_cmp
name_total = then_total (on_texts (λ (n : BundleName). n.name)) (on_total (λ (n : BundleName). n.version) version_total)

pub decides_text : (a b : List ℕ) → Decides (eq_by_cmp text_cmp a b) (a ≡ b)
decides_text a b = (λ same. (bytes_eq-Decides a b).0 (sym (is_eq-slice_cmp a b) ∙ same), λ same. is_eq-slice_cmp a b ∙ (bytes_eq-Decides a b).1 same)

pub decides_version : (v w : Version) → Decides (eq_by_cmp version_cmp v w) (v ≡ w)
decides_version v w = (λ same. (exact_version v w).0 (version_ties v w ∙ same), λ same. sym (version_ties v w) ∙ (exact_version v w).1 same)

both : (a b : BundleName) → Decides (eq_by_cmp text_cmp a.name b.name && eq_by_cmp version_cmp a.version b.version) (a ≡ b)
both a b =
    Decides-like (eq_by_cmp text_cmp a.name b.name && eq_by_cmp version_cmp a.version b.version)
    (λ e. λ i. record { name = e.0 i; version = e.1 i })
    (λ e. (ap (λ (n : BundleName). n.name) e, ap (λ (n : BundleName). n.version) e))
    (Decides-and _ _ (decides_text a.name b.name) (decides_version a.version b.version))

-- names with versions tie where they are the same
pub decides_name : (a b : BundleName) → Decides (eq_by_cmp name_cmp a b) (a ≡ b)
decides_name a b =
    let same = tied_then (text_cmp a.name b.name) (version_cmp a.version b.version) in
    (λ tied. (both a b).0 (same ∙ tied), λ is. sym same ∙ (both a b).1 is)

-- a location ties with that of a row where the row has it
pub tied_location : (a b : List ℕ) → eq_by_cmp text_cmp a b ≡ bytes_eq b a
tied_location a b = is_eq-slice_cmp a b ∙ flipped (bytes_eq a b) (bytes_eq b a) (λ e. (bytes_eq-Decides b a).1 (sym ((bytes_eq-Decides a b).0 e))) (λ e. (bytes_eq-Decides a b).1 (sym ((bytes_eq-Decides b a).0 e)))
  where
    flipped : (p q : Bool) → (p ≡ true → q ≡ true) → (q ≡ true → p ≡ true) → p ≡ q
    flipped true q there back = sym (there refl)
    flipped false true there back = back refl
    flipped false false there back = refl
