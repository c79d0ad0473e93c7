-- How a version stands to that of a text.
use Rattle.std.proofs.Common.{◌≡◌, ◌↔◌, ℕ, List, Option, Some, None, sym, refl, ◌∙◌}
use Rattle.std.specs.Option.{IsNone, option_and_then}
use Rattle.std.specs.declared.cmp.Ordering.{Ordering}
use Rattle.std.proofs.lemmas.Bool.{false≢true}
use Rattle.std.proofs.lemmas.Option.{none-some}
use Rattle.osgi_version.specs.VersionValues.{order}
use Rattle.osgi_version.specs.Versions.{Parts, ReadsVersion, IsReadableVersion}
use Rattle.osgi_model.specs.computed.MatchReader.{version_order}
use Rattle.osgi_version.specs.VersionReading.{parts_of}
use Rattle.osgi_version.specs.laws.VersionReading.{parts_read, parts_sound}

is_none : {A : Type 0} (o : Option A) → IsNone o → o ≡ None
is_none None h = refl
is_none (Some a) h = absurd (false≢true (sym h))

ordered_by : (given : Parts) (text : List ℕ) (r : Option Ordering) (o : Option Parts) → parts_of text ≡ o → ((v : Parts) → ReadsVersion text v → r ≡ Some (order given v)) → (IsNone r ↔ ¬ IsReadableVersion text) → r ≡ option_and_then (λ v. Some (order given v)) o
ordered_by given text r None e reads none = is_none r (none.1 (λ h. none-some h.0 (sym e ∙ parts_read text h.0 h.1)))
ordered_by given text r (Some v) e reads none = reads v (parts_sound text v e)

pub version_ordered : (given : Parts) (text : List ℕ) (r : Option Ordering) → ((v : Parts) → ReadsVersion text v → r ≡ Some (order given v)) → (IsNone r ↔ ¬ IsReadableVersion text) → r ≡ version_order given text
version_ordered given text r reads none = ordered_by given text r (parts_of text) refl reads none
