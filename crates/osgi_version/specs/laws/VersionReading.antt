-- A text is read as the parts of the version that it reads as, and only as these.
use Rattle.std.proofs.Common.{◌≡◌, ℕ, List, ap, sym, ◌∙◌, subst}
use Rattle.std.specs.Prelude.{true, Some, option_and_then}
use Rattle.std.proofs.lemmas.Option.{option_and_then_some, same_Some}
use Rattle.osgi_version.specs.computed.Run.{advance, run}
use Rattle.osgi_version.specs.computed.VersionMachine.{finish, is_fine, step}
use Rattle.osgi_version.specs.VersionReading.{parts_of}
use Rattle.osgi_version.specs.Versions.{Parts, ReadsVersion}
use Rattle.osgi_version.specs.declared.version_state.VersionState.TheVariants.{Lead}
use Rattle.osgi_version.specs.laws.VersionAlive.{reads_runs}
use Rattle.osgi_version.specs.laws.VersionReader.{accepted, finish_last}

pub parts_sound : (text : List ℕ) (v : Parts) → parts_of text ≡ Some v → ReadsVersion text v
parts_sound text v e =
    option_and_then_some (finish text) (run (advance is_fine step true) Lead text) v e
    (λ s ran finished.
    let is = accepted text s ran (finish_last text s v finished) in
    subst (ReadsVersion text) (same_Some _ _ (sym is.1 ∙ finished)) is.2)

pub parts_read : (text : List ℕ) (v : Parts) → ReadsVersion text v → parts_of text ≡ Some v
parts_read text v reads =
    let ran = reads_runs text v reads in
    ap (option_and_then (finish text)) ran.1 ∙ ran.2
