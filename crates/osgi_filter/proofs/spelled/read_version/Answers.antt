-- A text that compares with a version reads as one, and its parts stand between its dots.
use Rattle.std.proofs.Common.{◌≡◌, ap, sym, refl, ◌∙◌, subst, List, ℕ, Some}
use Rattle.std.specs.Option.{option_map}
use Rattle.std.proofs.lemmas.Str.Ascii.{trim_ascii_is}
use Rattle.osgi_model.specs.computed.LongReader.{trimmed}
use Rattle.osgi_filter.specs.computed.Spelled.{CutsInto, spelled}
use Rattle.osgi_filter.proofs.Dots.{compared, incomparable}
use Rattle.osgi_filter.proofs.spelled.read_version.Goals as goal

pub returns-in_err-compare_text : goal.returns-in_err-compare_text
returns-in_err-compare_text c =
    record { version = ap (option_map spelled) c.from_residual.ensures ∙ incomparable c.args.text.now c.compare_text.result c.compare_text.ensures.no_version c.in_err-compare_text.was }

pub returns : goal.returns
returns c =
    let text = c.args.text.now in
    let read = compared text c.compare_text.result _ c.compare_text.ensures.no_version c.in_ok-compare_text.was in
    let is : c.trim_ascii.result.now ≡ trimmed text = trim_ascii_is text c.trim_ascii.result.now _ refl c.trim_ascii.ensures.value in
    let parts : spelled c.cut_parts.result ≡ read.version
    = c.cut_parts.ensures.parts read.version (subst (λ (x : List ℕ). CutsInto x read.version) (sym is) read.cut) read.fits in
    record { version = ap Some parts ∙ sym read.is }
