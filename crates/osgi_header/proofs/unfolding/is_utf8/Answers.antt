-- A text is UTF-8 where it is read as such.
use Rattle.std.proofs.Common.{◌≡◌, ◌∙◌, List, ℕ, sym, refl}
use Rattle.std.specs.Prelude.{Bool, true, false, IsUtf8, MatchResult, Result, Ok, Err}
use Rattle.std.specs.Result.{is_ok}
use Rattle.std.specs.Str.{is_utf8}
use Rattle.std.proofs.lemmas.Str.{is_utf8-from_IsUtf8, IsUtf8-from_is_utf8}
use Rattle.osgi_header.proofs.unfolding.is_utf8.Goals as goal

not_utf8 : (text : List ℕ) (test : Bool) → is_utf8 text ≡ test → ¬ IsUtf8 text → false ≡ test
not_utf8 text true e not = absurd (not (IsUtf8-from_is_utf8 text e))
not_utf8 text false e not = refl

told : {T E : Type 0} (text : List ℕ) (P : T → Type 0) (Q : E → Type 0) (r : Result T E) → MatchResult r (λ s. P s × IsUtf8 text) (λ e. (¬ IsUtf8 text) × Q e) → is_ok r ≡ is_utf8 text
told text P Q (Ok s) is = sym (is_utf8-from_IsUtf8 text is.1)
told text P Q (Err e) is = not_utf8 text (is_utf8 text) refl is.0

pub returns : goal.returns
returns c = record { utf8 = c.is_ok.ensures.value ∙ told c.args.text.now _ _ c.from_utf8.result c.from_utf8.ensures.cases }
