-- A text is read as the filter that it reads as by the grammar, and only as that.
use Rattle.std.proofs.Common.{◌≡◌, ℕ, List, [], ◌∷◌, ap, sym, ◌∙◌, refl}
use Rattle.std.specs.Prelude.{All, IfErr, IfOk, Option, None, Some, Result, Ok, Err}
use Rattle.std.specs.Result.{result_ok}
use Rattle.std.proofs.lemmas.List.Elements.{All-head, All-tail}
use Rattle.osgi_filter.specs.laws.Levels.{whole_again, whole_sound}
use Rattle.osgi_filter.specs.laws.Steps.{filter_at_more}
use Rattle.osgi_filter.specs.computed.Reader.{◌>>=◌, ended, filter_at, read_filter, skip, whole_at}
use Rattle.osgi_model.specs.Filters.{IsReadableFilter, ReadsFilter}
use Rattle.osgi_model.specs.declared.filter.Filter.{Filter}

ok_by : (text : List ℕ) (f : Filter) (r : Result Filter ℕ) → whole_at text ≡ r → result_ok r ≡ Some f → ReadsFilter text f
ok_by text f (Ok g) e is =
    let same : g ≡ f = cc is in
    whole_sound text f (e ∙ ap Ok same)
ok_by text f (Err left) e is = absurd (cc is)

pub filter_sound : (text : List ℕ) (f : Filter) → read_filter text ≡ Some f → ReadsFilter text f
filter_sound text f e = ok_by text f (whole_at text) refl e

pub filter_read : (text : List ℕ) (f : Filter) → ReadsFilter text f → read_filter text ≡ Some f
filter_read text f reads = ap result_ok (whole_again text f reads)

none_by : (text : List ℕ) (read : Option Filter) → read_filter text ≡ read → ¬ IsReadableFilter text → read_filter text ≡ None
none_by text None e unread = e
none_by text (Some f) e unread = absurd (unread (f, filter_sound text f e))

-- what is said to read as a filter, or not to read as any, is read so
pub filter_is : {E : Type 0} (text : List ℕ) (r : Result Filter E) → IfOk r (ReadsFilter text) → IfErr r (λ _. ¬ IsReadableFilter text) → result_ok r ≡ read_filter text
filter_is text (Ok f) reads unread = sym (filter_read text f reads)
filter_is text (Err e) reads unread = sym (none_by text (read_filter text) refl unread)

skip_spaces : (text : List ℕ) → All (λ b. b ≡ 32) text → skip text ≡ []
skip_spaces [] are = refl
skip_spaces (b ∷ rest) are =
    let here : b ≡ 32 = All-head (λ x. x ≡ 32) b rest are in
    rw here (skip_spaces rest (All-tail (λ x. x ≡ 32) b rest are))

-- spaces alone are no filter
pub spaces_none : (text : List ℕ) → All (λ b. b ≡ 32) text → read_filter text ≡ None
spaces_none text are =
    ap (λ l. result_ok (filter_at 64 l >>= λ x. ended x.0 (skip x.1))) (skip_spaces text are)
    ∙ ap (λ r. result_ok (r >>= λ x. ended x.0 (skip x.1))) (filter_at_more 63 [])
