-- What is left of a line is read as a filter or as none, and only as that.
use Rattle.std.proofs.Common.{◌≡◌, ℕ, List, [], ◌∷◌, length, ap, sym, ◌∙◌, refl, arith, subst}
use Rattle.std.specs.Prelude.{Bool, true, false, ◌==◌, Option, None, Some}
use Rattle.std.specs.Option.{option_map}
use Rattle.std.proofs.lemmas.Bool.{cond-false, cond-true, eqb-true}
use Rattle.std.proofs.lemmas.List.{nil_from_length}
use Rattle.osgi_filter.specs.computed.Reader.{read_filter}
use Rattle.osgi_filter.specs.laws.Reading.{filter_read, filter_sound, spaces_none}
use Rattle.osgi_model.specs.laws.Made.{mapped}
use Rattle.osgi_model.specs.declared.filter.Filter.{Filter}
use Rattle.osgi_syntax.specs.Lines.{IsFilterEnd}
use Rattle.osgi_syntax.specs.Splitting.{after_spaces}
use Rattle.osgi_syntax.specs.laws.Spaces.{after_spaces-all, all_spaces, EndsWord, with_nothing, with_space}
use Rattle.osgi_syntax.specs.laws.Whole.{ends_all}
use Rattle.osgi_script.specs.computed.StatementReader.{filter_end_of}

pub ends_filter : (filter : Option Filter) (end : List ℕ) → IsFilterEnd filter end → EndsWord end
ends_filter None end is = ends_all end is
ends_filter (Some f) end is = subst EndsWord (sym is.1) (with_space 32 is.0 refl)

with_filter : (f : Filter) (text : List ℕ) → EndsWord text → read_filter text ≡ Some f → IsFilterEnd (Some f) text
with_filter f [] with_nothing e = absurd (cc (e, spaces_none [] (λ k d below. absurd (omega arith))))
with_filter f (b ∷ rest) (with_space _ _ is) e = (rest, ap (λ x. x ∷ rest) is, filter_sound (b ∷ rest) f e)

end_by : (text : List ℕ) (filter : Option Filter) (test : Bool) → (length (after_spaces text) == 0) ≡ test → EndsWord text → filter_end_of text ≡ Some filter → IsFilterEnd filter text
end_by text filter true none ends e =
    let is : None ≡ filter = cc (sym (cond-true (length (after_spaces text) == 0) _ _ none) ∙ e) in
    subst (λ f. IsFilterEnd f text) is (all_spaces text (nil_from_length (after_spaces text) (eqb-true _ 0 none)))
end_by text filter false some ends e =
    let read = mapped Some (read_filter text) filter (sym (cond-false (length (after_spaces text) == 0) _ _ some) ∙ e) in
    subst (λ f. IsFilterEnd f text) read.is (with_filter read.value text ends read.was)

pub end_sound : (text : List ℕ) (filter : Option Filter) → EndsWord text → filter_end_of text ≡ Some filter → IsFilterEnd filter text
end_sound text filter ends e = end_by text filter (length (after_spaces text) == 0) refl ends e

some_by : (text : List ℕ) (f : Filter) (test : Bool) → (length (after_spaces text) == 0) ≡ test → read_filter text ≡ Some f → filter_end_of text ≡ Some (Some f)
some_by text f true none e =
    absurd (cc (e, spaces_none text (all_spaces text (nil_from_length (after_spaces text) (eqb-true _ 0 none)))))
some_by text f false some e = cond-false (length (after_spaces text) == 0) _ _ some ∙ ap (option_map Some) e

pub end_read : (text : List ℕ) (filter : Option Filter) → IsFilterEnd filter text → filter_end_of text ≡ Some filter
end_read text None is = rw (after_spaces-all text is) refl
end_read text (Some f) is = some_by text f (length (after_spaces text) == 0) refl (filter_read text f is.2)
