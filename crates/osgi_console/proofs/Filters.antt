-- What follows the class of a search is read as its filter, and only as that.
use Rattle.std.proofs.Common.{◌≡◌, ℕ, List, [], ◌∷◌, length, ap, sym, ◌∙◌, refl, arith, subst}
use Rattle.std.specs.Prelude.{Bool, true, false, ◌==◌, IfErr, IfOk, Option, None, Some, Result}
use Rattle.std.specs.Option.{option_map}
use Rattle.std.specs.Result.{result_ok}
use Rattle.std.proofs.lemmas.Bool.{cond-false, cond-true, eqb-true}
use Rattle.std.proofs.lemmas.Option.{option_and_then_some}
use Rattle.osgi_filter.specs.laws.Reading.{filter_is as read_is, filter_read, filter_sound, spaces_none}
use Rattle.osgi_filter.specs.computed.Reader.{read_filter}
use Rattle.osgi_model.specs.laws.Made.{mapped}
use Rattle.osgi_model.specs.Filters.{IsReadableFilter, ReadsFilter}
use Rattle.osgi_model.specs.declared.filter.Filter.{Filter}
use Rattle.osgi_syntax.specs.laws.Names.{class_read, class_sound, whole_class}
use Rattle.osgi_syntax.specs.laws.Separating.{first_separates}
use Rattle.osgi_syntax.specs.laws.Spaces.{after_spaces-all, all_spaces, EndsWord, with_nothing, with_space}
use Rattle.std.proofs.lemmas.List.{nil_from_length}
use Rattle.osgi_syntax.specs.laws.Splitting.{after_word-ends}
use Rattle.osgi_syntax.specs.laws.Whole.{ends_all, first_separated}
use Rattle.osgi_console.specs.declared.arguments.Search.{Search}
use Rattle.osgi_console.specs.computed.ArgumentReader.{search_from, search_of}
use Rattle.osgi_syntax.specs.Splitting.{after_spaces, after_word, first_word}
use Rattle.osgi_syntax.specs.WordReader.{class_of}
use Rattle.osgi_syntax.specs.Lines.{IsFilterEnd}
use Rattle.osgi_syntax.specs.Words.{IsClass, IsSeparated}

-- ---- the filter alone

-- what is said to read as a filter, or not to read as any, is read so
pub filter_is : {E : Type 0} (text : List ℕ) (r : Result Filter E) → IfOk r (ReadsFilter text) → IfErr r (λ _. ¬ IsReadableFilter text) → result_ok r ≡ read_filter text
filter_is text r reads unread = read_is text r reads unread

-- ---- the end of the line

pub filter_ends : (filter : Option Filter) (end : List ℕ) → IsFilterEnd filter end → EndsWord end
filter_ends None end is = ends_all end is
filter_ends (Some f) end is = subst EndsWord (sym is.1) (with_space 32 is.0 refl)

end_of_filter : (f : Filter) (remainder : List ℕ) → EndsWord remainder → ReadsFilter remainder f → read_filter remainder ≡ Some f → IsFilterEnd (Some f) remainder
end_of_filter f [] with_nothing reads e = absurd (cc (e, spaces_none [] (λ k d below. absurd (omega arith))))
end_of_filter f (b ∷ rest) (with_space _ _ is) reads e = (rest, ap (λ x. x ∷ rest) is, reads)

record IsWanted (class remainder : List ℕ) (w : Search) : Type 0 where
  named : w.class ≡ class
  ended : IsFilterEnd w.filter remainder

end_by : (class remainder : List ℕ) (w : Search) (test : Bool) → (length (after_spaces remainder) == 0) ≡ test → EndsWord remainder → search_from class remainder ≡ Some w → IsWanted class remainder w
end_by class remainder w true none ends e =
    let alone : Search = record { class = class; filter = None } in
    let is : Some alone ≡ Some w = sym (cond-true (length (after_spaces remainder) == 0) _ _ none) ∙ e in
    let same : alone ≡ w = cc is in
    rw (← same) (record { named = refl; ended = all_spaces remainder (nil_from_length (after_spaces remainder) (eqb-true _ 0 none)) })
end_by class remainder w false some ends e =
    let read = mapped (λ filter. record { class = class; filter = Some filter }) (read_filter remainder) w (sym (cond-false (length (after_spaces remainder) == 0) _ _ some) ∙ e) in
    rw (← read.is)
    (record { named = refl; ended = end_of_filter read.value remainder ends (filter_sound remainder read.value read.was) read.was })

end_sound : (class remainder : List ℕ) (w : Search) → EndsWord remainder → search_from class remainder ≡ Some w → IsWanted class remainder w
end_sound class remainder w ends e = end_by class remainder w (length (after_spaces remainder) == 0) refl ends e

some_by : (class remainder : List ℕ) (f : Filter) (test : Bool) → (length (after_spaces remainder) == 0) ≡ test → read_filter remainder ≡ Some f →
    search_from class remainder ≡ Some (record { class = class; filter = Some f })
some_by class remainder f true none e =
    absurd (cc (e, spaces_none remainder (all_spaces remainder (nil_from_length (after_spaces remainder) (eqb-true _ 0 none)))))
some_by class remainder f false some e = cond-false (length (after_spaces remainder) == 0) _ _ some ∙ ap (option_map (λ filter. record { class = class; filter = Some filter })) e

end_read : (class : List ℕ) (filter : Option Filter) (remainder : List ℕ) → IsFilterEnd filter remainder → search_from class remainder ≡ Some (record { class = class; filter = filter })
end_read class None remainder is = rw (after_spaces-all remainder is) refl
end_read class (Some f) remainder is = some_by class remainder f (length (after_spaces remainder) == 0) refl (filter_read remainder f is.2)

-- ---- class and filter

pub record AreWanted (text : List ℕ) (w : Search) : Type 0 where
  pub class : IsClass w.class
  pub separated : IsSeparated (IsFilterEnd w.filter) (w.class ∷ []) text

wanted_behind : (rest : List ℕ) (w : Search) → search_of rest ≡ Some w → AreWanted (32 ∷ rest) w
wanted_behind rest w e =
    option_and_then_some (λ class. search_from class (after_word rest)) (class_of (first_word rest)) w e
    (λ class named made.
    let of_class = class_sound (first_word rest) class named in
    let is = end_sound class (after_word rest) w (after_word-ends rest) made in
    record {
      class = subst IsClass (sym is.named) of_class.0;
      separated = subst (λ word. IsSeparated (IsFilterEnd w.filter) (word ∷ []) (32 ∷ rest)) (of_class.1 ∙ sym is.named)
          (first_separates (IsFilterEnd w.filter) [] rest is.ended);
    })

-- what is read after the first word is a class, and a filter or none
pub wanted_sound : (text : List ℕ) (w : Search) → EndsWord text → search_of text ≡ Some w → AreWanted text w
wanted_sound [] w with_nothing e = absurd (cc e)
wanted_sound (b ∷ rest) w (with_space _ _ is) e =
    subst (λ l. AreWanted (l ∷ rest) w) (sym is) (wanted_behind rest w (ap (λ l. search_of (l ∷ rest)) (sym is) ∙ e))

-- and such are read
pub wanted_read : (class : List ℕ) (filter : Option Filter) (text : List ℕ) → IsClass class → IsSeparated (IsFilterEnd filter) (class ∷ []) text →
    search_of text ≡ Some (record { class = class; filter = filter })
wanted_read class filter text is separated =
    let prefix = first_separated (IsFilterEnd filter) class [] text (filter_ends filter) (whole_class class is) separated in
    rw (prefix.first, prefix.remainder, class_read class is) (end_read class filter separated.1 separated.5)
