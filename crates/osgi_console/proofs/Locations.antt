-- What follows `install` is read as its location, and only as that.
use Rattle.std.proofs.Common.{◌≡◌, ℕ, ◌<◌, List, [], ◌∷◌, ◌++◌, length, take, drop, ap, sym, ◌∙◌, refl, arith, append-nil, subst}
use Rattle.std.specs.Prelude.{true, false, ◌==◌, ◌&&◌, not, Some}
use Rattle.std.proofs.Math.Seq.{drop-append_seam, take-append_seam}
use Rattle.std.proofs.lemmas.Bool.{and_parts, cond-false, eq-eqb, eqb-false, eqb-true, ne_eqb, not-true, not_from_false}
use Rattle.std.proofs.lemmas.List.{nil_from_length}
use Rattle.std.proofs.lemmas.List.Elements.{All-cons, All-head}
use Rattle.std.proofs.lemmas.Option.{cond_some}
use Rattle.osgi_base.specs.laws.Places.{Fails, Found, found, nowhere, position-front, position-none, somewhere}
use Rattle.osgi_console.specs.Console.{IsLocation}
use Rattle.osgi_console.specs.computed.ArgumentReader.{is_space, location_end, location_of, location_to}
use Rattle.osgi_syntax.specs.laws.Spaces.{after_spaces-all, after_spaces-prefix, all_spaces, EndsWord, spaced, with_nothing, with_space}
use Rattle.osgi_syntax.specs.laws.Whole.{ends_all}
use Rattle.osgi_syntax.specs.Splitting.{after_spaces}
use Rattle.osgi_syntax.specs.Words.{AreSpaces, IsSeparated}

-- a location has no space
no_space : (word : List ℕ) → IsLocation word → Fails is_space word
no_space word is = λ k d below. not-true _ (is.1 k d below)

has_no_space : (word : List ℕ) → 0 < length word → Fails is_space word → IsLocation word
has_no_space word some fails = (some, λ k d below. not_from_false _ (fails k d below))

-- it ends at the first space
end_is : (word rest : List ℕ) → Fails is_space word → EndsWord rest → location_end (word ++ rest) ≡ length word
end_is word [] fails with_nothing = rw (append-nil word, position-none is_space word fails) refl
end_is word (b ∷ rest) fails (with_space _ _ is) = rw (position-front is_space word b rest fails (eq-eqb b 32 is)) refl

-- ---- what is a location is read

begins : (word rest : List ℕ) → IsLocation word → after_spaces (word ++ rest) ≡ word ++ rest
begins [] rest is = absurd (omega (arith, is.0))
begins (b ∷ word) rest is = cond-false (b == 32) _ _ (All-head (λ x. is_space x ≡ false) b word (no_space (b ∷ word) is))

location_whole : (word rest : List ℕ) → IsLocation word → AreSpaces rest → location_to (length word) (word ++ rest) ≡ Some word
location_whole word rest is spaces =
    let some : not (length word == 0) ≡ true = not_from_false _ (ne_eqb _ 0 (λ e. absurd (omega (arith, e, is.0)))) in
    rw (drop-append_seam word rest, take-append_seam word rest, after_spaces-all rest spaces, some) refl

pub location_read : (word text : List ℕ) → IsLocation word → IsSeparated AreSpaces (word ∷ []) text → location_of text ≡ Some word
location_read word text is separated =
    let rest : List ℕ = separated.1 in
    let front : after_spaces text ≡ word ++ rest = ap after_spaces separated.4 ∙ after_spaces-prefix separated.0 (word ++ rest) separated.2 ∙ begins word rest is in
    rw (front, end_is word rest (no_space word is) (ends_all rest separated.5)) (location_whole word rest is separated.5)

-- ---- what is read is a location

record Ends (text word : List ℕ) : Type 0 where
  location : IsLocation word
  rest : List ℕ
  spaces : AreSpaces rest
  is : text ≡ word ++ rest

ends_by : (word rest read : List ℕ) → Fails is_space word → location_to (length word) (word ++ rest) ≡ Some read → Ends (word ++ rest) read
ends_by word rest read fails e =
    let taken = cond_some (not (length word == 0) && (length (after_spaces (drop (length word) (word ++ rest))) == 0)) (take (length word) (word ++ rest)) read e in
    let tests = and_parts (not (length word == 0)) (length (after_spaces (drop (length word) (word ++ rest))) == 0) taken.0 in
    let some : 0 < length word = omega (arith, eqb-false (length word) 0 (not-true _ tests.0)) in
    let none : after_spaces rest ≡ [] = nil_from_length (after_spaces rest) (ap (λ l. length (after_spaces l)) (sym (drop-append_seam word rest)) ∙ eqb-true _ 0 tests.1) in
    let same : word ≡ read = sym (take-append_seam word rest) ∙ taken.1 in
    rw (← same) (record { location = has_no_space word some fails; rest = rest; spaces = all_spaces rest none; is = refl })

ends : (text word : List ℕ) → Found is_space text → location_to (location_end text) text ≡ Some word → Ends text word
ends text word (nowhere fails) e =
    let end : location_end text ≡ length text = rw (position-none is_space text fails) refl in
    subst (λ t. Ends t word) (append-nil text)
    (ends_by text [] word fails (rw (append-nil text) (ap (λ n. location_to n text) (sym end) ∙ e)))
ends text word (somewhere prefix x back fails passes is) e =
    let end : location_end (prefix ++ x ∷ back) ≡ length prefix = end_is prefix (x ∷ back) fails (with_space x back (eqb-true x 32 passes)) in
    subst (λ t. Ends t word) (sym is)
    (ends_by prefix (x ∷ back) word fails
    (ap (λ n. location_to n (prefix ++ x ∷ back)) (sym end) ∙ ap (λ t. location_to (location_end t) t) (sym is) ∙ e))

-- a text is a location with spaces round it
pub record IsAlone (text word : List ℕ) : Type 0 where
  pub location : IsLocation word
  pub separated : IsSeparated AreSpaces (word ∷ []) text

alone_behind : (rest word : List ℕ) → location_of rest ≡ Some word → IsAlone (32 ∷ rest) word
alone_behind rest word e =
    let front = spaced rest in
    let ended = ends (after_spaces rest) word (found is_space (after_spaces rest)) e in
    record {
      location = ended.location;
      separated = (
        32 ∷ front.spaces,
        ended.rest,
        All-cons (λ x. x ≡ 32) 32 front.spaces refl front.are,
        omega arith,
        ap (λ l. 32 ∷ l) (front.is ∙ ap (λ l. front.spaces ++ l) ended.is),
        ended.spaces,
      );
    }

pub location_sound : (text word : List ℕ) → EndsWord text → location_of text ≡ Some word → IsAlone text word
location_sound [] word with_nothing e = absurd (cc e)
location_sound (b ∷ rest) word (with_space _ _ is) e =
    subst (λ x. IsAlone (x ∷ rest) word) (sym is) (alone_behind rest word (ap (λ x. location_of (x ∷ rest)) (sym is) ∙ e))
