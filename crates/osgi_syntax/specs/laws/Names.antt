-- Names, and names between separators, are read as they stand.
use Rattle.std.proofs.Common.{◌≡◌, ℕ, ◌<◌, List, [], ◌∷◌, length, ap, sym, ◌∙◌, refl, arith, length-append}
use Rattle.std.specs.Prelude.{Bool, true, false, Some, All, ◌==◌}
use Rattle.std.specs.List.{AllPass, join_with_byte, list_all, slice_split}
use Rattle.std.proofs.lemmas.Bool.{and_from, and_parts, cond-false, cond-true, ne_eqb}
use Rattle.std.proofs.lemmas.Option.{cond_some}
use Rattle.std.proofs.lemmas.List.Elements.{All-append, All-cons, All-head, All-tail}
use Rattle.std.proofs.lemmas.List.Splits.{join_with_byte-slice_split, length-slice_split, slice_split_at, slice_split_none}
use Rattle.std.proofs.lemmas.List.Sums.{AllPass-from_list_all, list_all-from_AllPass}
use Rattle.osgi_base.specs.laws.Places.{Fails}
use Rattle.osgi_base.specs.laws.Scans.{other_byte}
use Rattle.osgi_syntax.specs.laws.Whole.{bare_by, whole_bare}
use Rattle.osgi_syntax.specs.Properties.{is_bare_byte}
use Rattle.osgi_syntax.specs.WordReader.{bundle_name_of, class_of, classes_of, is_bundle_name, is_class, is_comma, is_dot, is_name, is_some_of, is_token, name_of}
use Rattle.osgi_syntax.specs.LineWords.{IsLineWord}
use Rattle.osgi_syntax.specs.Words.{AreClasses, AreJoined, begins_name, is_class_byte, is_name_byte, is_token_byte, IsBundleName, IsClass, IsName, IsSomeOf}

-- ---- one or more bytes that pass

not_empty : (p : ℕ → Bool) (b : ℕ) (rest : List ℕ) → is_some_of p (b ∷ rest) ≡ list_all p (b ∷ rest)
not_empty p b rest = cond-false (length (b ∷ rest) == 0) _ _ (ne_eqb _ 0 (λ e. absurd (omega (arith, e))))

some_of_from : (p : ℕ → Bool) (text : List ℕ) → is_some_of p text ≡ true → IsSomeOf p text
some_of_from p [] e = absurd (cc e)
some_of_from p (b ∷ rest) e = (omega arith, AllPass-from_list_all p (b ∷ rest) (sym (not_empty p b rest) ∙ e))

is_some_of-from : (p : ℕ → Bool) (text : List ℕ) → IsSomeOf p text → is_some_of p text ≡ true
is_some_of-from p [] some = absurd (omega (arith, some.0))
is_some_of-from p (b ∷ rest) some = not_empty p b rest ∙ list_all-from_AllPass p (b ∷ rest) some.1

all_from : (p : ℕ → Bool) (parts : List (List ℕ)) → list_all (is_some_of p) parts ≡ true → All (IsSomeOf p) parts
all_from p parts e = λ k d below. some_of_from p _ (AllPass-from_list_all (is_some_of p) parts e k d below)

all_pass : (p : ℕ → Bool) (parts : List (List ℕ)) → All (IsSomeOf p) parts → list_all (is_some_of p) parts ≡ true
all_pass p parts all = list_all-from_AllPass (is_some_of p) parts (λ k d below. is_some_of-from p _ (all k d below))

-- ---- such texts between separators

-- what a text is split into at a separator, if each part is one or more bytes that pass
split_sound : (p : ℕ → Bool) (separator : ℕ) (text : List ℕ) → list_all (is_some_of p) (slice_split (λ b. b == separator) text) ≡ true →
    AreJoined p separator text (slice_split (λ b. b == separator) text)
split_sound p separator text e = record {
  some = omega (arith, length-slice_split (λ b. b == separator) text);
  each = all_from p (slice_split (λ b. b == separator) text) e;
  joined = sym (join_with_byte-slice_split separator text);
}

no_separator : (p : ℕ → Bool) (separator : ℕ) (text : List ℕ) → p separator ≡ false → IsSomeOf p text → Fails (λ b. b == separator) text
no_separator p separator text other some = λ k d below. other_byte p separator _ other (some.1 k d below)

split_join : (p : ℕ → Bool) (separator : ℕ) (parts : List (List ℕ)) → p separator ≡ false → (separator == separator) ≡ true → 0 < length parts → All (IsSomeOf p) parts →
    slice_split (λ b. b == separator) (join_with_byte separator parts) ≡ parts
split_join p separator [] other same some each = absurd (omega (arith, some))
split_join p separator (part ∷ []) other same some each =
    slice_split_none (λ b. b == separator) part (no_separator p separator part other (All-head (IsSomeOf p) part [] each))
split_join p separator (part ∷ second ∷ rest) other same some each =
    slice_split_at (λ b. b == separator) part separator (join_with_byte separator (second ∷ rest))
    (no_separator p separator part other (All-head (IsSomeOf p) part (second ∷ rest) each)) same
    ∙ ap (λ l. part ∷ l) (split_join p separator (second ∷ rest) other same (omega arith) (All-tail (IsSomeOf p) part (second ∷ rest) each))

-- parts are split again as they were joined
joined_split : (p : ℕ → Bool) (separator : ℕ) (text : List ℕ) (parts : List (List ℕ)) → p separator ≡ false → (separator == separator) ≡ true →
    AreJoined p separator text parts → slice_split (λ b. b == separator) text ≡ parts
joined_split p separator text parts other same are = ap (slice_split (λ b. b == separator)) are.joined ∙ split_join p separator parts other same are.some are.each

-- ---- class names

-- what is read as class names is a list of such
pub classes_sound : (word : List ℕ) (classes : List (List ℕ)) → classes_of word ≡ Some classes → AreClasses word classes
classes_sound word classes e =
    let read = cond_some (list_all is_class (slice_split is_comma word)) (slice_split is_comma word) classes e in
    rw (← read.1) (split_sound is_class_byte 44 word read.0)

-- class names are read from the word that they make
pub classes_read : (word : List ℕ) (classes : List (List ℕ)) → AreClasses word classes → classes_of word ≡ Some classes
classes_read word classes are =
    let split : slice_split is_comma word ≡ classes = joined_split is_class_byte 44 word classes refl refl are in
    let all : list_all is_class classes ≡ true = all_pass is_class_byte classes are.each in
    rw (split, all) refl

pub class_sound : (word name : List ℕ) → class_of word ≡ Some name → IsClass name × (word ≡ name)
class_sound word name e =
    let read = cond_some (is_class word) word name e in
    (rw (← read.1) (some_of_from is_class_byte word read.0), read.1)

pub class_read : (name : List ℕ) → IsClass name → class_of name ≡ Some name
class_read name class = cond-true (is_class name) _ _ (is_some_of-from is_class_byte name class)

-- ---- names of variables, listeners and jobs

name_from : (name : List ℕ) → is_name name ≡ true → IsName name
name_from [] e = absurd (cc e)
name_from (b ∷ rest) e =
    let tests = and_parts (begins_name b) (list_all is_name_byte rest) e in
    (tests.0, AllPass-from_list_all is_name_byte rest tests.1)

is_name-from : (name : List ℕ) → IsName name → is_name name ≡ true
is_name-from [] is = absurd is
is_name-from (b ∷ rest) is = and_from (begins_name b) (list_all is_name_byte rest) is.0 (list_all-from_AllPass is_name_byte rest is.1)

pub name_sound : (word name : List ℕ) → name_of word ≡ Some name → IsName name × (word ≡ name)
name_sound word name e =
    let read = cond_some (is_name word) word name e in
    (rw (← read.1) (name_from word read.0), read.1)

pub name_read : (name : List ℕ) → IsName name → name_of name ≡ Some name
name_read name is = cond-true (is_name name) _ _ (is_name-from name is)

-- ---- symbolic names

pub bundle_name_sound : (word name : List ℕ) → bundle_name_of word ≡ Some name → IsBundleName name × (word ≡ name)
bundle_name_sound word name e =
    let read = cond_some (is_bundle_name word) word name e in
    (rw (← read.1) (slice_split is_dot word, split_sound is_token_byte 46 word read.0), read.1)

pub bundle_name_read : (name : List ℕ) → IsBundleName name → bundle_name_of name ≡ Some name
bundle_name_read name is =
    let split : slice_split is_dot name ≡ is.0 = joined_split is_token_byte 46 name is.0 refl refl is.1 in
    cond-true (is_bundle_name name) _ _ (ap (list_all is_token) split ∙ all_pass is_token_byte is.0 is.1.each)

-- ---- such words are whole

bare_joined : (p : ℕ → Bool) (separator : ℕ) (parts : List (List ℕ)) → p 32 ≡ false → p 34 ≡ false → is_bare_byte separator ≡ true → All (IsSomeOf p) parts →
    AllPass is_bare_byte (join_with_byte separator parts)
bare_joined p separator [] no_space no_quote bare each = λ k d below. absurd (omega arith)
bare_joined p separator (part ∷ []) no_space no_quote bare each = bare_by p part no_space no_quote (All-head (IsSomeOf p) part [] each).1
bare_joined p separator (part ∷ second ∷ rest) no_space no_quote bare each =
    All-append (λ b. is_bare_byte b ≡ true) part (separator ∷ join_with_byte separator (second ∷ rest))
    (bare_by p part no_space no_quote (All-head (IsSomeOf p) part (second ∷ rest) each).1)
    (All-cons (λ b. is_bare_byte b ≡ true) separator (join_with_byte separator (second ∷ rest)) bare
    (bare_joined p separator (second ∷ rest) no_space no_quote bare (All-tail (IsSomeOf p) part (second ∷ rest) each)))

some_joined : (p : ℕ → Bool) (separator : ℕ) (parts : List (List ℕ)) → 0 < length parts → All (IsSomeOf p) parts → 0 < length (join_with_byte separator parts)
some_joined p separator [] some each = absurd (omega (arith, some))
some_joined p separator (part ∷ []) some each = (All-head (IsSomeOf p) part [] each).0
some_joined p separator (part ∷ second ∷ rest) some each = omega (arith, length-append part (separator ∷ join_with_byte separator (second ∷ rest)))

whole_joined : (p : ℕ → Bool) (separator : ℕ) (text : List ℕ) (parts : List (List ℕ)) → p 32 ≡ false → p 34 ≡ false → is_bare_byte separator ≡ true →
    AreJoined p separator text parts → IsLineWord text
whole_joined p separator text parts no_space no_quote bare are =
    rw are.joined
    (whole_bare (join_with_byte separator parts) (some_joined p separator parts are.some are.each) (bare_joined p separator parts no_space no_quote bare are.each))

pub whole_class : (name : List ℕ) → IsClass name → IsLineWord name
whole_class name class = whole_bare name class.0 (bare_by is_class_byte name refl refl class.1)

pub whole_classes : (word : List ℕ) (classes : List (List ℕ)) → AreClasses word classes → IsLineWord word
whole_classes word classes are = whole_joined is_class_byte 44 word classes refl refl refl are

pub whole_bundle_name : (name : List ℕ) → IsBundleName name → IsLineWord name
whole_bundle_name name is = whole_joined is_token_byte 46 name is.0 refl refl refl is.1

bare_begin : (b : ℕ) → begins_name b ≡ true → is_bare_byte b ≡ true
bare_begin b begins =
    All-head (λ x. is_bare_byte x ≡ true) b []
    (bare_by begins_name (b ∷ []) refl refl (All-cons (λ x. begins_name x ≡ true) b [] begins (λ k d below. absurd (omega arith))))

pub whole_name : (name : List ℕ) → IsName name → IsLineWord name
whole_name [] is = absurd is
whole_name (b ∷ rest) is =
    whole_bare (b ∷ rest) (omega arith) (All-cons (λ x. is_bare_byte x ≡ true) b rest (bare_begin b is.0) (bare_by is_name_byte rest refl refl is.1))
