-- Words of the command line are read as the limits that they give, and only as those.
use Rattle.std.proofs.Common.{◌≡◌, ◌≢◌, ℕ, ◌+◌, List, [], ◌∷◌, ◌++◌, length, take, drop, ◌⊎◌, inl, inr, refl, sym, ◌∙◌, ap, subst, append-nil, append_assoc, arith, Bor}
use Rattle.std.proofs.Math.Seq.{take-append_seam}
use Rattle.std.proofs.lemmas.Bool.{eqb-true}
use Rattle.std.proofs.lemmas.List.{take-append-drop}
use Rattle.std.specs.Cmp.Lexicographic.{other_text, pointwise, same_text}
use Rattle.std.specs.Prelude.{◌==◌, true, false, is_some, nat_eq, IfSome, IsSomeAnd, MatchOption, Option, None, Some, codes, unwrap_or}
use Rattle.osgi_syntax.specs.Words.{IsId}
use Rattle.osgi_ops.specs.Settings.{Bounds, bounds_of, standard_bounds}
use Rattle.osgi_ops.specs.declared.limits.Limits.{Limits}
use Rattle.osgi_program.specs.Words.{AreOptions, Asks, for_replies, GivenOption, GivesNumber, IsGivenSo, IsChosen, IsNumberUpTo, IsOneOf, IsOption, leads, none, numbers_of, replies, Request, run_options}
use Rattle.osgi_program.specs.computed.Options.{AsksMore, budget_with, given_as, handings_with, held, so_far}
use Rattle.osgi_program.specs.declared.words.RunOption.{RunOption}
use Rattle.osgi_program.specs.declared.words.RunOption.TheVariants.{Budget, Handings}
use Rattle.osgi_ops.specs.declared.limits.TheConstants.{MAX_BUDGET, MAX_HANDINGS}

-- ---- numbers

-- a number is written as an id is
pub as_id : (greatest : ℕ) (word : List ℕ) (number : ℕ) → IsNumberUpTo greatest word number → IsId word (record { 0 = number })
as_id greatest word number is = record { numeral = is.numeral; short = is.short; number = is.is }

-- ---- the beginning of a word

pub behind_is : (word first : List ℕ) (rest : Option (Bor (List ℕ))) →
    MatchOption rest (pointwise nat_eq (take (length first) word) first ≡ false)
    (λ x. (pointwise nat_eq (take (length first) word) first ≡ true) × (x.now ≡ drop (length first) word) × (length x.now + length first ≡ length word)) →
    MatchOption rest ((after : List ℕ) → word ≢ first ++ after) (λ x. word ≡ first ++ x.now)
behind_is word first None other = λ after is. other_text (take (length first) word) first (sym other) (ap (take (length first)) is ∙ take-append_seam first after)
behind_is word first (Some rest) same =
    sym (take-append-drop (length first) word) ∙ ap (λ l. l ++ drop (length first) word) (same_text (take (length first) word) first (sym same.0)) ∙ ap (λ l. first ++ l) (sym same.1)

pub append_same : (name after other : List ℕ) → name ++ after ≡ name ++ other → after ≡ other
append_same [] after other is = is
append_same (b ∷ name) after other is = append_same name after other (cc is)

-- ---- options

-- the first of two lists of words that are one
first_same : {first other : List ℕ} {more rest : List (List ℕ)} → first ∷ more ≡ other ∷ rest → first ≡ other
first_same is = cc is

rest_same : {first other : List ℕ} {more rest : List (List ℕ)} → first ∷ more ≡ other ∷ rest → more ≡ rest
rest_same is = cc is

-- a word that does not begin with the name is no option of it
pub no_option : (name : List ℕ) (words : List (List ℕ)) (first : List ℕ) (more : List (List ℕ)) → words ≡ first ∷ more → ((after : List ℕ) → first ≢ name ++ after) →
    (word : List ℕ) (rest : List (List ℕ)) → IsOption name words word rest → ⊥
no_option name words first more is never word rest (inl two) = never [] (first_same (sym is ∙ two) ∙ sym (append-nil name))
no_option name words first more is never word rest (inr one) = never (codes "=" ++ word) (first_same (sym is ∙ one) ∙ append_assoc name (codes "=") word)

-- what stands behind the name in the word of an option: nothing, where its number is the next word, or else `=` and the number
pub option_of : (name : List ℕ) (words : List (List ℕ)) (first after : List ℕ) (more : List (List ℕ)) → words ≡ first ∷ more → first ≡ name ++ after →
    (word : List ℕ) (rest : List (List ℕ)) → IsOption name words word rest → ((after ≡ []) × (more ≡ word ∷ rest)) ⊎ ((after ≡ codes "=" ++ word) × (more ≡ rest))
option_of name words first after more is begins word rest (inl two) =
    inl (append_same name after [] (sym begins ∙ first_same (sym is ∙ two) ∙ sym (append-nil name)), rest_same (sym is ∙ two))
option_of name words first after more is begins word rest (inr one) =
    inr (append_same name after (codes "=" ++ word) (sym begins ∙ first_same (sym is ∙ one) ∙ append_assoc name (codes "=") word), rest_same (sym is ∙ one))

-- no words are no option
nothing_given : {name : List ℕ} {greatest number : ℕ} {rest : List (List ℕ)} → GivesNumber name greatest [] number rest → ⊥
nothing_given (word, inl two, number) = cc two
nothing_given (word, inr one, number) = cc one

-- ---- the option that the words begin with

-- an option that has a number gives it
gives : (greatest : ℕ) (number : Option ℕ) (name : List ℕ) (words rest : List (List ℕ)) → IsGivenSo (Some greatest) number name words rest →
    (given : ℕ) × (number ≡ Some given) × GivesNumber name greatest words given rest
gives greatest None name words rest has = absurd has
gives greatest (Some given) name words rest has = (given, refl, has)

-- names differ in their third byte
abbrev third : List ℕ → ℕ
third (a ∷ (b ∷ (c ∷ rest))) = c
third _ = 0

differ : (x y : List ℕ) → third x ≡ 98 → third y ≡ 104 → x ≡ y → ⊥
differ x y a b same = let bad : 98 ≡ 104 = sym a ∙ ap third same ∙ b in omega (arith, bad)

-- no words begin with both
apart : (words rest left : List (List ℕ)) (word other : List ℕ) → IsOption (codes "--budget") words word rest → IsOption (codes "--handings") words other left → ⊥
apart words rest left word other (inl a) (inl b) = differ (codes "--budget") (codes "--handings") refl refl (first_same (sym a ∙ b))
apart words rest left word other (inl a) (inr b) = differ (codes "--budget") (codes "--handings" ++ codes "=" ++ other) refl refl (first_same (sym a ∙ b))
apart words rest left word other (inr a) (inl b) = differ (codes "--budget" ++ codes "=" ++ word) (codes "--handings") refl refl (first_same (sym a ∙ b))
apart words rest left word other (inr a) (inr b) = differ (codes "--budget" ++ codes "=" ++ word) (codes "--handings" ++ codes "=" ++ other) refl refl (first_same (sym a ∙ b))

same_given : (name : List ℕ) (number : ℕ) (given : GivenOption) (other : ℕ) → given.name ≡ name → given.number ≡ Some other → number ≡ other → record { name = name; number = Some number } ≡ given
same_given name number given other named numbered same = λ i. record { name = sym named i; number = (ap Some same ∙ sym numbered) i }

-- what is known of an option that the words begin with: it is the only one
abbrev pub IsOnly : RunOption → ℕ → List (List ℕ) → List (List ℕ) → Type 0
IsOnly choice number words rest = (given : GivenOption) (left : List (List ℕ)) → IsOneOf run_options words given left → (given_as choice number ≡ given) × (rest ≡ left)

pub budget_only : (words rest : List (List ℕ)) (number : ℕ) → GivesNumber (codes "--budget") MAX_BUDGET words number rest →
    ((other : ℕ) (left : List (List ℕ)) → GivesNumber (codes "--budget") MAX_BUDGET words other left → (number ≡ other) × (rest ≡ left)) → IsOnly Budget number words rest
budget_only words rest number here only given left (inl is) =
    let k = gives MAX_BUDGET given.number (codes "--budget") words left is.1 in
    let same = only k.0 left k.2 in (same_given (codes "--budget") number given k.0 is.0 k.1 same.0, same.1)
budget_only words rest number here only given left (inr (inl is)) =
    let k = gives MAX_HANDINGS given.number (codes "--handings") words left is.1 in absurd (apart words rest left here.0 k.2.0 here.1 k.2.1)
budget_only words rest number here only given left (inr (inr never)) = absurd never

pub handings_only : (words rest : List (List ℕ)) (number : ℕ) → ((other : ℕ) (left : List (List ℕ)) → GivesNumber (codes "--budget") MAX_BUDGET words other left → ⊥) →
    ((other : ℕ) (left : List (List ℕ)) → GivesNumber (codes "--handings") MAX_HANDINGS words other left → (number ≡ other) × (rest ≡ left)) → IsOnly Handings number words rest
handings_only words rest number no_budget only given left (inl is) = let k = gives MAX_BUDGET given.number (codes "--budget") words left is.1 in absurd (no_budget k.0 left k.2)
handings_only words rest number no_budget only given left (inr (inl is)) =
    let k = gives MAX_HANDINGS given.number (codes "--handings") words left is.1 in
    let same = only k.0 left k.2 in (same_given (codes "--handings") number given k.0 is.0 k.1 same.0, same.1)
handings_only words rest number no_budget only given left (inr (inr never)) = absurd never

pub neither : (words : List (List ℕ)) → ((other : ℕ) (left : List (List ℕ)) → GivesNumber (codes "--budget") MAX_BUDGET words other left → ⊥) →
    ((other : ℕ) (left : List (List ℕ)) → GivesNumber (codes "--handings") MAX_HANDINGS words other left → ⊥) → (given : GivenOption) (left : List (List ℕ)) → IsOneOf run_options words given left → ⊥
neither words no_budget no_handings given left (inl is) = let k = gives MAX_BUDGET given.number (codes "--budget") words left is.1 in no_budget k.0 left k.2
neither words no_budget no_handings given left (inr (inl is)) = let k = gives MAX_HANDINGS given.number (codes "--handings") words left is.1 in no_handings k.0 left k.2
neither words no_budget no_handings given left (inr (inr never)) = never

-- ---- one option more

not_given : (given : Option ℕ) → is_some given ≡ false → given ≡ None
not_given None is = refl
not_given (Some number) is = absurd (cc is)

-- what is asked for with the option that the words begin with, and with all words
pub more_asked : (choice : RunOption) (number : ℕ) (words rest : List (List ℕ)) (budget handings : Option ℕ) (bounds : Bounds) → is_some (so_far choice budget handings) ≡ false →
    IsOneOf run_options words (given_as choice number) rest → AsksMore (budget_with choice number budget) (handings_with choice number handings) rest bounds → AsksMore budget handings words bounds
more_asked Budget number words rest budget handings bounds free is asks =
    subst (λ b. AsksMore b handings words bounds) (sym (not_given budget free))
    (record { given = given_as Budget number ∷ asks.given; are = leads is asks.are; one_budget = asks.one_budget; one_limit = asks.one_limit; entries = asks.entries })
more_asked Handings number words rest budget handings bounds free is asks =
    subst (λ h. AsksMore budget h words bounds) (sym (not_given handings free))
    (record { given = given_as Handings number ∷ asks.given; are = leads is asks.are; one_budget = asks.one_budget; one_limit = asks.one_limit; entries = asks.entries })

-- words that are options are the first of them and others
record Begins (choice : RunOption) (number : ℕ) (rest : List (List ℕ)) (given : List GivenOption) : Type 0 where
  pub more : List GivenOption
  pub is : given ≡ given_as choice number ∷ more
  pub are : AreOptions run_options rest more

begins : (choice : RunOption) (number : ℕ) (words rest : List (List ℕ)) (given : List GivenOption) → AreOptions run_options words given → words ≢ [] → IsOnly choice number words rest → Begins choice number rest given
begins choice number words rest given none some only = absurd (some refl)
begins choice number words rest given (leads {rest = left} {first = first} {more = more} is are) some only =
    let same = only first left is in
    record { more = more; is = ap (λ g. g ∷ more) (sym same.0); are = subst (λ r. AreOptions run_options r more) (sym same.1) are }

pub more_only : (choice : RunOption) (number : ℕ) (words rest : List (List ℕ)) (budget handings : Option ℕ) (bounds : Bounds) → is_some (so_far choice budget handings) ≡ false →
    IsOnly choice number words rest → words ≢ [] → AsksMore budget handings words bounds → AsksMore (budget_with choice number budget) (handings_with choice number handings) rest bounds
more_only Budget number words rest budget handings bounds free only some asks =
    let k = begins Budget number words rest asks.given asks.are some only in
    record {
      given = k.more;
      are = k.are;
      one_budget = subst (λ b. IsChosen standard_bounds.budget (held b ++ numbers_of (codes "--budget") (given_as Budget number ∷ k.more)) bounds.budget) (not_given budget free)
          (subst (λ g. IsChosen standard_bounds.budget (held budget ++ numbers_of (codes "--budget") g) bounds.budget) k.is asks.one_budget);
      one_limit = subst (λ g. IsChosen standard_bounds.handings (held handings ++ numbers_of (codes "--handings") g) bounds.handings) k.is asks.one_limit;
      entries = asks.entries;
    }
more_only Handings number words rest budget handings bounds free only some asks =
    let k = begins Handings number words rest asks.given asks.are some only in
    record {
      given = k.more;
      are = k.are;
      one_budget = subst (λ g. IsChosen standard_bounds.budget (held budget ++ numbers_of (codes "--budget") g) bounds.budget) k.is asks.one_budget;
      one_limit = subst (λ h. IsChosen standard_bounds.handings (held h ++ numbers_of (codes "--handings") (given_as Handings number ∷ k.more)) bounds.handings) (not_given handings free)
          (subst (λ g. IsChosen standard_bounds.handings (held handings ++ numbers_of (codes "--handings") g) bounds.handings) k.is asks.one_limit);
      entries = asks.entries;
    }

chosen_twice : (standard : ℕ) (before : Option ℕ) (given : Option ℕ) (more : List (Option ℕ)) (number : ℕ) → is_some before ≡ true → IsChosen standard (held before ++ given ∷ more) number → ⊥
chosen_twice standard None given more number some is = cc some
chosen_twice standard (Some before) given more number some is = is

-- an option that was given before is not given again
pub twice : (choice : RunOption) (number : ℕ) (words rest : List (List ℕ)) (budget handings : Option ℕ) (bounds : Bounds) → is_some (so_far choice budget handings) ≡ true →
    IsOnly choice number words rest → words ≢ [] → AsksMore budget handings words bounds → ⊥
twice Budget number words rest budget handings bounds before only some asks =
    let k = begins Budget number words rest asks.given asks.are some only in
    chosen_twice standard_bounds.budget budget (Some number) (numbers_of (codes "--budget") k.more) bounds.budget before
    (subst (λ g. IsChosen standard_bounds.budget (held budget ++ numbers_of (codes "--budget") g) bounds.budget) k.is asks.one_budget)
twice Handings number words rest budget handings bounds before only some asks =
    let k = begins Handings number words rest asks.given asks.are some only in
    chosen_twice standard_bounds.handings handings (Some number) (numbers_of (codes "--handings") k.more) bounds.handings before
    (subst (λ g. IsChosen standard_bounds.handings (held handings ++ numbers_of (codes "--handings") g) bounds.handings) k.is asks.one_limit)

-- words that begin with no option ask for nothing
pub no_more : (words : List (List ℕ)) (budget handings : Option ℕ) (bounds : Bounds) → words ≢ [] →
    ((given : GivenOption) (left : List (List ℕ)) → IsOneOf run_options words given left → ⊥) → AsksMore budget handings words bounds → ⊥
no_more words budget handings bounds some never asks = by words asks.given asks.are some never
  where
    by : (words : List (List ℕ)) (given : List GivenOption) → AreOptions run_options words given → words ≢ [] → ((given : GivenOption) (left : List (List ℕ)) → IsOneOf run_options words given left → ⊥) → ⊥
    by words given none some never = some refl
    by words given (leads {rest = rest} {first = first} is are) some never = never first rest is

-- ---- all of them

pub some_words : (words : List (List ℕ)) → false ≡ (length words == 0) → words ≢ []
some_words words test empty = let bad : false ≡ true = test ∙ ap (λ (w : List (List ℕ)). length w == 0) empty in cc bad

pub empty_words : (words : List (List ℕ)) → true ≡ (length words == 0) → words ≡ []
empty_words [] test = refl
empty_words (first ∷ words) test = absurd (omega (arith, eqb-true (length (first ∷ words)) 0 (sym test)))

-- the limits where no word is left
abbrev pub limits_of : Option ℕ → Option ℕ → Bounds
limits_of budget handings = record {
  budget = unwrap_or budget standard_bounds.budget;
  handings = unwrap_or handings standard_bounds.handings;
  entries = standard_bounds.entries;
}

chosen : (standard : ℕ) (given : Option ℕ) → IsChosen standard (held given ++ []) (unwrap_or given standard)
chosen standard None = refl
chosen standard (Some number) = refl

chosen_only : (standard : ℕ) (given : Option ℕ) (number : ℕ) → IsChosen standard (held given ++ []) number → unwrap_or given standard ≡ number
chosen_only standard None number is = sym is
chosen_only standard (Some given) number is = cc is

pub all_read : (budget handings : Option ℕ) → AsksMore budget handings [] (limits_of budget handings)
all_read budget handings = record { given = []; are = none; one_budget = chosen standard_bounds.budget budget; one_limit = chosen standard_bounds.handings handings; entries = refl }

none_given : (words : List (List ℕ)) (given : List GivenOption) → AreOptions run_options words given → words ≡ [] → given ≡ []
none_given words given none empty = refl
none_given words given (leads {rest = rest} {first = first} is are) empty =
    absurd (neither [] (λ other left bad. nothing_given bad) (λ other left bad. nothing_given bad) first rest (subst (λ w. IsOneOf run_options w first rest) empty is))

pub all_read_only : (words : List (List ℕ)) (budget handings : Option ℕ) (bounds : Bounds) → words ≡ [] → AsksMore budget handings words bounds → limits_of budget handings ≡ bounds
all_read_only words budget handings bounds empty asks =
    let all = none_given words asks.given asks.are empty in
    let first = subst (λ g. IsChosen standard_bounds.budget (held budget ++ numbers_of (codes "--budget") g) bounds.budget) all asks.one_budget in
    let second = subst (λ g. IsChosen standard_bounds.handings (held handings ++ numbers_of (codes "--handings") g) bounds.handings) all asks.one_limit in
    λ i. record {
      budget = chosen_only standard_bounds.budget budget bounds.budget first i;
      handings = chosen_only standard_bounds.handings handings bounds.handings second i;
      entries = sym asks.entries i;
    }

-- ---- what is asked for

-- the words after `run` ask for a run
pub run_asked : (words rest : List (List ℕ)) (limits : Option Limits) → words ≡ codes "run" ∷ rest → IfSome limits (λ l. AsksMore None None rest (bounds_of l)) → IfSome limits (λ l. Asks words (replies (bounds_of l)))
run_asked words rest None is asks = tt
run_asked words rest (Some limits) is asks =
    for_replies (record { options = rest; given = asks.given; run = is; are = asks.are; one_budget = asks.one_budget; one_limit = asks.one_limit; entries = asks.entries })

-- and only these ask for anything
asked_after : (words : List (List ℕ)) (asked : Request) → Asks words asked → (rest : List (List ℕ)) × (bounds : Bounds) × (words ≡ codes "run" ∷ rest) × (replies bounds ≡ asked) × AsksMore None None rest bounds
asked_after words asked (for_replies {bounds = bounds} a) =
    (a.options, bounds, a.run, refl, record { given = a.given; are = a.are; one_budget = a.one_budget; one_limit = a.one_limit; entries = a.entries })

same_asked : (limits : Option Limits) (bounds : Bounds) (asked : Request) → replies bounds ≡ asked → IsSomeAnd limits (λ l. bounds_of l ≡ bounds) → IsSomeAnd limits (λ l. replies (bounds_of l) ≡ asked)
same_asked None bounds asked is same = same
same_asked (Some l) bounds asked is same = ap replies same ∙ is

pub run_only : (words rest : List (List ℕ)) (limits : Option Limits) → words ≡ codes "run" ∷ rest → ((bounds : Bounds) → AsksMore None None rest bounds → IsSomeAnd limits (λ l. bounds_of l ≡ bounds)) →
    (asked : Request) → Asks words asked → IsSomeAnd limits (λ l. replies (bounds_of l) ≡ asked)
run_only words rest limits is only asked asks =
    let k = asked_after words asked asks in
    same_asked limits k.1 asked k.3 (only k.1 (subst (λ r. AsksMore None None r k.1) (rest_same (sym k.2 ∙ is)) k.4))

-- other words ask for nothing
pub not_run : (words : List (List ℕ)) → ((rest : List (List ℕ)) → words ≡ codes "run" ∷ rest → ⊥) → (asked : Request) → Asks words asked → ⊥
not_run words other asked asks = let k = asked_after words asked asks in other k.0 k.2
