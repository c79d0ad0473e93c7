-- What is left of a text without the spaces and tabs round it.
use Rattle.std.proofs.Common.{◌≡◌, ℕ, List, [], ◌∷◌, ◌++◌, ap, sym, ◌∙◌, refl, arith, append-nil}
use Rattle.std.specs.Prelude.{Bool, true, false, reverse}
use Rattle.std.specs.List.{AllPass}
use Rattle.std.proofs.lemmas.Bool.{cond-false, cond-true}
use Rattle.std.proofs.lemmas.List.{reverse-append, reverse-reverse}
use Rattle.std.proofs.lemmas.List.Elements.{All-append, All-cons, All-head, All-tail}
use Rattle.osgi_header.specs.computed.ClauseReader.{after_blanks, before_blanks, trimmed}
use Rattle.osgi_header.specs.Spaces.{is_space_or_tab, IsTrimmed}

pub no_bytes : (p : ℕ → Bool) → AllPass p []
no_bytes p = λ k d below. absurd (omega arith)

pub reverse-cons : (b : ℕ) (rest : List ℕ) → reverse (b ∷ rest) ≡ reverse rest ++ b ∷ []
reverse-cons b rest = reverse-append (b ∷ []) rest

pub reverse-snoc : (prefix : List ℕ) (b : ℕ) → reverse (prefix ++ b ∷ []) ≡ b ∷ reverse prefix
reverse-snoc prefix b = reverse-append prefix (b ∷ [])

AllPass-reverse : (p : ℕ → Bool) (xs : List ℕ) → AllPass p xs → AllPass p (reverse xs)
AllPass-reverse p [] all = all
AllPass-reverse p (x ∷ xs) all =
    rw (reverse-cons x xs)
    (All-append (λ y. p y ≡ true) (reverse xs) (x ∷ []) (AllPass-reverse p xs (All-tail (λ y. p y ≡ true) x xs all))
    (All-cons (λ y. p y ≡ true) x [] (All-head (λ y. p y ≡ true) x xs all) (no_bytes p)))

-- a text is blanks and what is left after them
record Spaced (text : List ℕ) : Type 0 where
  blanks : List ℕ
  are : AllPass is_space_or_tab blanks
  is : text ≡ blanks ++ after_blanks text

spaced_by : (b : ℕ) (rest : List ℕ) (test : Bool) → is_space_or_tab b ≡ test → Spaced rest → Spaced (b ∷ rest)
spaced_by b rest true e after = record {
  blanks = b ∷ after.blanks;
  are = All-cons (λ x. is_space_or_tab x ≡ true) b after.blanks e after.are;
  is = ap (λ l. b ∷ l) after.is ∙ ap (λ l. b ∷ after.blanks ++ l) (sym (cond-true (is_space_or_tab b) (after_blanks rest) (b ∷ rest) e));
}
spaced_by b rest false e after = record { blanks = []; are = no_bytes is_space_or_tab; is = sym (cond-false (is_space_or_tab b) (after_blanks rest) (b ∷ rest) e) }

spaced : (text : List ℕ) → Spaced text
spaced [] = record { blanks = []; are = no_bytes is_space_or_tab; is = refl }
spaced (b ∷ rest) = spaced_by b rest (is_space_or_tab b) refl (spaced rest)

after_blanks-front : (blanks rest : List ℕ) → AllPass is_space_or_tab blanks → after_blanks (blanks ++ rest) ≡ after_blanks rest
after_blanks-front [] rest are = refl
after_blanks-front (b ∷ blanks) rest are =
    cond-true (is_space_or_tab b) _ _ (All-head (λ x. is_space_or_tab x ≡ true) b blanks are) ∙ after_blanks-front blanks rest (All-tail (λ x. is_space_or_tab x ≡ true) b blanks are)

after_blanks-all : (blanks : List ℕ) → AllPass is_space_or_tab blanks → after_blanks blanks ≡ []
after_blanks-all blanks are = ap after_blanks (sym (append-nil blanks)) ∙ after_blanks-front blanks [] are

pub after_blanks-other : (b : ℕ) (rest : List ℕ) → is_space_or_tab b ≡ false → after_blanks (b ∷ rest) ≡ b ∷ rest
after_blanks-other b rest other = cond-false (is_space_or_tab b) _ _ other

-- what is left after blanks does not begin with one
stops_by : (b : ℕ) (rest : List ℕ) (test : Bool) → is_space_or_tab b ≡ test → (x : ℕ) (more : List ℕ) →
    (after_blanks rest ≡ x ∷ more → is_space_or_tab x ≡ false) → after_blanks (b ∷ rest) ≡ x ∷ more → is_space_or_tab x ≡ false
stops_by b rest true e x more later is = later (sym (cond-true (is_space_or_tab b) _ _ e) ∙ is)
stops_by b rest false e x more later is =
    let same : b ∷ rest ≡ x ∷ more = sym (cond-false (is_space_or_tab b) _ _ e) ∙ is in
    let here : b ≡ x = cc same in
    ap is_space_or_tab (sym here) ∙ e

stops : (text : List ℕ) (x : ℕ) (more : List ℕ) → after_blanks text ≡ x ∷ more → is_space_or_tab x ≡ false
stops [] x more is = absurd (cc is)
stops (b ∷ rest) x more is = stops_by b rest (is_space_or_tab b) refl x more (stops rest x more) is

-- a text and what is left of it
pub trims : (text : List ℕ) → IsTrimmed text (trimmed text)
trims text =
    let begun : List ℕ = after_blanks text in
    let prefix = spaced text in
    let back = spaced (reverse begun) in
    let ended : List ℕ = after_blanks (reverse begun) in
    let split : begun ≡ reverse ended ++ reverse back.blanks
    = sym (reverse-reverse begun) ∙ ap reverse back.is ∙ reverse-append back.blanks ended in
    record {
      before = prefix.blanks;
      remainder = reverse back.blanks;
      is = prefix.is ∙ ap (λ l. prefix.blanks ++ l) split;
      blank_before = prefix.are;
      blank_after = AllPass-reverse is_space_or_tab back.blanks back.are;
      first = λ b rest is. stops text b (rest ++ reverse back.blanks) (split ∙ ap (λ l. l ++ reverse back.blanks) is);
      last = λ rest b is. stops (reverse begun) b (reverse rest) (sym (reverse-reverse ended) ∙ ap reverse is ∙ reverse-snoc rest b);
    }

tight_end : (text inner turned : List ℕ) → IsTrimmed text inner → reverse inner ≡ turned → reverse (after_blanks turned) ≡ inner
tight_end text inner [] is turn = ap reverse (sym turn) ∙ reverse-reverse inner
tight_end text inner (b ∷ rest) is turn =
    let whole : inner ≡ reverse rest ++ b ∷ [] = sym (reverse-reverse inner) ∙ ap reverse turn ∙ reverse-cons b rest in
    ap reverse (after_blanks-other b rest (is.last (reverse rest) b whole)) ∙ ap reverse (sym turn) ∙ reverse-reverse inner

-- blanks after a text that does not end with one
before_blanks-tight : (text inner : List ℕ) (is : IsTrimmed text inner) → before_blanks (inner ++ is.remainder) ≡ inner
before_blanks-tight text inner is =
    ap (λ l. reverse (after_blanks l)) (reverse-append inner is.remainder)
    ∙ ap reverse (after_blanks-front (reverse is.remainder) (reverse inner) (AllPass-reverse is_space_or_tab is.remainder is.blank_after))
    ∙ tight_end text inner (reverse inner) is refl

begun_by : (text : List ℕ) (inner : List ℕ) (is : IsTrimmed text inner) → trimmed (inner ++ is.remainder) ≡ inner
begun_by text [] is = ap before_blanks (after_blanks-all is.remainder is.blank_after)
begun_by text (b ∷ rest) is = ap before_blanks (after_blanks-other b (rest ++ is.remainder) (is.first b rest refl)) ∙ before_blanks-tight text (b ∷ rest) is

-- and nothing else is left of it
pub trimmed-is : (text inner : List ℕ) → IsTrimmed text inner → trimmed text ≡ inner
trimmed-is text inner is =
    ap trimmed is.is ∙ ap before_blanks (after_blanks-front is.before (inner ++ is.remainder) is.blank_before) ∙ begun_by text inner is
