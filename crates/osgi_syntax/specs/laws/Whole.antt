-- Words that stand as wholes: where spaces separate such words in a line, they are its words.
use Rattle.std.proofs.Common.{◌≡◌, ◌≢◌, ℕ, ◌+◌, ◌<◌, List, [], ◌∷◌, ◌++◌, length, add-one, ap, sym, ◌∙◌, refl, arith, append-nil, get_or, length-append, subst}
use Rattle.std.specs.Prelude.{Bool, false, ◌==◌, None, Some}
use Rattle.std.specs.List.{AllPass}
use Rattle.std.proofs.Math.Seq.{drop-append_seam, take-append_seam}
use Rattle.std.proofs.lemmas.Bool.{cond-false, cond-true, eq-eqb, ne_eqb, not_from_false, or_from}
use Rattle.std.proofs.lemmas.List.Elements.{All-head}
use Rattle.osgi_base.specs.declared.parts.QuoteState.{QuoteState}
use Rattle.osgi_base.specs.declared.parts.QuoteState.TheVariants.{Bare}
use Rattle.osgi_syntax.specs.laws.Spaces.{after_spaces-all, after_spaces-prefix, EndsWord, with_nothing, with_space}
use Rattle.osgi_syntax.specs.laws.Splitting.{begins, words_of-after_spaces, words_of-space}
use Rattle.osgi_base.specs.Parts.{ends_part, part_len, state_after, scan}
use Rattle.osgi_base.specs.laws.Scans.{other_byte, plain_by, scan_more, scan-plain, scan_quoted}
use Rattle.osgi_syntax.specs.Splitting.{after_spaces, after_word, first_word, words_of}
use Rattle.osgi_syntax.specs.Properties.{is_bare_byte}
use Rattle.osgi_base.specs.Quotes.{IsQuoted}
use Rattle.osgi_syntax.specs.LineWords.{AreLineWords, IsLineWord}
use Rattle.osgi_syntax.specs.Words.{AreSpaces, IsSeparated}

len_end : (rest : List ℕ) → EndsWord rest → part_len 32 Bare rest ≡ 0
len_end [] with_nothing = refl
len_end (b ∷ rest) (with_space _ _ is) = cond-true (b == 32) _ _ (eq-eqb b 32 is)

len_whole : (place : QuoteState) (word rest : List ℕ) → scan 32 place word ≡ Some Bare → EndsWord rest → part_len 32 place (word ++ rest) ≡ length word
len_whole place [] rest scanned ends =
    let here : place ≡ Bare = cc scanned in
    rw here (len_end rest ends)
len_whole place (b ∷ word) rest scanned ends =
    let more = scan_more 32 place b word Bare (ends_part 32 place b) refl scanned in
    cond-false (ends_part 32 place b) _ _ more.0 ∙ ap (λ n. n + 1) (len_whole (state_after place b) word rest more.1 ends) ∙ add-one (length word)

plain_start : (b : ℕ) (word : List ℕ) → scan 32 Bare (b ∷ word) ≡ Some Bare → b ≢ 32
plain_start b word scanned is = cc (scanned, cond-true (b == 32) None (scan 32 (state_after Bare b) word) (eq-eqb b 32 is))

first_plain : (word rest : List ℕ) → IsLineWord word → after_spaces (word ++ rest) ≡ word ++ rest
first_plain [] rest whole = absurd (omega (arith, whole.some))
first_plain (b ∷ word) rest whole = cond-false (b == 32) _ _ (ne_eqb b 32 (plain_start b word whole.scanned))

-- the first word of a text, and what is left after it
pub record HasFirstWord (text word rest : List ℕ) : Type 0 where
  pub some : 0 < length (after_spaces text)
  pub first : first_word text ≡ word
  pub remainder : after_word text ≡ rest

first_whole : (spaces word rest : List ℕ) → AreSpaces spaces → IsLineWord word → EndsWord rest → HasFirstWord (spaces ++ (word ++ rest)) word rest
first_whole spaces word rest are whole ends =
    let prefix : after_spaces (spaces ++ (word ++ rest)) ≡ word ++ rest = after_spaces-prefix spaces (word ++ rest) are ∙ first_plain word rest whole in
    let len : part_len 32 Bare (word ++ rest) ≡ length word = len_whole Bare word rest whole.scanned ends in
    record {
      some = rw prefix (omega (arith, length-append word rest, whole.some));
      first = rw (prefix, len) (take-append_seam word rest);
      remainder = rw (prefix, len) (drop-append_seam word rest);
    }

ends_spaces : (spaces rest : List ℕ) → AreSpaces spaces → 0 < length spaces → EndsWord (spaces ++ rest)
ends_spaces [] rest are some = absurd (omega (arith, some))
ends_spaces (b ∷ spaces) rest are some = with_space b (spaces ++ rest) (All-head (λ x. x ≡ 32) b spaces are)

pub ends_all : (spaces : List ℕ) → AreSpaces spaces → EndsWord spaces
ends_all [] are = with_nothing
ends_all (b ∷ spaces) are = with_space b spaces (All-head (λ x. x ≡ 32) b spaces are)

ends_separated : (IsEnd : List ℕ → Type 0) (words : List (List ℕ)) (rest : List ℕ) → ((end : List ℕ) → IsEnd end → EndsWord end) → IsSeparated IsEnd words rest → EndsWord rest
ends_separated IsEnd [] rest end separated = end rest separated
ends_separated IsEnd (word ∷ words) rest end separated = rw separated.4 (ends_spaces separated.0 (word ++ separated.1) separated.2 separated.3)

-- where whole words part a text, the first of them is its first word
pub first_separated : (IsEnd : List ℕ → Type 0) (word : List ℕ) (words : List (List ℕ)) (text : List ℕ) → ((end : List ℕ) → IsEnd end → EndsWord end) → IsLineWord word →
    (separated : IsSeparated IsEnd (word ∷ words) text) → HasFirstWord text word separated.1
first_separated IsEnd word words text end whole separated =
    subst (λ t. HasFirstWord t word separated.1) (sym separated.4) (first_whole separated.0 word separated.1 separated.2 whole (ends_separated IsEnd words separated.1 end separated.5))

-- and all of them are its words
pub separated_words : (words : List (List ℕ)) (text : List ℕ) → AreLineWords words → IsSeparated AreSpaces words text → words_of text ≡ words
separated_words [] text whole are = sym (words_of-after_spaces text) ∙ ap words_of (after_spaces-all text are)
separated_words (word ∷ words) text whole separated =
    let prefix = first_separated AreSpaces word words text ends_all whole.0 separated in
    (begins text prefix.some).words
    ∙ rw (prefix.first, prefix.remainder) (ap (λ l. word ∷ l) (separated_words words separated.1 whole.1 separated.5))

pub words_are : (text : List ℕ) (words : List (List ℕ)) → AreLineWords words → IsSeparated AreSpaces words (32 ∷ text) → words_of text ≡ words
words_are text words are separated = sym (words_of-space 32 text refl) ∙ separated_words words (32 ∷ text) are separated

-- ---- bytes without space and quote

pub bare_by : (p : ℕ → Bool) (word : List ℕ) → p 32 ≡ false → p 34 ≡ false → AllPass p word → AllPass is_bare_byte word
bare_by p word no_space no_quote all = λ k d below.
    not_from_false _ (or_from _ _ (other_byte p 32 _ no_space (all k d below)) (other_byte p 34 _ no_quote (all k d below)))

pub scan-bare : (prefix rest : List ℕ) → AllPass is_bare_byte prefix → scan 32 Bare (prefix ++ rest) ≡ scan 32 Bare rest
scan-bare prefix rest all = scan-plain 32 prefix rest (λ k d below. plain_by 32 is_bare_byte (get_or prefix k d) refl refl (all k d below))

pub scan_bare : (word : List ℕ) → AllPass is_bare_byte word → scan 32 Bare word ≡ Some Bare
scan_bare word all = ap (scan 32 Bare) (sym (append-nil word)) ∙ scan-bare word [] all

pub whole_bare : (word : List ℕ) → 0 < length word → AllPass is_bare_byte word → IsLineWord word
whole_bare word some all = record { some = some; scanned = scan_bare word all }

-- ---- quoted texts

pub whole_quoted : (word text : List ℕ) → IsQuoted word text → IsLineWord word
whole_quoted word text quoted = record { some = rw quoted.is (omega arith); scanned = scan_quoted 32 word text quoted refl }
