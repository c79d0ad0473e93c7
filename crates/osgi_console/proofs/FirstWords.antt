-- The first word of a line tells lines apart: those that say nothing, `join`, those of a lane, and commands.
use Rattle.std.proofs.Common.{◌≡◌, ℕ, ◌<◌, List, [], ◌∷◌, length, take, add-one, ap, sym, ◌∙◌, refl, arith, subst, length-take}
use Rattle.std.specs.Prelude.{Bool, true, false, None, Some, option_and_then, codes}
use Rattle.std.specs.Str.{bytes_eq}
use Rattle.std.proofs.lemmas.Bool.{eqb-true}
use Rattle.osgi_base.specs.Parts.{part_len}
use Rattle.osgi_base.specs.declared.parts.QuoteState.TheVariants.{Bare}
use Rattle.osgi_model.specs.laws.Made.{same_text}
use Rattle.osgi_session.specs.declared.command.Command.{Command}
use Rattle.osgi_console.specs.computed.LineReader.{command_by, command_of, verb_of}
use Rattle.osgi_syntax.specs.LineReader.{is_silent}
use Rattle.osgi_syntax.specs.LineWords.{IsLineWord}
use Rattle.osgi_syntax.specs.Splitting.{after_spaces, after_word, first_word}
use Rattle.osgi_syntax.specs.Words.{IsSeparated}
use Rattle.osgi_syntax.specs.laws.Spaces.{EndsWord}
use Rattle.osgi_syntax.specs.laws.Whole.{first_separated, HasFirstWord}

-- the first word of a line that says nothing: there is none, or a comment begins with it
data IsSilentWord : List ℕ → Type 0 where
  nothing : IsSilentWord []
  hash : (rest : List ℕ) → IsSilentWord (35 ∷ rest)

hash_word : (rest : List ℕ) → IsSilentWord (take (part_len 32 Bare (35 ∷ rest)) (35 ∷ rest))
hash_word rest = rw add-one (hash (take (part_len 32 Bare rest) rest))

silent_word_by : (line remainder : List ℕ) → after_spaces line ≡ remainder → is_silent remainder ≡ true → IsSilentWord (first_word line)
silent_word_by line [] is silent = subst IsSilentWord (sym (ap (λ l. take (part_len 32 Bare l) l) is)) nothing
silent_word_by line (b ∷ rest) is silent =
    let begins : after_spaces line ≡ 35 ∷ rest = is ∙ ap (λ x. x ∷ rest) (eqb-true b 35 silent) in
    subst IsSilentWord (sym (ap (λ l. take (part_len 32 Bare l) l) begins)) (hash_word rest)

loud_by : (line : List ℕ) (test : Bool) → is_silent (after_spaces line) ≡ test → (IsSilentWord (first_word line) → ⊥) → is_silent (after_spaces line) ≡ false
loud_by line true e says = absurd (says (silent_word_by line (after_spaces line) refl e))
loud_by line false e says = e

loud : (line : List ℕ) → (IsSilentWord (first_word line) → ⊥) → is_silent (after_spaces line) ≡ false
loud line says = loud_by line (is_silent (after_spaces line)) refl says

-- ---- words that are no verbs

no_join : (word : List ℕ) → IsSilentWord word → bytes_eq word (codes "join") ≡ false
no_join word nothing = refl
no_join word (hash rest) = refl

no_lane : (word : List ℕ) → IsSilentWord word → bytes_eq word (codes "lane") ≡ false
no_lane word nothing = refl
no_lane word (hash rest) = refl

pub join_loud : (line : List ℕ) → bytes_eq (first_word line) (codes "join") ≡ true → is_silent (after_spaces line) ≡ false
join_loud line is = loud line (λ silent. absurd (cc (is, no_join (first_word line) silent)))

pub lane_loud : (line : List ℕ) → bytes_eq (first_word line) (codes "lane") ≡ true → is_silent (after_spaces line) ≡ false
lane_loud line is = loud line (λ silent. absurd (cc (is, no_lane (first_word line) silent)))

-- where such words part a line, the first of them is its first word
pub front : (IsEnd : List ℕ → Type 0) (word : List ℕ) (words : List (List ℕ)) (line : List ℕ) → ((end : List ℕ) → IsEnd end → EndsWord end) → IsLineWord word →
    (separated : IsSeparated IsEnd (word ∷ words) (32 ∷ line)) → HasFirstWord line word separated.1
front IsEnd word words line end whole separated =
    let prefix = first_separated IsEnd word words (32 ∷ line) end whole separated in
    record { some = prefix.some; first = prefix.first; remainder = prefix.remainder }

-- a line with such a first word has one
pub has_first : (word line : List ℕ) → first_word line ≡ word → 0 < length word → 0 < length (after_spaces line)
has_first word line first some =
    omega (arith, some, ap length first, length-take (part_len 32 Bare (after_spaces line)) (after_spaces line))

-- ---- verbs

no_verb : (word : List ℕ) → IsSilentWord word → verb_of word ≡ None
no_verb word nothing = refl
no_verb word (hash rest) = refl

some_none : (c : Command) → Some c ≡ None → ⊥
some_none c e = absurd (cc e)

-- a line whose first word is no verb says no command
unnamed : (line : List ℕ) (c : Command) → verb_of (first_word line) ≡ None → command_of line ≡ Some c → ⊥
unnamed line c none e = some_none c (sym e ∙ ap (option_and_then (λ v. command_by v (after_word line))) none)

pub command_loud : (line : List ℕ) (c : Command) → command_of line ≡ Some c → is_silent (after_spaces line) ≡ false
command_loud line c e = loud line (λ silent. unnamed line c (no_verb (first_word line) silent) e)

other_by : (word line : List ℕ) (c : Command) (test : Bool) → bytes_eq (first_word line) word ≡ test → verb_of word ≡ None → command_of line ≡ Some c → bytes_eq (first_word line) word ≡ false
other_by word line c true is none e = absurd (unnamed line c (ap verb_of (same_text (first_word line) word is) ∙ none) e)
other_by word line c false is none e = is

-- a line that says a command begins with no other word
pub other : (word line : List ℕ) (c : Command) → verb_of word ≡ None → command_of line ≡ Some c → bytes_eq (first_word line) word ≡ false
other word line c none e = other_by word line c (bytes_eq (first_word line) word) refl none e
