-- The lines of a text, one split off at the start, and the lines that say nothing.
use Rattle.std.proofs.Common.{◌≡◌, ◌≢◌, ℕ, ◌+◌, List, [], ◌∷◌, ◌++◌, length, take, drop, ap, sym, ◌∙◌, refl, arith, subst, append-nil, length-append}
use Rattle.std.specs.Prelude.{Bool, true, false, cond, ◌==◌, None, Some}
use Rattle.std.specs.List.{position, slice_split, onto_first}
use Rattle.std.specs.Str.Lines.{lines, lines_of_parts, strip_carriage_return}
use Rattle.std.proofs.Math.Seq.{take-append_seam, drop-append-add, drop-length}
use Rattle.std.proofs.lemmas.Bool.{cond-false, eqb-true, ne_eqb}
use Rattle.std.proofs.lemmas.List.{nil_from_length, take_all}
use Rattle.std.proofs.lemmas.List.Splits.{slice_split_at, slice_split_none}
use Rattle.osgi_base.specs.laws.Places.{Fails, Found, nowhere, somewhere, found, position-front, position-none}
use Rattle.osgi_syntax.specs.LineReader.{is_line_feed, is_silent}
use Rattle.osgi_syntax.specs.Lines.{BeginsWithLine, SaysNothing, blank, comment}
use Rattle.osgi_syntax.specs.Splitting.{after_spaces}
use Rattle.osgi_syntax.specs.Words.{AreSpaces}
use Rattle.osgi_syntax.specs.laws.Spaces.{after_spaces-all, after_spaces-prefix, spaced}

-- a list has some first part
pub record HasParts {X : Type 0} (parts : List (List X)) : Type 0 where
  pub first : List X
  pub others : List (List X)
  pub is : parts ≡ first ∷ others

onto : {X : Type 0} (x : X) (parts : List (List X)) → HasParts (onto_first x parts)
onto x [] = record { first = x ∷ []; others = []; is = refl }
onto x (part ∷ rest) = record { first = x ∷ part; others = rest; is = refl }

parts_by : {X : Type 0} (x : X) (parts : List (List X)) (b : Bool) → HasParts (cond b ([] ∷ parts) (onto_first x parts))
parts_by x parts true = record { first = []; others = parts; is = refl }
parts_by x parts false = onto x parts

parts_of : {X : Type 0} (p : X → Bool) (xs : List X) → HasParts (slice_split p xs)
parts_of p [] = record { first = []; others = []; is = refl }
parts_of p (x ∷ xs) = parts_by x (slice_split p xs) (p x)

lines_front : (prefix : List ℕ) (x : ℕ) (back : List ℕ) → Fails is_line_feed prefix → is_line_feed x ≡ true → lines (prefix ++ x ∷ back) ≡ strip_carriage_return prefix ∷ lines back
lines_front prefix x back fails passes =
    let parts = parts_of is_line_feed back in
    ap lines_of_parts (slice_split_at is_line_feed prefix x back fails passes ∙ ap (λ l. prefix ∷ l) parts.is)
    ∙ ap (λ l. strip_carriage_return prefix ∷ lines_of_parts l) (sym parts.is)

begins_at : (bytes : List ℕ) (end : ℕ) → Found is_line_feed bytes → position is_line_feed bytes ≡ Some end →
    BeginsWithLine bytes (strip_carriage_return (take end bytes)) (drop (end + 1) bytes)
begins_at bytes end (nowhere fails) place = absurd (cc (place, position-none is_line_feed bytes fails))
begins_at bytes end (somewhere prefix x back fails passes e) place =
    let there : position is_line_feed (prefix ++ x ∷ back) ≡ Some end = rw e at place in
    let at : end ≡ length prefix = cc (there, position-front is_line_feed prefix x back fails passes) in
    let before : take end bytes ≡ prefix = rw (e, at) (take-append_seam prefix (x ∷ back)) in
    let remainder : drop (end + 1) bytes ≡ back = rw (e, at) (drop-append-add prefix (x ∷ back) 1) in
    record {
      lines = rw (before, remainder, e) (lines_front prefix x back fails passes);
      shorter = rw (remainder, e) (omega (arith, length-append prefix (x ∷ back)));
    }

-- where a line end was found, the bytes begin with the line before it
pub line_at : (bytes : List ℕ) (end : ℕ) → position is_line_feed bytes ≡ Some end → BeginsWithLine bytes (strip_carriage_return (take end bytes)) (drop (end + 1) bytes)
line_at bytes end place = begins_at bytes end (found is_line_feed bytes) place

last_by : (bytes : List ℕ) → Found is_line_feed bytes → position is_line_feed bytes ≡ None → lines bytes ≡ lines_of_parts (bytes ∷ [])
last_by bytes (nowhere fails) place = ap lines_of_parts (slice_split_none is_line_feed bytes fails)
last_by bytes (somewhere prefix x back fails passes e) place = absurd (cc (place, e, position-front is_line_feed prefix x back fails passes))

-- where none was found, they are one line, or none where they are empty
last_line : (bytes : List ℕ) → position is_line_feed bytes ≡ None → lines bytes ≡ lines_of_parts (bytes ∷ [])
last_line bytes place = last_by bytes (found is_line_feed bytes) place

one_line : (b : ℕ) (rest : List ℕ) → lines_of_parts ((b ∷ rest) ∷ []) ≡ (b ∷ rest) ∷ []
one_line b rest = cond-false (length (b ∷ rest) == 0) _ _ (ne_eqb _ 0 (λ e. absurd (omega (arith, e))))

-- a last line without an end
pub begins_last : (bytes : List ℕ) → length bytes ≢ 0 → position is_line_feed bytes ≡ None → BeginsWithLine bytes (take (length bytes) bytes) (drop (length bytes) bytes)
begins_last [] some place = absurd (some refl)
begins_last (b ∷ rest) some place =
    rw (take_all (length (b ∷ rest)) (b ∷ rest) (omega arith), drop-length (b ∷ rest))
    (record { lines = last_line (b ∷ rest) place ∙ one_line b rest; shorter = omega arith })

pub no_line : (bytes : List ℕ) → length bytes ≡ 0 → lines bytes ≡ []
no_line bytes none = ap lines (nil_from_length bytes none)

-- ---- lines that say nothing

silent_by : (line spaces remainder : List ℕ) → AreSpaces spaces → line ≡ spaces ++ remainder → is_silent remainder ≡ true → SaysNothing line
silent_by line spaces [] are is silent = blank (subst AreSpaces (sym (is ∙ append-nil spaces)) are)
silent_by line spaces (b ∷ rest) are is silent = comment spaces rest are (is ∙ ap (λ x. spaces ++ x ∷ rest) (eqb-true b 35 silent))

-- a line that is read as one that says nothing says nothing
pub silent_sound : (line : List ℕ) → is_silent (after_spaces line) ≡ true → SaysNothing line
silent_sound line silent =
    let prefix = spaced line in
    silent_by line prefix.spaces (after_spaces line) prefix.are prefix.is silent

-- and one that says nothing is read so
pub silent_read : (line : List ℕ) → SaysNothing line → is_silent (after_spaces line) ≡ true
silent_read line (blank are) = ap is_silent (after_spaces-all line are)
silent_read line (comment spaces rest are e) = ap (λ l. is_silent (after_spaces l)) e ∙ ap is_silent (after_spaces-prefix spaces (35 ∷ rest) are)
