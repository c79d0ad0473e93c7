-- The lines that are split off are those of the main section, and no others are.
use Rattle.std.proofs.Common.{◌≡◌, ◌≢◌, ℕ, ◌+◌, ◌-◌, ◌<◌, ◌≤◌, List, [], ◌∷◌, ◌++◌, length, take, drop, ap, sym, ◌∙◌, refl, arith, append-nil, append_assoc, length-append, subst}
use Rattle.std.specs.Prelude.{Bool, true, false, not, ◌==◌, ◌||◌}
use Rattle.std.specs.List.{prefix_len}
use Rattle.std.proofs.Math.Seq.{drop-append_seam, take-append_seam}
use Rattle.std.proofs.lemmas.Bool.{cond-false, cond-true, eqb-false, eqb-true, ne_eqb}
use Rattle.std.proofs.lemmas.List.{length-take-le, map-append, take-append-drop}
use Rattle.std.proofs.lemmas.List.Sums.{prefix_len-le-length}
use Rattle.osgi_header.specs.declared.lines.LineAt.{LineAt}
use Rattle.osgi_header.proofs.Fronts.{fronts, prefix_len-fail, prefix_len-front, prefix_len-pass}
use Rattle.osgi_header.specs.computed.HeaderReader.{after_end, line_seen, lines_seen, without_line_feed}
use Rattle.osgi_header.specs.Lines.{AreLines, BeginsWithPhysicalLine, cr, crlf, empty_line, EndsLine, EndsSection, is_line_byte, lf, PhysicalLine, next, no_bytes, nothing, over}

-- ---- a line split off

-- what follows a line, and the end of the line there
record HasEnd (remainder : List ℕ) : Type 0 where
  end : List ℕ
  is : remainder ≡ end ++ after_end remainder
  ends : EndsLine end (after_end remainder)

-- after a CR
data BehindReturn (rest : List ℕ) : Type 0 where
  alone : rest ≡ without_line_feed rest → ((more : List ℕ) → rest ≢ 10 ∷ more) → BehindReturn rest
  with_feed : rest ≡ 10 ∷ without_line_feed rest → BehindReturn rest

return_by : (b : ℕ) (rest : List ℕ) (feed : Bool) → (b == 10) ≡ feed → BehindReturn (b ∷ rest)
return_by b rest true is = with_feed (rw (cond-true (b == 10) rest (b ∷ rest) is) (ap (λ x. x ∷ rest) (eqb-true b 10 is)))
return_by b rest false is =
    let other : b ≢ 10 = eqb-false b 10 is in
    alone (sym (cond-false (b == 10) rest (b ∷ rest) is)) (λ more e. other (cc e))

behind_return : (rest : List ℕ) → BehindReturn rest
behind_return [] = alone refl (λ more e. cc e)
behind_return (b ∷ rest) = return_by b rest (b == 10) refl

end_return : (rest : List ℕ) → BehindReturn rest → HasEnd (13 ∷ rest)
end_return rest (alone is stops) = record { end = 13 ∷ []; is = ap (λ l. 13 ∷ l) is; ends = cr (λ more e. stops more (is ∙ e)) }
end_return rest (with_feed is) = record { end = 13 ∷ 10 ∷ []; is = ap (λ l. 13 ∷ l) is; ends = crlf }

end_by : (b : ℕ) (rest : List ℕ) (return feed : Bool) → (b == 13) ≡ return → (b == 10) ≡ feed → is_line_byte b ≡ false → HasEnd (b ∷ rest)
end_by b rest true feed is_return is_feed no_line = rw (eqb-true b 13 is_return) (end_return rest (behind_return rest))
end_by b rest false true is_return is_feed no_line = rw (eqb-true b 10 is_feed) (record { end = 10 ∷ []; is = refl; ends = lf })
end_by b rest false false is_return is_feed no_line =
    let passes : is_line_byte b ≡ true = ap not (ap (λ x. x || (b == 10)) is_return ∙ is_feed) in
    absurd (cc (passes, no_line))

has_end : (remainder : List ℕ) → ((b : ℕ) (rest : List ℕ) → remainder ≡ b ∷ rest → is_line_byte b ≡ false) → HasEnd remainder
has_end [] stops = record { end = []; is = refl; ends = nothing }
has_end (b ∷ rest) stops = end_by b rest (b == 13) (b == 10) refl refl (stops b rest refl)

pub begins : (bytes : List ℕ) → 0 < prefix_len is_line_byte bytes →
    BeginsWithPhysicalLine bytes (take (prefix_len is_line_byte bytes) bytes) (after_end (drop (prefix_len is_line_byte bytes) bytes))
begins bytes some =
    let n : ℕ = prefix_len is_line_byte bytes in
    let prefix = fronts is_line_byte bytes in
    let ended = has_end (drop n bytes) prefix.stops in
    record {
      end = ended.end;
      is = sym (take-append-drop n bytes) ∙ ap (λ l. take n bytes ++ l) ended.is;
      some = omega (arith, some, length-take-le n bytes (prefix_len-le-length is_line_byte bytes));
      line_bytes = prefix.all;
      ends = ended.ends;
    }

ends_by : (b : ℕ) (rest : List ℕ) (test : Bool) → is_line_byte b ≡ test → prefix_len is_line_byte (b ∷ rest) ≡ 0 → EndsSection (b ∷ rest)
ends_by b rest true e none = absurd (omega (arith, none, prefix_len-pass is_line_byte b rest e))
ends_by b rest false e none = empty_line e

pub ends_section : (bytes : List ℕ) → prefix_len is_line_byte bytes ≡ 0 → EndsSection bytes
ends_section [] none = no_bytes
ends_section (b ∷ rest) none = ends_by b rest (is_line_byte b) refl none

-- ---- the lines so far, and those of what is left

pub begins-len : (bytes text left : List ℕ) (is : BeginsWithPhysicalLine bytes text left) → length bytes ≡ length text + (length is.end + length left)
begins-len bytes text left is =
    omega (arith, ap length is.is, length-append text (is.end ++ left), length-append is.end left)

pub lines_more : (bytes rest text left : List ℕ) (so_far pushed : List LineAt) (line : LineAt) → length rest ≤ length bytes → BeginsWithPhysicalLine rest text left →
    line_seen line ≡ record { at = length bytes - length rest; text = text } → pushed ≡ so_far ++ line ∷ [] →
    ((others : List PhysicalLine) → AreLines (length bytes - length rest) rest others → AreLines 0 bytes (lines_seen so_far ++ others)) →
    (others : List PhysicalLine) → AreLines (length bytes - length left) left others → AreLines 0 bytes (lines_seen pushed ++ others)
lines_more bytes rest text left so_far pushed line within is seen added read others are =
    let len = begins-len rest text left is in
    let place : length bytes - length left ≡ (length bytes - length rest) + (length text + length is.end) = omega (arith, len, within) in
    let here : AreLines (length bytes - length rest) rest (record { at = length bytes - length rest; text = text } ∷ others)
    = next is (subst (λ n. AreLines n left others) place are) in
    let all : lines_seen pushed ++ others ≡ lines_seen so_far ++ line_seen line ∷ others
    = ap (λ l. lines_seen l ++ others) added ∙ ap (λ l. l ++ others) (map-append line_seen so_far (line ∷ [])) ∙ append_assoc (lines_seen so_far) (line_seen line ∷ []) others in
    rw all (read (line_seen line ∷ others) (subst (λ l. AreLines (length bytes - length rest) rest (l ∷ others)) (sym seen) here))

pub lines_end : (bytes rest : List ℕ) (so_far : List LineAt) → EndsSection rest →
    ((others : List PhysicalLine) → AreLines (length bytes - length rest) rest others → AreLines 0 bytes (lines_seen so_far ++ others)) → AreLines 0 bytes (lines_seen so_far)
lines_end bytes rest so_far ends read = subst (AreLines 0 bytes) (append-nil (lines_seen so_far)) (read [] (over ends))

-- ---- no other lines

behind_feedless : (left : List ℕ) → ((more : List ℕ) → left ≢ 10 ∷ more) → without_line_feed left ≡ left
behind_feedless [] stops = refl
behind_feedless (b ∷ rest) stops = cond-false (b == 10) _ _ (ne_eqb b 10 (λ e. absurd (stops rest (ap (λ x. x ∷ rest) e))))

end_is : (end left : List ℕ) → EndsLine end left → after_end (end ++ left) ≡ left
end_is end left crlf = refl
end_is end left lf = refl
end_is end left (cr stops) = behind_feedless left stops
end_is end left nothing = refl

end_stops : (end left : List ℕ) → EndsLine end left → prefix_len is_line_byte (end ++ left) ≡ 0
end_stops end left crlf = refl
end_stops end left lf = refl
end_stops end left (cr stops) = refl
end_stops end left nothing = refl

record IsFirst (bytes text left : List ℕ) : Type 0 where
  len : prefix_len is_line_byte bytes ≡ length text
  text_is : text ≡ take (prefix_len is_line_byte bytes) bytes
  left_is : left ≡ after_end (drop (prefix_len is_line_byte bytes) bytes)

first_is : (bytes text left : List ℕ) → BeginsWithPhysicalLine bytes text left → IsFirst bytes text left
first_is bytes text left is =
    let len : prefix_len is_line_byte bytes ≡ length text
    = ap (prefix_len is_line_byte) is.is ∙ prefix_len-front is_line_byte text (is.end ++ left) is.line_bytes (end_stops is.end left is.ends) in
    record {
      len = len;
      text_is = sym (ap (λ n. take n bytes) len ∙ ap (take (length text)) is.is ∙ take-append_seam text (is.end ++ left));
      left_is =
          sym
          (ap (λ n. after_end (drop n bytes)) len ∙ ap (λ l. after_end (drop (length text) l)) is.is ∙ ap after_end (drop-append_seam text (is.end ++ left))
          ∙ end_is is.end left is.ends);
    }

section_len : (bytes : List ℕ) → EndsSection bytes → prefix_len is_line_byte bytes ≡ 0
section_len [] no_bytes = refl
section_len (b ∷ rest) (empty_line no_line) = prefix_len-fail is_line_byte b rest no_line

not_both : (first second text left : List ℕ) → first ≡ second → EndsSection first → BeginsWithPhysicalLine second text left → ⊥
not_both first second text left same ends is =
    let some = is.some in
    let len = (first_is second text left is).len in
    let none = section_len first ends in
    omega (arith, some, len, none, ap (prefix_len is_line_byte) same)

cons_same : (at other : ℕ) (text another : List ℕ) (lines others : List PhysicalLine) → at ≡ other → text ≡ another → lines ≡ others →
    record { at = at; text = text } ∷ lines ≡ record { at = other; text = another } ∷ others
cons_same at other text another lines others e f g =
    ap (λ n. record { at = n; text = text } ∷ lines) e ∙ ap (λ t. record { at = other; text = t } ∷ lines) f ∙ ap (λ l. record { at = other; text = another } ∷ l) g

lines_same : {at other : ℕ} {bytes another : List ℕ} {lines others : List PhysicalLine} → at ≡ other → bytes ≡ another → AreLines at bytes lines → AreLines other another others → lines ≡ others
lines_same e f (over ends) (over ends_too) = refl
lines_same {bytes = bytes} {another = another} e f (over ends) (next {text = text} {left = left} is more) = absurd (not_both bytes another text left f ends is)
lines_same {bytes = bytes} {another = another} e f (next {text = text} {left = left} is more) (over ends) = absurd (not_both another bytes text left (sym f) ends is)
lines_same {at = at} {other = other} {bytes = bytes} {another = another} e f (next {text = text} {left = left} {lines = lines} is more)
    (next {text = text_too} {left = left_too} {lines = others} is_too more_too) =
    let first = first_is bytes text left is in
    let second = first_is another text_too left_too is_too in
    let same_text : text ≡ text_too = first.text_is ∙ ap (λ b. take (prefix_len is_line_byte b) b) f ∙ sym second.text_is in
    let same_left : left ≡ left_too = first.left_is ∙ ap (λ b. after_end (drop (prefix_len is_line_byte b) b)) f ∙ sym second.left_is in
    let place : at + (length text + length is.end) ≡ other + (length text_too + length is_too.end)
    = omega (arith, e, ap length f, begins-len bytes text left is, begins-len another text_too left_too is_too, ap length same_left, ap length same_text) in
    cons_same at other text text_too lines others e same_text (lines_same place same_left more more_too)

pub only_lines : (bytes : List ℕ) (lines others : List PhysicalLine) → AreLines 0 bytes lines → AreLines 0 bytes others → lines ≡ others
only_lines bytes lines others first second = lines_same refl refl first second
