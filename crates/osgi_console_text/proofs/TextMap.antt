-- What the peeks and the entries of each line write, with one more of them.
use Rattle.std.proofs.Common.{◌≡◌, ℕ, List, [], ◌∷◌, ◌++◌, ap, sym, ◌∙◌, refl, append-nil, append_assoc, map, arith}
use Rattle.std.specs.Prelude.{Bool, true, false, cond, Option, None, Some, nat_eq, nat_lt, filter, unwrap_or}
use Rattle.std.specs.BTreeMap.{get}
use Rattle.std.specs.List.{concat}
use Rattle.std.specs.Ordering.{is_eq, nat_cmp}
use Rattle.std.specs.declared.cmp.Ordering.TheVariants.{Equal, Greater, Less}
use Rattle.std.proofs.lemmas.Bool.{cond-false, cond-true, eqb-true, ltb-true}
use Rattle.std.proofs.lemmas.List.{map-append}
use Rattle.std.proofs.lemmas.List.Elements.{filter-append}
use Rattle.std.proofs.lemmas.List.Folds.{concat-append}
use Rattle.osgi_ops.specs.Levels.{active_level, moved_to}
use Rattle.osgi_ops.specs.laws.Along.{latest-quiet, latest-set}
use Rattle.osgi_session.specs.laws.Texts.{entries_text-push}
use Rattle.osgi_session.specs.Lines.{is_of}
use Rattle.osgi_session.specs.Rendering.{ends_without_job, entries_text, entry_text, line_text, peek_text, peeks_text, takes_no_job}
use Rattle.osgi_ops.specs.declared.entry.Entry.{Entry}
use Rattle.osgi_ops.specs.declared.peek.Peek.{Peek}
use Rattle.osgi_session.specs.declared.line.Content.{Content}
use Rattle.osgi_session.specs.declared.line.Content.TheVariants.{Empty, Join, Bad, Run}
use Rattle.osgi_session.specs.declared.line.Line.{Line}
use Rattle.osgi_console_text.specs.computed.Texts.{AreTextsOf, ends_so, has_ended, Holds, line_text_by, text_at, text_under, Texts, written}
use Rattle.osgi_console_text.specs.declared.rendering.LineText.{LineText}

-- ---- the active level

level_by : (history : List Entry) (e : Entry) (moved : Option ℕ) → moved_to e.op e.reply ≡ moved → active_level (history ++ e ∷ []) ≡ unwrap_or moved (active_level history)
level_by history e None says = ap (λ o. unwrap_or o 1) (latest-quiet (λ (x : Entry). moved_to x.op x.reply) history e says)
level_by history e (Some to) says = ap (λ o. unwrap_or o 1) (latest-set (λ (x : Entry). moved_to x.op x.reply) history e to says)

pub level-last : (history : List Entry) (e : Entry) → active_level (history ++ e ∷ []) ≡ unwrap_or (moved_to e.op e.reply) (active_level history)
level-last history e = level_by history e (moved_to e.op e.reply) refl

-- ---- how the entries end

ends-last : (entries : List Entry) (e : Entry) → ends_without_job (entries ++ e ∷ []) ≡ takes_no_job e.op e.reply
ends-last [] e = refl
ends-last (x ∷ []) e = refl
ends-last (x ∷ (y ∷ more)) e = ends-last (y ∷ more) e

ended-yes : (number : ℕ) (history : List Entry) (e : Entry) → is_of number e ≡ true → ends_without_job (filter (is_of number) (history ++ e ∷ [])) ≡ takes_no_job e.op e.reply
ended-yes number history e of =
    ap ends_without_job (filter-append (is_of number) history (e ∷ []) ∙ ap (λ l. filter (is_of number) history ++ l) (cond-true (is_of number e) (e ∷ []) [] of))
    ∙ ends-last (filter (is_of number) history) e

ended-no : (number : ℕ) (history : List Entry) (e : Entry) → is_of number e ≡ false →
    ends_without_job (filter (is_of number) (history ++ e ∷ [])) ≡ ends_without_job (filter (is_of number) history)
ended-no number history e other =
    ap ends_without_job
    (filter-append (is_of number) history (e ∷ []) ∙ ap (λ l. filter (is_of number) history ++ l) (cond-false (is_of number e) (e ∷ []) [] other)
    ∙ append-nil (filter (is_of number) history))

-- ---- the text

text-yes : (number : ℕ) (history : List Entry) (e : Entry) → is_of number e ≡ true → entries_text number (history ++ e ∷ []) ≡ entries_text number history ++ entry_text history e
text-yes number history e of = entries_text-push number history e ∙ ap (λ t. entries_text number history ++ t) (cond-true (is_of number e) (entry_text history e) [] of)

text-no : (number : ℕ) (history : List Entry) (e : Entry) → is_of number e ≡ false → entries_text number (history ++ e ∷ []) ≡ entries_text number history
text-no number history e other =
    entries_text-push number history e ∙ ap (λ t. entries_text number history ++ t) (cond-false (is_of number e) (entry_text history e) [] other) ∙ append-nil (entries_text number history)

-- ---- peeks

abbrev is_peek_of : ℕ → Peek → Bool
is_peek_of number p = nat_eq p.tag.command number

peeks-last : (number : ℕ) (peeks : List Peek) (p : Peek) →
    peeks_text number (peeks ++ p ∷ []) ≡ peeks_text number peeks ++ concat (map peek_text (cond (is_peek_of number p) (p ∷ []) []))
peeks-last number peeks p =
    ap (λ l. concat (map peek_text l)) (filter-append (is_peek_of number) peeks (p ∷ []))
    ∙ ap concat (map-append peek_text (filter (is_peek_of number) peeks) (cond (is_peek_of number p) (p ∷ []) []))
    ∙ concat-append (map peek_text (filter (is_peek_of number) peeks)) (map peek_text (cond (is_peek_of number p) (p ∷ []) []))

peek-yes : (number : ℕ) (peeks : List Peek) (p : Peek) → is_peek_of number p ≡ true → text_under [] (peeks ++ p ∷ []) number ≡ text_under [] peeks number ++ peek_text p
peek-yes number peeks p of =
    append-nil (peeks_text number (peeks ++ p ∷ [])) ∙ peeks-last number peeks p
    ∙ ap (λ l. peeks_text number peeks ++ concat (map peek_text l)) (cond-true (is_peek_of number p) (p ∷ []) [] of)
    ∙ ap (λ l. peeks_text number peeks ++ l) (append-nil (peek_text p))
    ∙ ap (λ l. l ++ peek_text p) (sym (append-nil (peeks_text number peeks)))

peek-no : (number : ℕ) (peeks : List Peek) (p : Peek) → is_peek_of number p ≡ false → text_under [] (peeks ++ p ∷ []) number ≡ text_under [] peeks number
peek-no number peeks p other =
    append-nil (peeks_text number (peeks ++ p ∷ [])) ∙ peeks-last number peeks p
    ∙ ap (λ l. peeks_text number peeks ++ concat (map peek_text l)) (cond-false (is_peek_of number p) (p ∷ []) [] other)

-- ---- all lines

-- one more text under a number: that line has it behind what it had, and each other line has what it had
put_by : (number q : ℕ) (test : Bool) (before after : List ℕ) (ended_before ended_after : Bool) (added : List ℕ) (ends : Bool) (taken at_old at_less at_more : Option LineText) (line : LineText) →
    nat_eq number q ≡ test → (number ≡ q → taken ≡ at_old) → Holds before ended_before at_old → line.text.items ≡ written taken ++ added → line.has_ended ≡ ends →
    (test ≡ true → (after ≡ before ++ added) × (ended_after ≡ ends)) → (test ≡ false → (after ≡ before) × (ended_after ≡ ended_before)) →
    at_less ≡ cond test None at_old → at_more ≡ cond test (Some line) at_less → Holds after ended_after at_more
put_by number q true before after ended_before ended_after added ends taken at_old at_less at_more line same found known more ended own other less with_line = record {
  text = ap written with_line ∙ more ∙ ap (λ t. t ++ added) (ap written (found (eqb-true number q same)) ∙ known.text) ∙ sym (own refl).0;
  ended = ap has_ended with_line ∙ ended ∙ sym (own refl).1;
}
put_by number q false before after ended_before ended_after added ends taken at_old at_less at_more line same found known more ended own other less with_line = record {
  text = ap written (with_line ∙ less) ∙ known.text ∙ sym (other refl).0;
  ended = ap has_ended (with_line ∙ less) ∙ known.ended ∙ sym (other refl).1;
}

same_by : (x y : ℕ) (less same : Bool) → nat_lt x y ≡ less → nat_eq x y ≡ same → is_eq (cond less Less (cond same Equal Greater)) ≡ same
same_by x y true true l s = absurd (omega (arith, ltb-true x y l, eqb-true x y s))
same_by x y true false l s = refl
same_by x y false true l s = refl
same_by x y false false l s = refl

-- numbers compare as equal where they are the same
same_number : (x y : ℕ) → is_eq (nat_cmp x y) ≡ nat_eq x y
same_number x y = same_by x y (nat_lt x y) (nat_eq x y) refl refl

-- the text of a line was taken out and put back with more
abbrev pub WasPut : ℕ → LineText → Texts → Texts → Texts → Type 0
WasPut number line old less more =
    ((q : ℕ) → get nat_cmp less q ≡ cond (is_eq (nat_cmp number q)) None (get nat_cmp old q)) ×
    ((q : ℕ) → get nat_cmp more q ≡ cond (is_eq (nat_cmp number q)) (Some line) (get nat_cmp less q))

-- so it gains that of one more entry
pub texts_put : (history : List Entry) (peeks : List Peek) (e : Entry) (old less more : Texts) (taken : Option LineText) (line : LineText) → AreTextsOf history peeks old →
    taken ≡ get nat_cmp old e.tag.command → line.text.items ≡ written taken ++ entry_text history e → line.has_ended ≡ takes_no_job e.op e.reply →
    WasPut e.tag.command line old less more → AreTextsOf (history ++ e ∷ []) peeks more
texts_put history peeks e old less more taken line texts is_taken added ended put = λ q.
    put_by e.tag.command q (is_eq (nat_cmp e.tag.command q)) (text_under history peeks q) (text_under (history ++ e ∷ []) peeks q) (ends_so history q) (ends_so (history ++ e ∷ []) q)
    (entry_text history e) (takes_no_job e.op e.reply) taken (get nat_cmp old q) (get nat_cmp less q) (get nat_cmp more q) line (sym (same_number e.tag.command q))
    (λ here. is_taken ∙ ap (get nat_cmp old) here) (texts q) added ended
    (λ yes.
    (let of : is_of q e ≡ true = sym (same_number e.tag.command q) ∙ yes in (
      ap (λ t. peeks_text q peeks ++ t) (text-yes q history e of) ∙ sym (append_assoc (peeks_text q peeks) (entries_text q history) (entry_text history e)),
      ended-yes q history e of,
    )))
    (λ no.
    (let other : is_of q e ≡ false = sym (same_number e.tag.command q) ∙ no in
    (ap (λ t. peeks_text q peeks ++ t) (text-no q history e other), ended-no q history e other)))
    (put.0 q) (put.1 q)

-- or, before any entry, that of one more peek
pub peek_put : (peeks : List Peek) (p : Peek) (old less more : Texts) (taken : Option LineText) (line : LineText) → AreTextsOf [] peeks old →
    taken ≡ get nat_cmp old p.tag.command → line.text.items ≡ written taken ++ peek_text p → line.has_ended ≡ false →
    WasPut p.tag.command line old less more → AreTextsOf [] (peeks ++ p ∷ []) more
peek_put peeks p old less more taken line texts is_taken added ended put = λ q.
    put_by p.tag.command q (is_eq (nat_cmp p.tag.command q)) (text_under [] peeks q) (text_under [] (peeks ++ p ∷ []) q) false false
    (peek_text p) false taken (get nat_cmp old q) (get nat_cmp less q) (get nat_cmp more q) line (sym (same_number p.tag.command q))
    (λ here. is_taken ∙ ap (get nat_cmp old) here) (texts q) added ended
    (λ yes. (peek-yes q peeks p (sym (same_number p.tag.command q) ∙ yes), refl))
    (λ no. (peek-no q peeks p (sym (same_number p.tag.command q) ∙ no), refl))
    (put.0 q) (put.1 q)

-- ---- one line

line_by : (content : Content) (number : ℕ) (history : List Entry) (peeks : List Peek) (line : Option LineText) (ended : Bool) → Holds (text_under history peeks number) (ends_so history number) line →
    ends_so history number ≡ ended → line_text_by content line ≡ line_text history peeks (record { number = number; lane = 0; content = content })
line_by Empty number history peeks line ended is e = refl
line_by Join number history peeks line ended is e = refl
line_by Bad number history peeks line ended is e = refl
line_by (Run command) number history peeks line true is e = rw (is.text, is.ended, e) refl
line_by (Run command) number history peeks line false is e = rw (is.text, is.ended, e) refl

-- what a line writes by what its peeks and entries write is what it writes by the history and the peeks
pub line_text_from : (history : List Entry) (peeks : List Peek) (texts : Texts) (line : Line) → AreTextsOf history peeks texts →
    line_text_by line.content (text_at texts line.number) ≡ line_text history peeks line
line_text_from history peeks texts line are = line_by line.content line.number history peeks (text_at texts line.number) (ends_so history line.number) (are line.number) refl
