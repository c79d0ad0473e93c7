-- Texts of the items of a list, one after another.
use Rattle.std.proofs.Common.{◌≡◌, ℕ, ◌+◌, ◌<◌, ◌≤◌, false, refl, append-nil, List, [], ◌∷◌, ◌++◌, length, get_or, drop, map, replicate, ap, sym, ◌∙◌, append_assoc, arith}
use Rattle.std.specs.Prelude.{◌==◌, ◌||◌, if◌then◌else◌, nat_eq, None, OnOk, Option, Result, Ok, Err, Some}
use Rattle.std.specs.Fmt.{decimal}
use Rattle.std.specs.List.{concat, join_with_byte}
use Rattle.std.proofs.lemmas.List.{at_drop_all, at_drop_more, map-append, replicate-append-replicate}
use Rattle.std.proofs.lemmas.List.Folds.{concat-append}
use Rattle.std.proofs.lemmas.Simd.{map-map}
use Rattle.osgi_session.specs.Rendering.{added_lines, fragment_row_text, ids_text, line_at, lines_at, service_row_text, service_lines, wire_lines, wire_row_text, wired_row_text}
use Rattle.osgi_ops.specs.declared.rows.WireRow.{WireRow}
use Rattle.osgi_ops.specs.declared.service.ServiceRow.{ServiceRow}

-- a byte as it stands between quotes
abbrev pub escaped : ℕ → List ℕ
escaped byte = if (byte == 34) || (byte == 92) then 92 ∷ byte ∷ [] else byte ∷ []

-- two more spaces
pub indent_more : (start out more : List ℕ) (n : ℕ) → out ≡ start ++ replicate (n + n) 32 → more ≡ out ++ 32 ∷ 32 ∷ [] → more ≡ start ++ replicate ((n + 1) + (n + 1)) 32
indent_more start out more n so_far added =
    let two : (n + n) + 2 ≡ (n + 1) + (n + 1) = omega arith in
    added
    ∙ ap (λ l. l ++ 32 ∷ 32 ∷ []) so_far
    ∙ append_assoc start (replicate (n + n) 32) (32 ∷ 32 ∷ [])
    ∙ ap (λ l. start ++ l) (replicate-append-replicate (n + n) 2 32 ∙ ap (λ k. replicate k 32) two)

-- with the text of the next item, the texts of those that are left make the same whole
pub parts_step : {A : Type 0} (text : A → List ℕ) (items : List A) (i : ℕ) (d item : A) (whole out more : List ℕ) → i < length items → item ≡ get_or items i d →
    more ≡ out ++ text item → out ++ concat (map text (drop i items)) ≡ whole → more ++ concat (map text (drop (i + 1) items)) ≡ whole
parts_step text items i d item whole out more within is added so_far =
    ap (λ l. l ++ concat (map text (drop (i + 1) items))) added
    ∙ append_assoc out (text item) (concat (map text (drop (i + 1) items)))
    ∙ ap (λ x. out ++ (text x ++ concat (map text (drop (i + 1) items)))) is
    ∙ ap (λ l. out ++ l) (sym (at_drop_more (λ l. concat (map text l)) items i d within))
    ∙ so_far

-- the whole stands where no item is left
pub parts_end : {A : Type 0} (text : A → List ℕ) (items : List A) (i : ℕ) (whole out : List ℕ) → length items ≤ i →
    out ++ concat (map text (drop i items)) ≡ whole → out ≡ whole
parts_end text items i whole out over so_far =
    sym (append-nil out) ∙ ap (λ l. out ++ l) (sym (at_drop_all (λ l. concat (map text l)) items i over)) ∙ so_far

-- ids, where there are some
pub ids_text-some : {A : Type 0} (number : A → ℕ) (ids : List A) → nat_eq (length ids) 0 ≡ false → ids_text number ids ≡ concat (map (λ id. 32 ∷ decimal (number id)) ids)
ids_text-some number [] none = absurd (cc)
ids_text-some number (id ∷ ids) some = refl

-- the lines of services, where there are some
pub service_lines-some : (depth : ℕ) (rows : List ServiceRow) → nat_eq (length rows) 0 ≡ false → map (line_at depth) (service_lines rows) ≡ map (λ row. line_at depth (service_row_text row)) rows
service_lines-some depth [] none = absurd (cc)
service_lines-some depth (row ∷ rows) some = map-map (line_at depth) service_row_text (row ∷ rows)

-- joined pieces: the first, and the others each after a comma
pub join-cons : (class : List ℕ) (classes : List (List ℕ)) → join_with_byte 44 (class ∷ classes) ≡ class ++ concat (map (λ c. 44 ∷ c) classes)
join-cons class [] = sym (append-nil class)
join-cons class (next ∷ classes) = ap (λ l. class ++ 44 ∷ l) (join-cons next classes)

-- the lines of wires and of fragments, where there is a wire, and where there is a fragment
abbrev pub lines_of : ℕ → List WireRow → List WireRow → List ℕ
lines_of depth rows fragments = lines_at depth (map wire_row_text rows) ++ lines_at depth (map fragment_row_text fragments)

wire_lines-cons : (depth : ℕ) (row : WireRow) (rows fragments : List WireRow) → lines_at depth (wire_lines (row ∷ rows) fragments) ≡ lines_of depth (row ∷ rows) fragments
wire_lines-cons depth row rows fragments =
    ap concat (map-append (line_at depth) (map wire_row_text (row ∷ rows)) (map fragment_row_text fragments))
    ∙ concat-append (map (line_at depth) (map wire_row_text (row ∷ rows))) (map (line_at depth) (map fragment_row_text fragments))

pub wire_lines-wire : (depth : ℕ) (rows fragments : List WireRow) → nat_eq (length rows) 0 ≡ false → lines_at depth (wire_lines rows fragments) ≡ lines_of depth rows fragments
wire_lines-wire depth [] fragments none = absurd (cc)
wire_lines-wire depth (row ∷ rows) fragments some = wire_lines-cons depth row rows fragments

pub wire_lines-fragment : (depth : ℕ) (rows fragments : List WireRow) → nat_eq (length fragments) 0 ≡ false → lines_at depth (wire_lines rows fragments) ≡ lines_of depth rows fragments
wire_lines-fragment depth rows [] none = absurd (cc)
wire_lines-fragment depth [] (fragment ∷ fragments) some = refl
wire_lines-fragment depth (row ∷ rows) (fragment ∷ fragments) some = wire_lines-cons depth row rows (fragment ∷ fragments)

-- two texts that are added one after the other
pub added_both : {E : Type 0} (r : Result (Unit {0}) E) (out first second a b whole : List ℕ) → first ≡ out ++ a → whole ≡ a ++ b → OnOk r (second ≡ first ++ b) →
    OnOk r (second ≡ out ++ whole)
added_both (Ok done) out first second a b whole before is after = after ∙ ap (λ l. l ++ b) before ∙ append_assoc out a b ∙ ap (λ l. out ++ l) (sym is)
added_both (Err e) out first second a b whole before is after = tt

-- the lines of a load: that of the wire that it added, if it added one, and one more
pub loaded_lines : (depth : ℕ) (wire : Option WireRow) (line : List ℕ) → lines_at depth (added_lines wire ++ line ∷ []) ≡ lines_at depth (added_lines wire) ++ line_at depth line
loaded_lines depth None line = append-nil (line_at depth line)
loaded_lines depth (Some row) line =
    ap (λ l. line_at depth (wired_row_text row) ++ l) (append-nil (line_at depth line)) ∙ ap (λ l. l ++ line_at depth line) (sym (append-nil (line_at depth (wired_row_text row))))
