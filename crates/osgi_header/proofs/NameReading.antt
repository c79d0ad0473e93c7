-- A directive's value lists the names that the reader gives, and only those.
use Rattle.std.proofs.Common.{◌≡◌, ◌≢◌, ℕ, ◌<◌, List, [], ◌∷◌, length, ap, sym, ◌∙◌, refl, arith}
use Rattle.std.specs.Prelude.{Bool, true, false, map, All}
use Rattle.std.specs.List.{AllZip, join_with_byte, onto_first, slice_split}
use Rattle.std.proofs.lemmas.Bool.{eqb-false, ne_eqb}
use Rattle.std.proofs.lemmas.List.Elements.{All-cons, All-head, All-tail}
use Rattle.std.proofs.lemmas.List.Splits.{join_with_byte-slice_split, length-slice_split, slice_split-cons_no, slice_split-cons_yes, slice_split_at, slice_split_none}
use Rattle.osgi_header.specs.computed.ClauseReader.{trimmed}
use Rattle.osgi_header.specs.computed.NameReader.{is_comma, names_of}
use Rattle.osgi_header.specs.NameLists.{AreNames}
use Rattle.osgi_header.specs.Spaces.{IsTrimmed}
use Rattle.osgi_header.proofs.Trimming.{trimmed-is, trims}

-- no byte is a comma
abbrev IsPart : List ℕ → Type 0
IsPart part = All (λ b. b ≢ 44) part

no_bytes : IsPart []
no_bytes = λ k d below. absurd (omega arith)

no_parts : All IsPart []
no_parts = λ k d below. absurd (omega arith)

onto_parts : (b : ℕ) (parts : List (List ℕ)) → b ≢ 44 → All IsPart parts → All IsPart (onto_first b parts)
onto_parts b [] other are = All-cons IsPart (b ∷ []) [] (All-cons (λ x. x ≢ 44) b [] other no_bytes) no_parts
onto_parts b (part ∷ parts) other are =
    All-cons IsPart (b ∷ part) parts (All-cons (λ x. x ≢ 44) b part other (All-head IsPart part parts are)) (All-tail IsPart part parts are)

parts_by : (b : ℕ) (rest : List ℕ) (test : Bool) → is_comma b ≡ test → All IsPart (slice_split is_comma rest) → All IsPart (slice_split is_comma (b ∷ rest))
parts_by b rest true e more = rw (slice_split-cons_yes is_comma b rest e) (All-cons IsPart [] (slice_split is_comma rest) no_bytes more)
parts_by b rest false e more = rw (slice_split-cons_no is_comma b rest e) (onto_parts b (slice_split is_comma rest) (eqb-false b 44 e) more)

are_parts : (text : List ℕ) → All IsPart (slice_split is_comma text)
are_parts [] = All-cons IsPart [] [] no_bytes no_parts
are_parts (b ∷ rest) = parts_by b rest (is_comma b) refl (are_parts rest)

none_ends : (part : List ℕ) → IsPart part → All (λ b. is_comma b ≡ false) part
none_ends part is = λ k d below. ne_eqb _ 44 (is k d below)

split_joined : (parts : List (List ℕ)) → 0 < length parts → All IsPart parts → slice_split is_comma (join_with_byte 44 parts) ≡ parts
split_joined [] some are = absurd (omega (arith, some))
split_joined (part ∷ []) some are = slice_split_none is_comma part (none_ends part (All-head IsPart part [] are))
split_joined (part ∷ next ∷ parts) some are =
    slice_split_at is_comma part 44 (join_with_byte 44 (next ∷ parts)) (none_ends part (All-head IsPart part (next ∷ parts) are)) refl
    ∙ ap (λ l. part ∷ l) (split_joined (next ∷ parts) (omega arith) (All-tail IsPart part (next ∷ parts) are))

trims_all : (parts : List (List ℕ)) → AllZip IsTrimmed parts (map trimmed parts)
trims_all [] = tt
trims_all (part ∷ parts) = (trims part, trims_all parts)

trimmed_all : (parts names : List (List ℕ)) → AllZip IsTrimmed parts names → map trimmed parts ≡ names
trimmed_all [] [] are = refl
trimmed_all [] (name ∷ names) are = absurd are
trimmed_all (part ∷ parts) [] are = absurd are
trimmed_all (part ∷ parts) (name ∷ names) are = λ i. trimmed-is part name are.0 i ∷ trimmed_all parts names are.1 i

pub names_sound : (text : List ℕ) → AreNames text (names_of text)
names_sound text = record {
  parts = slice_split is_comma text;
  is = sym (join_with_byte-slice_split 44 text);
  some = omega (arith, length-slice_split is_comma text);
  apart = are_parts text;
  named = trims_all (slice_split is_comma text);
}

pub names_read : (text : List ℕ) (names : List (List ℕ)) → AreNames text names → names_of text ≡ names
names_read text names are =
    ap (λ t. map trimmed (slice_split is_comma t)) are.is ∙ ap (map trimmed) (split_joined are.parts are.some are.apart) ∙ trimmed_all are.parts names are.named
