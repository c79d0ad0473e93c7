-- The lines of each header are those that are taken together, and no others are.
use Rattle.std.proofs.Common.{◌≡◌, ℕ, suc, ◌+◌, ◌-◌, ◌≤◌, List, [], ◌∷◌, ◌++◌, length, get_or, take, drop, ap, sym, ◌∙◌, refl, arith, length-drop, subst}
use Rattle.std.specs.Prelude.{Bool, true, false}
use Rattle.std.specs.List.{AllPass, prefix_len}
use Rattle.std.proofs.Math.Seq.{take-length}
use Rattle.std.proofs.lemmas.Bool.{cond-false, cond-true}
use Rattle.std.proofs.lemmas.List.{drop-drop, drop-map, length-map, length-take-le, take-map}
use Rattle.std.proofs.lemmas.List.Sums.{prefix_len-le-length}
use Rattle.std.proofs.lemmas.List.Elements.{All-cons, All-head, All-nil, All-tail}
use Rattle.osgi_header.specs.declared.lines.LineAt.{LineAt}
use Rattle.osgi_header.proofs.Fronts.{prefix_len-fail, prefix_len-pass}
use Rattle.osgi_header.specs.computed.HeaderReader.{BeginsWithGroup, following, group, groups_of, leading, line_seen, lines_seen}
use Rattle.osgi_header.specs.Lines.{another, AreGrouped, at_end, continues, Group, header, PhysicalLine, none, StopsGroup}

-- ---- what is taken together is the lines of one header

record Behind (lines : List PhysicalLine) : Type 0 where
  after : List PhysicalLine
  is : lines ≡ leading lines ++ after
  all : AllPass continues (leading lines)
  stops : StopsGroup after
  grouped : AreGrouped after (following lines)

behind_pass : (line : PhysicalLine) (rest : List PhysicalLine) → continues line ≡ true → Behind rest → Behind (line ∷ rest)
behind_pass line rest e more =
    let lead : leading (line ∷ rest) ≡ line ∷ leading rest = cond-true (continues line) _ _ e in
    let follow : following (line ∷ rest) ≡ following rest = cond-true (continues line) _ _ e in
    record {
      after = more.after;
      is = ap (λ l. line ∷ l) more.is ∙ ap (λ l. l ++ more.after) (sym lead);
      all = subst (AllPass continues) (sym lead) (All-cons (λ l. continues l ≡ true) line (leading rest) e more.all);
      stops = more.stops;
      grouped = subst (AreGrouped more.after) (sym follow) more.grouped;
    }

behind_fail : (line : PhysicalLine) (rest : List PhysicalLine) → continues line ≡ false → Behind rest → Behind (line ∷ rest)
behind_fail line rest e more =
    let lead : leading (line ∷ rest) ≡ [] = cond-false (continues line) _ _ e in
    let follow : following (line ∷ rest) ≡ group line (leading rest) ∷ following rest = cond-false (continues line) _ _ e in
    let here : AreGrouped (line ∷ leading rest ++ more.after) (group line (leading rest) ∷ following rest)
    = header line (leading rest) more.all more.stops more.grouped in
    record {
      after = line ∷ rest;
      is = ap (λ l. l ++ line ∷ rest) (sym lead);
      all = subst (AllPass continues) (sym lead) (All-nil (λ l. continues l ≡ true));
      stops = another e;
      grouped = subst (AreGrouped (line ∷ rest)) (sym follow) (subst (λ l. AreGrouped (line ∷ l) (group line (leading rest) ∷ following rest)) (sym more.is) here);
    }

behind_by : (line : PhysicalLine) (rest : List PhysicalLine) (test : Bool) → continues line ≡ test → Behind rest → Behind (line ∷ rest)
behind_by line rest true e more = behind_pass line rest e more
behind_by line rest false e more = behind_fail line rest e more

remainder : (lines : List PhysicalLine) → Behind lines
remainder [] = record { after = []; is = refl; all = All-nil (λ l. continues l ≡ true); stops = at_end; grouped = none }
remainder (line ∷ rest) = behind_by line rest (continues line) refl (remainder rest)

pub grouped : (lines : List PhysicalLine) → AreGrouped lines (groups_of lines)
grouped [] = none
grouped (line ∷ rest) =
    let more = remainder rest in
    subst (λ l. AreGrouped (line ∷ l) (groups_of (line ∷ rest))) (sym more.is) (header line (leading rest) more.all more.stops more.grouped)

-- ---- and no other lines are

leading-front : (more rest : List PhysicalLine) → AllPass continues more → StopsGroup rest → leading (more ++ rest) ≡ more
leading-front [] [] all at_end = refl
leading-front [] (line ∷ rest) all (another e) = cond-false (continues line) _ _ e
leading-front (line ∷ more) rest all stops =
    cond-true (continues line) _ _ (All-head (λ l. continues l ≡ true) line more all)
    ∙ ap (λ l. line ∷ l) (leading-front more rest (All-tail (λ l. continues l ≡ true) line more all) stops)

following-front : (more rest : List PhysicalLine) → AllPass continues more → StopsGroup rest → following (more ++ rest) ≡ groups_of rest
following-front [] [] all at_end = refl
following-front [] (line ∷ rest) all (another e) = cond-false (continues line) _ _ e
following-front (line ∷ more) rest all stops =
    cond-true (continues line) _ _ (All-head (λ l. continues l ≡ true) line more all)
    ∙ following-front more rest (All-tail (λ l. continues l ≡ true) line more all) stops

pub only_groups : {lines : List PhysicalLine} {groups : List Group} → AreGrouped lines groups → groups ≡ groups_of lines
only_groups none = refl
only_groups (header {rest = rest} {groups = groups} first more all stops are) =
    ap (λ l. group first more ∷ l) (only_groups are ∙ sym (following-front more rest all stops))
    ∙ ap (λ l. group first l ∷ following (more ++ rest)) (sym (leading-front more rest all stops))

-- ---- the lines of one header, cut off

leading-take : (lines : List PhysicalLine) → leading lines ≡ take (prefix_len continues lines) lines
leading-take [] = refl
leading-take (line ∷ rest) = leading_by line rest (continues line) refl (leading-take rest)
  where
    leading_by : (line : PhysicalLine) (rest : List PhysicalLine) (test : Bool) → continues line ≡ test → leading rest ≡ take (prefix_len continues rest) rest →
        leading (line ∷ rest) ≡ take (prefix_len continues (line ∷ rest)) (line ∷ rest)
    leading_by line rest true e more =
        cond-true (continues line) _ _ e ∙ ap (λ l. line ∷ l) more ∙ ap (λ n. take n (line ∷ rest)) (sym (prefix_len-pass continues line rest e))
    leading_by line rest false e more = cond-false (continues line) _ _ e ∙ ap (λ n. take n (line ∷ rest)) (sym (prefix_len-fail continues line rest e))

following-drop : (lines : List PhysicalLine) → following lines ≡ groups_of (drop (prefix_len continues lines) lines)
following-drop [] = refl
following-drop (line ∷ rest) = following_by line rest (continues line) refl (following-drop rest)
  where
    following_by : (line : PhysicalLine) (rest : List PhysicalLine) (test : Bool) → continues line ≡ test → following rest ≡ groups_of (drop (prefix_len continues rest) rest) →
        following (line ∷ rest) ≡ groups_of (drop (prefix_len continues (line ∷ rest)) (line ∷ rest))
    following_by line rest true e more =
        cond-true (continues line) _ _ e ∙ more ∙ ap (λ n. groups_of (drop n (line ∷ rest))) (sym (prefix_len-pass continues line rest e))
    following_by line rest false e more =
        cond-false (continues line) _ _ e ∙ ap (λ n. groups_of (drop n (line ∷ rest))) (sym (prefix_len-fail continues line rest e))

seen_take : (n : ℕ) (lines : List LineAt) → lines_seen (take n lines) ≡ take n (lines_seen lines)
seen_take n lines = sym (take-map line_seen n lines)

seen_drop : (n : ℕ) (lines : List LineAt) → lines_seen (drop n lines) ≡ drop n (lines_seen lines)
seen_drop n lines = sym (drop-map line_seen n lines)

-- lines that begin with this one and those that continue it
pub groups_cut : (first : LineAt) (remainder : List LineAt) (n : ℕ) → n ≡ prefix_len continues (lines_seen remainder) →
    groups_of (lines_seen (first ∷ remainder)) ≡ group (line_seen first) (lines_seen (take n remainder)) ∷ groups_of (lines_seen (drop n remainder))
groups_cut first remainder n is =
    ap (λ l. group (line_seen first) l ∷ following (lines_seen remainder)) (leading-take (lines_seen remainder) ∙ ap (λ k. take k (lines_seen remainder)) (sym is) ∙ sym (seen_take n remainder))
    ∙ ap (λ l. group (line_seen first) (lines_seen (take n remainder)) ∷ l)
    (following-drop (lines_seen remainder) ∙ ap (λ k. groups_of (drop k (lines_seen remainder))) (sym is) ∙ ap groups_of (sym (seen_drop n remainder)))

-- the rest of a list of lines, cut at its first
pub cut_first : (rest : List LineAt) (d : LineAt) → 1 ≤ length rest → rest ≡ get_or rest 0 d ∷ take (length rest - 1) (drop 1 rest)
cut_first [] d some = absurd (omega (arith, some))
cut_first (line ∷ rest) d some =
    let len : length (line ∷ rest) - 1 ≡ length rest = omega arith in
    ap (λ l. line ∷ l) (sym (ap (λ n. take n rest) len ∙ take-length rest))

-- the lines of the header that begins at an index
pub begins_group : (lines rest : List LineAt) (start n : ℕ) (d : LineAt) → start ≤ length lines → rest ≡ drop start lines → 1 ≤ length rest →
    n ≡ prefix_len continues (lines_seen (take (length rest - 1) (drop 1 rest))) →
    BeginsWithGroup lines start (line_seen (get_or rest 0 d)) (take n (take (length rest - 1) (drop 1 rest)))
begins_group lines rest start n d within is some count =
    let first : LineAt = get_or rest 0 d in
    let remainder : List LineAt = take (length rest - 1) (drop 1 rest) in
    let split : rest ≡ first ∷ remainder = cut_first rest d some in
    let seen_len : length (lines_seen remainder) ≡ length remainder = length-map remainder line_seen in
    let most : n ≤ length remainder = omega (arith, count, seen_len, prefix_len-le-length continues (lines_seen remainder)) in
    let len : length (take n remainder) ≡ n = length-take-le n remainder most in
    let left : drop (start + (length (take n remainder) + 1)) lines ≡ drop n remainder
    = ap (λ k. drop k lines) (omega (arith, len)) ∙ sym (drop-drop (suc n) start lines) ∙ ap (drop (suc n)) (sym is ∙ split) in
    record {
      groups =
          ap (λ l. groups_of (lines_seen l)) (sym is ∙ split) ∙ groups_cut first remainder n count
          ∙ ap (λ l. group (line_seen first) (lines_seen (take n remainder)) ∷ groups_of (lines_seen l)) (sym left);
      within = omega (arith, within, most, len, ap length split, ap length is, length-drop start lines);
    }

pub count_within : (remainder : List LineAt) (n : ℕ) → n ≡ prefix_len continues (lines_seen remainder) → n ≤ length remainder
count_within remainder n is = omega (arith, is, length-map remainder line_seen, prefix_len-le-length continues (lines_seen remainder))
