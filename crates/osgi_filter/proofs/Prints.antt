-- What is printed of a filter that was read is read as the same.
use Rattle.std.proofs.Common.{◌≡◌, ℕ, Bool, true, false, not, ◌||◌, ◌&&◌, ◌==◌, List, [], ◌∷◌, ◌++◌, map, refl, sym, inl, inr}
use Rattle.std.specs.List.{concat}
use Rattle.std.proofs.lemmas.Bool.{cases_Bool}
use Rattle.std.proofs.lemmas.List.{append-nil}
use Rattle.osgi_model.specs.declared.filter.Test.{Test}
use Rattle.osgi_model.specs.declared.filter.Filter.{Filter}
use Rattle.osgi_model.specs.declared.filter.Filter.TheFolds.{fold-roll-Filter}
use Rattle.osgi_model.specs.Filters.{is_plain, HasPieces, end, plain, escaped, star, IsTest, equal, present, pieces, approx, at_least, at_most, IsFilter, AreFilters, item, negated, all, any, none, more, ReadsFilter}
use Rattle.osgi_model.specs.FilterTexts.{value_text, starred, test_text, filter_text}
use Rattle.osgi_filter.specs.laws.ValueReading.{star_only, star_alone}

plain_always : (cut : Bool) (b : ℕ) → is_plain true b ≡ true → is_plain cut b ≡ true
plain_always true b h = h
plain_always false b h = weaker (b == 40 || b == 41 || b == 92) (b == 42) h
  where
    weaker : (x y : Bool) → not (x || y && true) ≡ true → not (x || y && false) ≡ true
    weaker true y h = h
    weaker false true h = refl
    weaker false false h = refl

value_cuts : (cut : Bool) (value : List ℕ) → HasPieces cut (value_text value) value []
value_cuts cut [] = end
value_cuts cut (b ∷ bs) =
    elim (cases_Bool (is_plain true b)) [
      | inl h ↦ rw h (plain b (value_text bs) bs [] (plain_always cut b h) (value_cuts cut bs))
      | inr h ↦ rw h (escaped b (value_text bs) bs [] (value_cuts cut bs))
    ]

value_then : (value rest piece : List ℕ) (others : List (List ℕ)) → HasPieces true rest piece others → HasPieces true (value_text value ++ 42 ∷ rest) value (piece ∷ others)
value_then [] rest piece others k = star rest piece others refl k
value_then (b ∷ bs) rest piece others k =
    elim (cases_Bool (is_plain true b)) [
      | inl h ↦ rw h (plain b (value_text bs ++ 42 ∷ rest) bs (piece ∷ others) h (value_then bs rest piece others k))
      | inr h ↦ rw h (escaped b (value_text bs ++ 42 ∷ rest) bs (piece ∷ others) (value_then bs rest piece others k))
    ]

starred_cuts : (others : List (List ℕ)) (piece : List ℕ) → HasPieces true (starred (piece ∷ others)) piece others
starred_cuts [] piece = value_cuts true piece
starred_cuts (next ∷ others) piece = value_then piece (starred (next ∷ others)) next others (starred_cuts others next)

test_printed : (text : List ℕ) (test : Test) → IsTest text test → IsTest (test_text test) test
test_printed text test (equal t v k) = equal (value_text v) v (value_cuts true v)
test_printed text test present = present
test_printed text test (pieces t f s m k nope) = pieces (starred (f ∷ s ∷ m)) f s m (starred_cuts (s ∷ m) f) (λ e. star_only (starred (f ∷ s ∷ m)) f (s ∷ m) (starred_cuts (s ∷ m) f) e (λ h. nope (star_alone t f (s ∷ m) k h.0 h.1)))
test_printed text test (approx t v k) = approx (value_text v) v (value_cuts false v)
test_printed text test (at_least t v k) = at_least (value_text v) v (value_cuts false v)
test_printed text test (at_most t v k) = at_most (value_text v) v (value_cuts false v)

mutual
  filter_printed : (text : List ℕ) (f : Filter) → IsFilter text f → IsFilter (filter_text f) f
  filter_printed text f (item before name after signed test hb hn ha ht) = rw fold-roll-Filter (item [] name [] (test_text test) test tt hn tt (test_printed signed test ht))
  filter_printed text f (negated before one after g hb k ha) = rw fold-roll-Filter (negated [] (filter_text g) [] g tt (filter_printed one g k) tt)
  filter_printed text f (all t g gs o) = rw fold-roll-Filter (all (concat (map filter_text (g ∷ gs))) g gs (filters_printed t (g ∷ gs) o))
  filter_printed text f (any t g gs o) = rw fold-roll-Filter (any (concat (map filter_text (g ∷ gs))) g gs (filters_printed t (g ∷ gs) o))

  filters_printed : (text : List ℕ) (fs : List Filter) → AreFilters text fs → AreFilters (concat (map filter_text fs)) fs
  filters_printed text fs (none t h) = none [] tt
  filters_printed text fs (more blanks one rest f gs h k ks) = more [] (filter_text f) (concat (map filter_text gs)) f gs tt (filter_printed one f k) (filters_printed rest gs ks)

pub printed : (text : List ℕ) (f : Filter) → ReadsFilter text f → ReadsFilter (filter_text f) f
printed text f r = record { before = []; bare = filter_text f; after = []; parts = sym (append-nil (filter_text f)); blanks_before = tt; blanks_after = tt; written = filter_printed r.bare f r.written; few = r.few }
