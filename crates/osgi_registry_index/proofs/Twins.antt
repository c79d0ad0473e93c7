-- Names that were seen before, and those of the properties that are left.
use Rattle.std.proofs.Common.{◌≡◌, ℕ, List, [], ◌∷◌, ap, sym, ◌∙◌, refl}
use Rattle.std.specs.Prelude.{Bool, true, false, cond, ◌||◌}
use Rattle.std.specs.BTreeMap.{is_at}
use Rattle.std.specs.BTreeSet.{BTreeSet, contains}
use Rattle.std.specs.Cmp.Lexicographic.{slice_cmp}
use Rattle.std.specs.List.{list_any}
use Rattle.std.specs.Ordering.{nat_cmp}
use Rattle.std.specs.Str.{bytes_eq, str_to_ascii_lowercase}
use Rattle.std.proofs.lemmas.Bool.Decides.{Decides-like, same_from_decides}
use Rattle.std.proofs.lemmas.Map.Text.{is_eq-slice_cmp}
use Rattle.std.proofs.lemmas.Slice.Eq.{bytes_eq-Decides}
use Rattle.osgi_model.specs.declared.value.Attribute.{Attribute}
use Rattle.osgi_ops.specs.Properties.{has_twins, is_named}

abbrev pub is_seen : BTreeSet (List ℕ) → Attribute → Bool
is_seen names property = contains (slice_cmp nat_cmp) names (str_to_ascii_lowercase property.name)

-- one of the properties has a name that was seen
abbrev pub one_seen : BTreeSet (List ℕ) → List Attribute → Bool
one_seen names properties = list_any (is_seen names) properties

pub none_seen : (names : BTreeSet (List ℕ)) (properties : List Attribute) → names.keys ≡ [] → one_seen names properties ≡ false
none_seen names [] empty = refl
none_seen names (p ∷ rest) empty = rw empty (none_seen names rest empty)

-- ---- one more name

same_either_way : (a b : List ℕ) → bytes_eq a b ≡ bytes_eq b a
same_either_way a b = same_from_decides _ _ (bytes_eq-Decides a b) (Decides-like (bytes_eq b a) sym sym (bytes_eq-Decides b a))

seen_by : (old new : BTreeSet (List ℕ)) (first p : Attribute) (test : Bool) → is_named first.name p ≡ test →
    is_seen new p ≡ cond test true (is_seen old p) → is_seen new p ≡ (test || is_seen old p)
seen_by old new first p true named is = is
seen_by old new first p false named is = is

module _ (old new : BTreeSet (List ℕ)) (first : Attribute)
    (updates : (q : List ℕ) → contains (slice_cmp nat_cmp) new q ≡ cond (is_at (slice_cmp nat_cmp (str_to_ascii_lowercase first.name)) q) true (contains (slice_cmp nat_cmp) old q)) where
  seen : (p : Attribute) → is_seen new p ≡ (is_named first.name p || is_seen old p)
  seen p =
      seen_by old new first p (is_named first.name p) refl
      (updates (str_to_ascii_lowercase p.name)
      ∙ ap (λ b. cond b true (is_seen old p)) (is_eq-slice_cmp (str_to_ascii_lowercase first.name) (str_to_ascii_lowercase p.name) ∙ same_either_way (str_to_ascii_lowercase first.name) (str_to_ascii_lowercase p.name)))

  or_swap : (a b c d : Bool) → ((a || b) || (c || d)) ≡ ((a || c) || (b || d))
  or_swap true b c d = refl
  or_swap false true true d = refl
  or_swap false true false d = refl
  or_swap false false true d = refl
  or_swap false false false d = refl

  pub seen_more : (rest : List Attribute) → one_seen new rest ≡ (list_any (is_named first.name) rest || one_seen old rest)
  seen_more [] = refl
  seen_more (p ∷ rest) =
      (λ i. seen p i || seen_more rest i) ∙ or_swap (is_named first.name p) (is_seen old p) (list_any (is_named first.name) rest) (one_seen old rest)

  or_last : (a b c : Bool) → (b || (a || c)) ≡ ((a || b) || c)
  or_last true true c = refl
  or_last true false c = refl
  or_last false true c = refl
  or_last false false c = refl

  -- where the first name is new
  pub twins_step : (all : Bool) (rest : List Attribute) → is_seen old first ≡ false → all ≡ (one_seen old (first ∷ rest) || has_twins (first ∷ rest)) → all ≡ (one_seen new rest || has_twins rest)
  twins_step all rest unseen is =
      is ∙ ap (λ b. (b || one_seen old rest) || (list_any (is_named first.name) rest || has_twins rest)) unseen
      ∙ or_last (list_any (is_named first.name) rest) (one_seen old rest) (has_twins rest)
      ∙ ap (λ b. b || has_twins rest) (sym (seen_more rest))
