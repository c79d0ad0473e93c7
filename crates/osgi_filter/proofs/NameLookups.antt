-- An attribute that is found by halving the places in order of names is the first of its name.
use Rattle.std.proofs.Common.{◌≡◌, ℕ, zero, suc, ◌+◌, ◌-◌, ◌<◌, ◌≤◌, true, false, Bool, ltb, List, [], ◌∷◌, ◌++◌, length, get_or, Option, None, Some, Bor, refl, sym, ap, subst, ◌∙◌, arith}
use Rattle.std.specs.Prelude.{Contains, slice_get}
use Rattle.std.specs.Cmp.{IsStrictWeakOrder, IsTotalOrder, nat_cmp_total, on_total, then_total}
use Rattle.std.specs.Cmp.Lexicographic.{nat_list_cmp_total, slice_cmp, texts_ties}
use Rattle.std.specs.Fn.{Called, ComputesKey}
use Rattle.std.specs.List.{position_or_len}
use Rattle.std.specs.List.Sorted.{IsPartitionedBy, IsPartitionPoint, IsSortedBy, IsSortedByClosure}
use Rattle.std.specs.Option.{option_copied, option_map, option_map_or}
use Rattle.std.specs.Ordering.{is_eq, is_lt, nat_cmp, ordering_reverse, ordering_then}
use Rattle.std.specs.Slice.{IsItemAt}
use Rattle.std.specs.declared.cmp.Ordering.{Ordering}
use Rattle.std.specs.declared.cmp.Ordering.TheVariants.{Less, Equal, Greater}
use Rattle.std.proofs.lemmas.Bool.{false≢true, false_from_ne_true, ltb-false, ltb-true, true_from_ne_false}
use Rattle.std.proofs.lemmas.Bool.Decides.{nat_tests}
use Rattle.std.proofs.lemmas.Fn.{always_returns_same}
use Rattle.std.proofs.lemmas.List.{get_or_append_left, get_or_default, get_or_push, length_push}
use Rattle.std.proofs.lemmas.List.Folds.{find_at}
use Rattle.std.proofs.lemmas.List.Sorted.{All-permutation, Contains-permutation, IsPartitionPoint-from_clause, ranks_by, sorted_far}
use Rattle.std.proofs.lemmas.List.Sums.{position_or_len_is}
use Rattle.std.proofs.lemmas.Option.{get_or_from_slice_get, none-some, same_Some, slice_get-get_or, slice_get_past, slice_get_read, slice_get_within}
use Rattle.std.proofs.lemmas.Slice.Eq.{bytes_eq-Decides}
use denote.Param.Members.{Mut}
use Rattle.osgi_model.specs.Matching.{attribute_value}
use Rattle.osgi_model.specs.declared.value.Attribute.{Attribute}
use Rattle.osgi_filter.specs.Names.{same_name}
use Rattle.osgi_filter.specs.computed.Folded.{folded}
use Rattle.osgi_filter.specs.computed.NameOrder.{IsNameOrder, name_at, place_cmp, places_of}
use Rattle.osgi_filter.specs.declared.case.Case.{Case}
use Rattle.osgi_filter.specs.declared.case.Case.TheVariants.{Keep, Fold}

-- what is lent of a place
lent : {X : Type 0} (xs : List X) (i : ℕ) (r : Option (Bor X)) → IsItemAt xs i r → option_copied r ≡ slice_get xs i
lent xs i None got = sym (slice_get_past xs i got.3)
lent xs i (Some x) got = sym (slice_get_read xs (length xs) i x.now refl got.3.0 (got.3.1 x.now))

pub taken : {X : Type 0} (xs : List X) (i : ℕ) (r : Option (Bor X)) (x : Bor X) → IsItemAt xs i r → r ≡ Some x → slice_get xs i ≡ Some x.now
taken xs i r x got is = sym (lent xs i r got) ∙ ap option_copied is

pub past_end : {X : Type 0} (xs : List X) (i : ℕ) (r : Option (Bor X)) → IsItemAt xs i r → r ≡ None → length xs ≤ i
past_end xs i None got is = got.3
past_end xs i (Some x) got is = absurd (none-some x (sym is))

-- ---- names as they are compared

same_folded : (case : Case) (a b : List ℕ) → same_name case a b ≡ true → folded case a ≡ folded case b
same_folded Keep a b e = (bytes_eq-Decides (folded Keep a) (folded Keep b)).0 e
same_folded Fold a b e = (bytes_eq-Decides (folded Fold a) (folded Fold b)).0 e

folded_same : (case : Case) (a b : List ℕ) → folded case a ≡ folded case b → same_name case a b ≡ true
folded_same Keep a b e = (bytes_eq-Decides (folded Keep a) (folded Keep b)).1 e
folded_same Fold a b e = (bytes_eq-Decides (folded Fold a) (folded Fold b)).1 e

-- one text comes before the other
abbrev pub precedes : List ℕ → List ℕ → Bool
precedes a b = is_lt (slice_cmp nat_cmp a b)

texts_rank : IsStrictWeakOrder precedes
texts_rank = ranks_by nat_list_cmp_total (λ (text : List ℕ). text)

its_reverse : (o : Ordering) → o ≡ ordering_reverse o → o ≡ Equal
its_reverse Less e = absurd (false≢true (sym (ap is_lt e)))
its_reverse Equal e = refl
its_reverse Greater e = absurd (false≢true (ap is_lt e))

equals_itself : (a : List ℕ) → slice_cmp nat_cmp a a ≡ Equal
equals_itself a = its_reverse (slice_cmp nat_cmp a a) (nat_list_cmp_total.antisymm a a)

not_itself : (a b : List ℕ) → a ≡ b → precedes a b ≡ true → ⊥
not_itself a b e before = false≢true (sym (ap is_lt (equals_itself b)) ∙ ap (λ (x : List ℕ). precedes x b) (sym e) ∙ before)

neither : (o p : Ordering) → p ≡ ordering_reverse o → is_lt o ≡ false → is_lt p ≡ false → o ≡ Equal
neither Less p e fails other = absurd (false≢true (sym fails))
neither Equal p e fails other = refl
neither Greater p e fails other = absurd (false≢true (sym other ∙ ap is_lt e))

tied : (a b : List ℕ) → precedes a b ≡ false → precedes b a ≡ false → a ≡ b
tied a b fails other =
    let equal : slice_cmp nat_cmp a b ≡ Equal = neither (slice_cmp nat_cmp a b) (slice_cmp nat_cmp b a) (nat_list_cmp_total.antisymm b a) fails other in
    (bytes_eq-Decides a b).0 (texts_ties a b ∙ ap is_eq equal)

-- ---- places

pub length-places : (n : ℕ) → length (places_of n) ≡ n
length-places zero = refl
length-places (suc n) = omega (arith, length_push (places_of n) n, length-places n)

pub place_there : (n k d : ℕ) → k < n → get_or (places_of n) k d ≡ k
place_there zero k d below = absurd (omega arith)
place_there (suc n) k d below = by_last (ltb k n) refl (place_there n k d)
  where
    by_last : (b : Bool) → ltb k n ≡ b → (k < n → get_or (places_of n) k d ≡ k) → get_or (places_of n ++ n ∷ []) k d ≡ k
    by_last true e before = get_or_append_left (places_of n) (n ∷ []) d k (omega (arith, ltb-true k n e, length-places n)) ∙ before (ltb-true k n e)
    by_last false e before =
        let last : k ≡ n = omega (arith, ltb-false k n e, below) in
        get_or_push (places_of n) n d k (omega (arith, length-places n, last)) ∙ sym last

front_not : (o p : Ordering) → is_lt (ordering_then o p) ≡ false → is_lt o ≡ false
front_not Less p e = e
front_not Equal p e = refl
front_not Greater p e = refl

back_not : (o p : Ordering) → o ≡ Equal → is_lt (ordering_then o p) ≡ false → is_lt p ≡ false
back_not o p equal e = ap (λ (x : Ordering). is_lt (ordering_then x p)) (sym equal) ∙ e

not_less : (a b : ℕ) → is_lt (nat_cmp a b) ≡ false → b ≤ a
not_less a b e = grind (arith, nat_tests)

-- what a sort by calls of a closure says, where each answers by the order
pub sorted_by_calls : {K : Type 0} (R : K → K → Ordering) → IsTotalOrder R → {F : Type 0} {g : Mut F (Bor K × (Bor K × Unit {0})) Ordering} {f : F} (xs : List K) → IsSortedByClosure g f xs →
    ((a : Bor K × (Bor K × Unit {0})) (r : Ordering) (f' : F) → Called g f a r f' → (r ≡ R a.0.now a.1.0.now) × (f' ≡ f)) → IsSortedBy (λ x y. is_lt (R x y)) xs
sorted_by_calls {K} R total {g = g} {f = f} xs sorted answers =
    sorted (λ x y. is_lt (R x y)) (ranks_by total (λ (x : K). x))
    (always_returns_same g (λ a r. is_lt r ≡ is_lt (R a.0.now a.1.0.now)) f (λ a r f' k. (ap is_lt (answers a r f' k).0, (answers a r f' k).1)))

-- ---- attributes

module _ (case : Case) (attributes : List Attribute) where
  abbrev pub key : ℕ → List ℕ
  key place = folded case (name_at attributes place)

  pub places_total : IsTotalOrder (place_cmp case attributes)
  places_total = then_total (on_total key nat_list_cmp_total) nat_cmp_total

  name_is : (place : ℕ) (d : Attribute) → place < length attributes → name_at attributes place ≡ (get_or attributes place d).name
  name_is place d below = rw (slice_get-get_or attributes place d below) refl

  -- the attribute at a place is the first of a name where it has the name and those before it do not
  first_is : (name : List ℕ) (place : ℕ) (a : Attribute) → slice_get attributes place ≡ Some a → place < length attributes → same_name case a.name name ≡ true →
      ((q : ℕ) → q < place → same_name case (name_at attributes q) name ≡ false) → Some a.value ≡ attribute_value (same_name case) name attributes
  first_is name place a there below same others =
      let test : Attribute → Bool = λ x. same_name case x.name name in
      let is : get_or attributes place a ≡ a = same_Some _ _ (sym (slice_get-get_or attributes place a below) ∙ there) in
      let at : position_or_len test attributes ≡ place
      = position_or_len_is test attributes place a (omega arith)
      (λ q lt. ap (λ (x : List ℕ). same_name case x name) (sym (name_is q a (omega arith))) ∙ others q lt) (λ lt. ap test is ∙ same) in
      sym (ap (option_map (λ (x : Attribute). x.value)) (find_at test attributes ∙ ap (slice_get attributes) at ∙ there))

  none_is : (name : List ℕ) → ((q : ℕ) → q < length attributes → same_name case (name_at attributes q) name ≡ false) → None ≡ attribute_value (same_name case) name attributes
  none_is name others = none_of attributes refl
    where
      test : Attribute → Bool
      test x = same_name case x.name name

      none_of : (all : List Attribute) → attributes ≡ all → None ≡ attribute_value (same_name case) name attributes
      none_of [] e = ap (attribute_value (same_name case) name) (sym e)
      none_of (a ∷ more) e =
          let at : position_or_len test attributes ≡ length attributes
          = position_or_len_is test attributes (length attributes) a (omega arith)
          (λ q lt. ap (λ (x : List ℕ). same_name case x name) (sym (name_is q a lt)) ∙ others q lt) (λ lt. absurd (omega (arith, lt))) in
          sym (ap (option_map (λ (x : Attribute). x.value)) (find_at test attributes ∙ ap (slice_get attributes) at ∙ slice_get_past attributes (length attributes) (omega arith)))

  module _ (places : List ℕ) (h : IsNameOrder case attributes places) (name : List ℕ) where
    -- the names up to a place come no later than the one there
    up : (i j : ℕ) (d : ℕ) → i ≤ j → j < length places → is_lt (place_cmp case attributes (get_or places j d) (get_or places i d)) ≡ false
    up = sorted_far (λ one other. is_lt (place_cmp case attributes one other)) (ranks_by places_total (λ (x : ℕ). x)) places h.in_order

    names_up : (i j : ℕ) (d : ℕ) → i ≤ j → j < length places → precedes (key (get_or places j d)) (key (get_or places i d)) ≡ false
    names_up i j d le lt = front_not _ _ (up i j d le lt)

    parted : IsPartitionedBy (λ place. precedes (key place) (folded case name)) places
    parted i j d le lt before = true_from_ne_false (precedes (key (get_or places i d)) (folded case name))
        (λ fails. false≢true (sym (texts_rank.chain (key (get_or places j d)) (key (get_or places i d)) (folded case name) (names_up i j d le lt) fails) ∙ before))

    -- what halving says by calls of a closure
    pub point_is : {F : Type 0} {g : Mut F (Bor ℕ × Unit {0}) Bool} {f : F} (at : ℕ) →
        ((q : ℕ → Bool) → ComputesKey g q f → IsPartitionedBy q places → IsPartitionPoint (λ y. q y ≡ true) (λ y. q y ≡ false) places at) →
        ((a : Bor ℕ × Unit {0}) (r : Bool) (f' : F) → Called g f a r f' → (r ≡ precedes (key a.0.now) (folded case name)) × (f' ≡ f)) →
        IsPartitionPoint (λ place. precedes (key place) (folded case name) ≡ true) (λ place. precedes (key place) (folded case name) ≡ false) places at
    point_is at clause answers = IsPartitionPoint-from_clause (λ place. precedes (key place) (folded case name)) places at clause parted answers

    inside : (at d : ℕ) → at < length places → get_or places at d < length attributes
    inside at d lt = All-permutation (λ place. place < length attributes) (places_of (length attributes)) places h.each_once
        (λ k e below. let few : k < length attributes = omega (arith, below, length-places (length attributes)) in
        subst (λ (x : ℕ). x < length attributes) (sym (place_there (length attributes) k e few)) few) at d lt

    -- each place of an attribute is listed
    listed : (q : ℕ) → q < length attributes → Contains places q
    listed q lt = Contains-permutation (places_of (length attributes)) places q h.each_once
        (q, omega (arith, lt, length-places (length attributes)), place_there (length attributes) q q lt)

    module _ (at : ℕ) (point : IsPartitionPoint (λ place. precedes (key place) (folded case name) ≡ true) (λ place. precedes (key place) (folded case name) ≡ false) places at) where
      -- an attribute of the name is listed no earlier
      no_earlier : (q : ℕ) (l : Contains places q) → same_name case (name_at attributes q) name ≡ true → at ≤ l.0
      no_earlier q l same =
          let not_before : ¬ (l.0 < at)
          = λ lt. not_itself (key q) (folded case name) (same_folded case (name_at attributes q) name same)
          (ap (λ (x : ℕ). precedes (key x) (folded case name)) (sym l.2) ∙ point.0 l.0 q (omega arith) lt) in
          omega (arith, not_before)

      there_is : (d : ℕ) (a : Attribute) → slice_get attributes (get_or places at d) ≡ Some a → name_at attributes (get_or places at d) ≡ a.name
      there_is d a there = ap (λ (o : Option Attribute). option_map_or (λ (x : Attribute). x.name) o []) there

      -- what stands at the point is the first of the name, if it has the name
      found : (d : ℕ) (a : Attribute) → at < length places → slice_get attributes (get_or places at d) ≡ Some a → same_name case a.name name ≡ true →
          Some a.value ≡ attribute_value (same_name case) name attributes
      found d a lt there same = first_is name place a there (inside at d lt) same (λ q below. false_from_ne_true _ (no_other q below))
        where
          place : ℕ
          place = get_or places at d

          no_other : (q : ℕ) → q < get_or places at d → same_name case (name_at attributes q) name ≡ true → ⊥
          no_other q below q_same =
              let l = listed q (omega (arith, below, inside at d lt)) in
              let later : is_lt (place_cmp case attributes q (get_or places at d)) ≡ false
              = ap (λ (x : ℕ). is_lt (place_cmp case attributes x (get_or places at d))) (sym (get_or_default places l.0 d q l.1 ∙ l.2)) ∙ up at l.0 d (no_earlier q l q_same) l.1 in
              let keys : key q ≡ key (get_or places at d)
              = same_folded case (name_at attributes q) name q_same ∙ sym (ap (folded case) (there_is d a there) ∙ same_folded case a.name name same) in
              let tie : slice_cmp nat_cmp (key q) (key (get_or places at d)) ≡ Equal
              = ap (λ (x : List ℕ). slice_cmp nat_cmp x (key (get_or places at d))) keys ∙ equals_itself (key (get_or places at d)) in
              let no_less : get_or places at d ≤ q = not_less q (get_or places at d) (back_not _ _ tie later) in
              absurd (omega (arith, below, no_less))

      -- if the point is behind all places, no attribute has the name
      pub behind_all : length places ≤ at → None ≡ attribute_value (same_name case) name attributes
      behind_all le = none_is name (λ q lt. false_from_ne_true _ (λ same.
          let l = listed q lt in
          absurd (omega (arith, le, l.1, no_earlier q l same))))

      -- nor if what stands there has another name
      another : (d : ℕ) (a : Attribute) → at < length places → slice_get attributes (get_or places at d) ≡ Some a → same_name case a.name name ≡ false →
          None ≡ attribute_value (same_name case) name attributes
      another d a lt there other = none_is name (λ q below. false_from_ne_true _ (none_same q below))
        where
          none_same : (q : ℕ) → q < length attributes → same_name case (name_at attributes q) name ≡ true → ⊥
          none_same q below same =
              let l = listed q below in
              let place_key : List ℕ = key (get_or places at d) in
              let q_key : key q ≡ folded case name = same_folded case (name_at attributes q) name same in
              let from_q : precedes (key q) place_key ≡ false
              = ap (λ (x : ℕ). precedes (key x) place_key) (sym (get_or_default places l.0 d q l.1 ∙ l.2)) ∙ names_up at l.0 d (no_earlier q l same) l.1 in
              let from_name : precedes (folded case name) place_key ≡ false = ap (λ (x : List ℕ). precedes x place_key) (sym q_key) ∙ from_q in
              let equal : place_key ≡ folded case name = tied place_key (folded case name) (point.1 at d (omega arith) lt) from_name in
              false≢true (sym other ∙ folded_same case a.name name (sym (ap (folded case) (there_is d a there)) ∙ equal))

      -- the same of the place that is lent
      pub found_value : (place : ℕ) (a : Attribute) → slice_get places at ≡ Some place → slice_get attributes place ≡ Some a → same_name case a.name name ≡ true →
          Some a.value ≡ attribute_value (same_name case) name attributes
      found_value place a here there same =
          found place a (slice_get_within places at place here) (ap (slice_get attributes) (get_or_from_slice_get places at place place here) ∙ there) same

      pub other_value : (place : ℕ) (a : Attribute) → slice_get places at ≡ Some place → slice_get attributes place ≡ Some a → same_name case a.name name ≡ false →
          None ≡ attribute_value (same_name case) name attributes
      other_value place a here there other =
          another place a (slice_get_within places at place here) (ap (slice_get attributes) (get_or_from_slice_get places at place place here) ∙ there) other

      pub none_outside : (place : ℕ) → slice_get places at ≡ Some place → length attributes ≤ place → ⊥
      none_outside place here le =
          let lt : place < length attributes
          = subst (λ (x : ℕ). x < length attributes) (get_or_from_slice_get places at place place here) (inside at place (slice_get_within places at place here)) in
          absurd (omega (arith, lt, le))
