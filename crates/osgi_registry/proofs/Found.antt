-- What is found among the services of a class.
use Rattle.std.proofs.Common.{◌≡◌, ◌<◌, ◌+◌, ℕ, zero, suc, List, [], ◌∷◌, ◌++◌, add-one, append_assoc, ap, drop, drop-cons, inl, inr, length, sym, ◌∙◌, refl, arith, get_or, map, subst}
use Rattle.std.specs.Prelude.{Bool, true, false, All, AllPairs, Contains, IfOk, IfSome, OnOk, Result, Ok, Err, Option, None, Some, filter}
use Rattle.std.specs.Bool.{Decides}
use Rattle.std.specs.declared.cmp.Ordering.{Ordering}
use Rattle.std.specs.declared.cmp.Ordering.TheVariants.{Less, Equal, Greater}
use Rattle.std.specs.List.{cons_option, list_all}
use Rattle.std.specs.List.Sorted.{IsStrictlySortedBy}
use Rattle.std.specs.Map.{keys_of, values_of}
use Rattle.std.specs.Ordering.{is_eq, is_gt}
use Rattle.std.specs.Str.{str_eq_ignore_ascii_case}
use Rattle.std.proofs.lemmas.Bool.{and_from, and_parts}
use Rattle.std.proofs.lemmas.List.Elements.{All-contains, All-cons, All-filter, All-head, All-map, All-nil, All-tail, All-weaker, Contains-append_cases, Contains-append_right, Contains-get_or, filter_passes}
use Rattle.std.proofs.lemmas.List.Kept.{AllPairs-filter}
use Rattle.std.proofs.lemmas.Map.Keys.{Less-from_sorted}
use Rattle.osgi_base.specs.declared.ids.BundleId.{BundleId}
use Rattle.osgi_base.specs.declared.ids.ServiceId.{ServiceId}
use Rattle.osgi_model.specs.laws.Decided.{matches_decides}
use Rattle.osgi_model.specs.declared.filter.Filter.{Filter}
use Rattle.osgi_ops.specs.Classes.{AreRanked, Fits, has_class, ids_of, IsFound, IsOf, IsOpenTo, rank_cmp}
use Rattle.osgi_ops.specs.declared.service.Service.{Service}
use Rattle.osgi_world.specs.declared.world.World.{World}
use Rattle.osgi_registry_index.specs.declared.place.Place.{Place}
use Rattle.osgi_registry.specs.computed.Finding.{AnswersIn, AnswersTold, does_fit, IsFirst, IsFirstFound, is_open}
use Rattle.osgi_registry.specs.computed.Kept.{AreKept}
use Rattle.osgi_registry.specs.computed.LivePlaces.{IsIndexOf}
use Rattle.osgi_registry_index.specs.Places.{Classes, place_cmp, place_of, places_at, service_at}
use Rattle.osgi_registry.specs.computed.LiveSlots.{service_in, services_at}
use Rattle.osgi_registry.specs.Rows.{IsAskedFor, IsOpenBy, LiveService, services_in}
use Rattle.osgi_registry.proofs.Entries.{pairs_head, pairs_tail}
use Rattle.osgi_registry_index.proofs.Exact.{place_itself}
use Rattle.osgi_registry.proofs.Ranked.{are_listed, AreListed, every_listed, ids_are, IsListed, ordered}

-- ---- the places that are left

-- the first of them has this service, or none
pub next_service : (entries : List (ℕ × LiveService)) (left rest : List Place) (p : Place) (id : ServiceId) (found : Option Service) → left ≡ p ∷ rest → id.0 ≡ p.service → found ≡ service_in entries id.0 → services_at entries left ≡ cons_option found (services_at entries rest)
next_service entries left rest p id found is own at =
    ap (services_at entries) is ∙ ap (λ o. cons_option o (services_at entries rest)) (sym (at ∙ ap (λ n. service_in entries n) own))

-- that passes
pub one_more : (passes : Service → Bool) (ids : List ServiceId) (left rest : List Service) (s : Service) → left ≡ s ∷ rest → passes s ≡ true → (ids ++ s.service ∷ []) ++ ids_of (filter passes rest) ≡ ids ++ ids_of (filter passes left)
one_more passes ids left rest s is own = rw (is, own) (append_assoc ids (s.service ∷ []) (ids_of (filter passes rest)))

-- or does not
pub none_more : (passes : Service → Bool) (ids : List ServiceId) (left rest : List Service) (s : Service) → left ≡ s ∷ rest → passes s ≡ false → ids ++ ids_of (filter passes rest) ≡ ids ++ ids_of (filter passes left)
none_more passes ids left rest s is other = rw (is, other) refl

-- ---- lists

filter_all : {X : Type 0} (p : X → Bool) (xs : List X) → All (λ x. p x ≡ true) xs → filter p xs ≡ xs
filter_all p [] all = refl
filter_all p (x ∷ xs) all = rw (All-head (λ y. p y ≡ true) x xs all) (ap (λ l. x ∷ l) (filter_all p xs (All-tail (λ y. p y ≡ true) x xs all)))

all_pass : {X : Type 0} (p : X → Bool) (xs : List X) → list_all p xs ≡ true → All (λ x. p x ≡ true) xs
all_pass p [] passed = All-nil (λ x. p x ≡ true)
all_pass p (x ∷ xs) passed = let parts = and_parts (p x) (list_all p xs) passed in All-cons (λ y. p y ≡ true) x xs parts.0 (all_pass p xs parts.1)

all_passed : {X : Type 0} (p : X → Bool) (xs : List X) → All (λ x. p x ≡ true) xs → list_all p xs ≡ true
all_passed p [] all = refl
all_passed p (x ∷ xs) all = and_from (p x) (list_all p xs) (All-head (λ y. p y ≡ true) x xs all) (all_passed p xs (All-tail (λ y. p y ≡ true) x xs all))

-- ---- the best

not_worse : (a b : Service) → rank_cmp a b ≡ Less → is_gt (rank_cmp a b) ≡ false
not_worse a b less = rw less refl

tied_not_worse : (o : Ordering) → is_eq o ≡ true → is_gt o ≡ false
tied_not_worse Less is = refl
tied_not_worse Equal is = refl
tied_not_worse Greater is = absurd (cc is)

not_behind : (s other : Service) (more : List Service) → AllPairs (λ a b. rank_cmp a b ≡ Less) (s ∷ more) → Contains (s ∷ more) other → is_gt (rank_cmp s other) ≡ false
not_behind s other more in_order (zero, within, is) = subst (λ t. is_gt (rank_cmp s t) ≡ false) is (tied_not_worse (rank_cmp s s) (place_itself (place_of s)))
not_behind s other more in_order (suc k, within, is) =
    not_worse s other (All-contains (λ b. rank_cmp s b ≡ Less) more other (pairs_head (λ a b. rank_cmp a b ≡ Less) s more in_order) (k, omega (arith, within), is))

suffix_pairs : (before xs : List Service) → AllPairs (λ a b. rank_cmp a b ≡ Less) (before ++ xs) → AllPairs (λ a b. rank_cmp a b ≡ Less) xs
suffix_pairs [] xs pairs = pairs
suffix_pairs (s ∷ before) xs pairs = suffix_pairs before xs (pairs_tail (λ a b. rank_cmp a b ≡ Less) s (before ++ xs) pairs)

-- what passes stays
passes_kept_by : {X : Type 0} (p : X → Bool) (x y : X) (ys : List X) (here : Bool) → p y ≡ here → Contains (filter p ys) x → Contains (filter p (y ∷ ys)) x
passes_kept_by p x y ys true is more = rw is (Contains-append_right (y ∷ []) (filter p ys) x more)
passes_kept_by p x y ys false is more = rw is more

passes_kept : {X : Type 0} (p : X → Bool) (x : X) (xs : List X) → Contains xs x → p x ≡ true → Contains (filter p xs) x
passes_kept p x [] there passes = absurd (omega (arith, there.1))
passes_kept p x (y ∷ ys) (zero, within, is) passes = rw (ap p is ∙ passes) (subst (λ z. Contains (y ∷ filter p ys) z) is (Contains-get_or (y ∷ filter p ys) 0 y (omega arith)))
passes_kept p x (y ∷ ys) (suc k, within, is) passes = passes_kept_by p x y ys (p y) refl (passes_kept p x ys (k, omega (arith, within), is) passes)

values_listed : (c : List ℕ) (rows : List LiveService) (entries : List (Place × Service)) → All (IsListed c rows) entries → All (λ s. Contains (services_in rows) s × (has_class c s ≡ true)) (values_of entries)
values_listed c rows entries listed = All-map (λ s. Contains (services_in rows) s × (has_class c s ≡ true)) (λ (e : Place × Service). e.1) entries (λ k d within. let here = listed k d within in (here.live, here.has))

-- ---- the services of a class that pass

module _ (c : List ℕ) (rows : List LiveService) (entries : List (Place × Service)) (listed : All (IsListed c rows) entries)
    (every : (k : ℕ) (d : LiveService) → k < length rows → has_class c (get_or rows k d).service ≡ true → Contains (values_of entries) (get_or rows k d).service) (passes : Service → Bool)
    (IsAsked : Service → Type 0) (tells : (s : Service) → has_class c s ≡ true → Decides (passes s) (IsAsked s)) (asked_has : (s : Service) → IsAsked s → has_class c s ≡ true) where
  -- those that pass are those that are asked for, the better first
  ranked_under : IsStrictlySortedBy place_cmp (keys_of entries) → AreRanked IsAsked (services_in rows) (ids_of (filter passes (values_of entries)))
  ranked_under sorted =
      let live : All (λ s. Contains (services_in rows) s × (has_class c s ≡ true)) (filter passes (values_of entries))
      = All-filter passes (λ s. Contains (services_in rows) s × (has_class c s ≡ true)) (values_of entries) (values_listed c rows entries listed) in
      record {
        ranked = filter passes (values_of entries);
        are = refl;
        in_order = AllPairs-filter (λ a b. rank_cmp a b ≡ Less) passes (values_of entries) (ordered c rows entries listed (λ i j d before within. Less-from_sorted place_cmp (keys_of entries) i j d sorted before within));
        only = λ k d within. let here = live k d within in (here.0, (tells (get_or (filter passes (values_of entries)) k d) here.1).0 (filter_passes passes (values_of entries) k d within));
        every =
            All-map (λ s. IsAsked s → Contains (filter passes (values_of entries)) s) (λ row. row.service) rows
            (λ k d within asked.
            let s : Service = (get_or rows k d).service in
            let has : has_class c s ≡ true = asked_has s asked in
            passes_kept passes s (values_of entries) (every k d within has) ((tells s has).1 asked));
      }

  -- one that passes is one of them
  one_passes : (id : ServiceId) → IsAskedFor (λ s. passes s ≡ true) (values_of entries) id → IsAskedFor IsAsked (services_in rows) id
  one_passes id one =
      let here = All-contains (λ s. Contains (services_in rows) s × (has_class c s ≡ true)) (values_of entries) one.service (values_listed c rows entries listed) one.there in
      record { service = one.service; there = here.0; is = one.is; asked = (tells one.service here.1).0 one.asked }

  -- where all pass, the ids are those of their places
  all_ranked : ((s : Service) → passes s ≡ true) → IsStrictlySortedBy place_cmp (keys_of entries) → AreRanked IsAsked (services_in rows) (map service_at (keys_of entries))
  all_ranked all sorted =
      subst (λ list. AreRanked IsAsked (services_in rows) list)
      (sym (ids_are c rows entries listed ∙ ap ids_of (sym (filter_all passes (values_of entries) (λ k d within. all (get_or (values_of entries) k d))))))
      (ranked_under sorted)

-- ---- the first service of a class that passes a test

first_there : (answers : Service → Bool → Type 0) (services : List Service) (id : ServiceId) (f : IsFirst answers services id) → Contains services f.service
first_there answers services id f =
    subst (λ list. Contains list f.service) (sym f.are) (Contains-append_right f.before (f.service ∷ f.after) f.service (Contains-get_or (f.service ∷ f.after) 0 f.service (omega arith)))

-- what passes is asked for
first_asked : (answers : Service → Bool → Type 0) (IsAsked : Service → Type 0) (services : List Service) (found : Option ServiceId) → ((s : Service) → answers s true → IsAsked s) → IsFirstFound answers services found →
    IfSome found (IsAskedFor IsAsked services)
first_asked answers IsAsked services None so f = tt
first_asked answers IsAsked services (Some id) so f = record { service = f.service; there = first_there answers services id f; is = f.is; asked = so f.service f.passes }

-- a test that may answer more
first_weaker : (answers more : Service → Bool → Type 0) (services : List Service) (found : Option ServiceId) → ((s : Service) (b : Bool) → answers s b → more s b) → IsFirstFound answers services found → IsFirstFound more services found
first_weaker answers more services None so none = All-weaker (λ s. answers s false) (λ s. more s false) (λ s is. so s false is) services none
first_weaker answers more services (Some id) so f = record {
  before = f.before;
  service = f.service;
  after = f.after;
  are = f.are;
  others = All-weaker (λ s. answers s false) (λ s. more s false) (λ s is. so s false is) f.before f.others;
  passes = so f.service true f.passes;
  is = f.is;
}

module _ (c : List ℕ) (rows : List LiveService) (entries : List (Place × Service)) (listed : All (IsListed c rows) entries)
    (every : (k : ℕ) (d : LiveService) → k < length rows → has_class c (get_or rows k d).service ≡ true → Contains (values_of entries) (get_or rows k d).service) (answers : Service → Bool → Type 0)
    (IsAsked : Service → Type 0) (tells : (s : Service) → has_class c s ≡ true → (answers s true → IsAsked s) × (answers s false → ¬ IsAsked s)) (asked_has : (s : Service) → IsAsked s → has_class c s ≡ true) where
  there : (k : ℕ) (d : LiveService) → k < length rows → IsAsked (get_or rows k d).service → Contains (values_of entries) (get_or rows k d).service
  there k d within asked = every k d within (asked_has (get_or rows k d).service asked)

  refused : (list : List Service) (s : Service) → All (λ t. answers t false) list → Contains list s → ¬ IsAsked s
  refused list s all at asked = (tells s (asked_has s asked)).1 (All-contains (λ t. answers t false) list s all at) asked

  -- it is the best of those that are asked for
  found_first : (found : Option ServiceId) → IsStrictlySortedBy place_cmp (keys_of entries) → IsFirstFound answers (values_of entries) found → IsFound IsAsked (services_in rows) found
  found_first None sorted none =
      All-map (λ s. ¬ IsAsked s) (λ row. row.service) rows (λ k d within asked. refused (values_of entries) (get_or rows k d).service none (there k d within asked) asked)
  found_first (Some id) sorted f =
      let here =
      All-contains (λ s. Contains (services_in rows) s × (has_class c s ≡ true)) (values_of entries) f.service (values_listed c rows entries listed) (first_there answers (values_of entries) id f) in
      let pairs : AllPairs (λ a b. rank_cmp a b ≡ Less) (values_of entries)
      = ordered c rows entries listed (λ i j d before within. Less-from_sorted place_cmp (keys_of entries) i j d sorted before within) in
      record {
        service = f.service;
        there = here.0;
        is = f.is;
        asked = (tells f.service here.1).0 f.passes;
        best =
            All-map (λ other. IsAsked other → is_gt (rank_cmp f.service other) ≡ false) (λ row. row.service) rows
            (λ k d within asked.
            let other : Service = (get_or rows k d).service in
            elim (Contains-append_cases f.before (f.service ∷ f.after) other (subst (λ list. Contains list other) f.are (there k d within asked))) [
              | inl at ↦ absurd (refused f.before other f.others at asked)
              | inr at ↦
                  not_behind f.service other f.after
                  (suffix_pairs f.before (f.service ∷ f.after) (subst (AllPairs (λ a b. rank_cmp a b ≡ Less)) f.are pairs)) at
            ]);
      }

-- ---- what is computed of filters and classes

pub fits_decides : (filter : Option Filter) (s : Service) → Decides (does_fit filter s) (Fits filter s)
fits_decides None s = ((λ b. tt), (λ b. refl))
fits_decides (Some filter) s = matches_decides str_eq_ignore_ascii_case s.properties filter

-- of a service of the class
pub of_decides : (class : List ℕ) (filter : Option Filter) (s : Service) → has_class class s ≡ true → Decides (does_fit filter s) (IsOf class filter s)
of_decides class filter s has = ((λ b. (has, (fits_decides filter s).0 b)), (λ (is : IsOf class filter s). (fits_decides filter s).1 is.1))

open_decides : (test : BundleId → List ℕ → Bool) (class : List ℕ) (filter : Option Filter) (s : Service) → has_class class s ≡ true → Decides (is_open test filter s) (IsOpenBy test class filter s)
open_decides test class filter s has = (
  (λ b. let parts = and_parts (does_fit filter s) _ b in ((of_decides class filter s has).0 parts.0, all_pass (test s.owner) s.classes parts.1)),
  (λ (is : IsOpenBy test class filter s). and_from (does_fit filter s) _ ((of_decides class filter s has).1 is.0) (all_passed (test s.owner) s.classes is.1)),
)

some_is : (found : Option ServiceId) (P Q : ServiceId → Type 0) → ((id : ServiceId) → P id → Q id) → IfSome found P → IfSome found Q
some_is None P Q so is = tt
some_is (Some id) P Q so is = so id is

pub none_sorted : IsStrictlySortedBy place_cmp []
unfolding IsStrictlySortedBy
none_sorted = tt

-- of a test of which it is known what it computes
computed_tells : (test : BundleId → List ℕ → Bool) (class : List ℕ) (filter : Option Filter) (s : Service) → has_class class s ≡ true →
    (true ≡ is_open test filter s → IsOpenBy test class filter s) × (false ≡ is_open test filter s → ¬ IsOpenBy test class filter s)
computed_tells test class filter s has =
    let decides = open_decides test class filter s has in
    ((λ e. decides.0 (sym e)), (λ e is. (let bad : false ≡ true = e ∙ decides.1 is in cc bad)))

-- of one that decides by the wirings of a world
world_tells : (world : World) (asker : BundleId) (class : List ℕ) (filter : Option Filter) (s : Service) → has_class class s ≡ true →
    (AnswersIn world asker filter s true → IsOpenTo world asker class filter s) × (AnswersIn world asker filter s false → ¬ IsOpenTo world asker class filter s)
world_tells world asker class filter s has = (
  (λ d. let is = d.0 refl in ((has, is.0), is.1)),
  (λ d (is : IsOpenTo world asker class filter s). (let bad : false ≡ true = d.1 (is.0.1, is.1) in cc bad)),
)

-- ---- the services at the places of a class

module _ (issued : ℕ) (classes : Classes) (c : List ℕ) (entries : List (ℕ × LiveService)) (kept : AreKept issued entries) (index : IsIndexOf classes (values_of entries))
    (places : List Place) (are : places_at classes c ≡ places) where
  the : AreListed c entries places
  the = are_listed issued c entries kept classes index places are

  every : (k : ℕ) (d : LiveService) → k < length (values_of entries) → has_class c (get_or (values_of entries) k d).service ≡ true → Contains (values_of the.pairs) (get_or (values_of entries) k d).service
  every k d within has =
      subst (λ (list : List Service). Contains list (get_or (values_of entries) k d).service) (sym the.values) (every_listed issued c entries kept classes index places are k d within has)

  in_order : IsStrictlySortedBy place_cmp places → IsStrictlySortedBy place_cmp (keys_of the.pairs)
  in_order sorted = subst (IsStrictlySortedBy place_cmp) (sym the.keys) sorted

  -- those that pass are those that are asked for
  pub some_ranked : (passes : Service → Bool) (IsAsked : Service → Type 0) → ((s : Service) → has_class c s ≡ true → Decides (passes s) (IsAsked s)) → ((s : Service) → IsAsked s → has_class c s ≡ true) → IsStrictlySortedBy place_cmp places →
      AreRanked IsAsked (services_in (values_of entries)) (ids_of (filter passes (services_at entries places)))
  some_ranked passes IsAsked tells asked_has sorted =
      subst (λ list. AreRanked IsAsked (services_in (values_of entries)) (ids_of (filter passes list))) the.values
      (ranked_under c (values_of entries) the.pairs the.listed every passes IsAsked tells asked_has (in_order sorted))

  -- where all pass, they are those of the places
  pub each_ranked : (passes : Service → Bool) (IsAsked : Service → Type 0) → ((s : Service) → has_class c s ≡ true → Decides (passes s) (IsAsked s)) → ((s : Service) → IsAsked s → has_class c s ≡ true) → ((s : Service) → passes s ≡ true) →
      IsStrictlySortedBy place_cmp places → AreRanked IsAsked (services_in (values_of entries)) (map service_at places)
  each_ranked passes IsAsked tells asked_has all sorted =
      subst (λ list. AreRanked IsAsked (services_in (values_of entries)) (map service_at list)) the.keys
      (all_ranked c (values_of entries) the.pairs the.listed every passes IsAsked tells asked_has all (in_order sorted))

  -- where the class has no services, none is found
  pub none_found : (IsAsked : Service → Type 0) → ((s : Service) → IsAsked s → has_class c s ≡ true) → places ≡ [] → IsFound IsAsked (services_in (values_of entries)) None
  none_found IsAsked asked_has none =
      found_first c (values_of entries) the.pairs the.listed every (λ s b. ⊥) IsAsked (λ s has. ((λ no. absurd no), (λ no. absurd no))) asked_has None (in_order (subst (IsStrictlySortedBy place_cmp) (sym none) none_sorted))
      (subst (λ list. All (λ (s : Service). ⊥) list) (sym (the.values ∙ ap (services_at entries) none)) (All-nil (λ (s : Service). ⊥)))

  module _ (found : Option ServiceId) (sorted : IsStrictlySortedBy place_cmp places) where
    first_listed : (answers : Service → Bool → Type 0) → IsFirstFound answers (services_at entries places) found → IsFirstFound answers (values_of the.pairs) found
    first_listed answers first = subst (λ (list : List Service). IsFirstFound answers list found) (sym the.values) first

    -- what is found by what is told
    pub told_found : (Agrees : (BundleId → List ℕ → Bool) → Type 0) (filter : Option Filter) → IsFirstFound (AnswersTold Agrees filter) (services_at entries places) found → (test : BundleId → List ℕ → Bool) → Agrees test →
        IsFound (IsOpenBy test c filter) (services_in (values_of entries)) found
    told_found Agrees filter first test agrees =
        found_first c (values_of entries) the.pairs the.listed every (λ s b. b ≡ is_open test filter s) (IsOpenBy test c filter) (computed_tells test c filter) (λ s is. is.0.0) found (in_order sorted)
        (first_weaker (AnswersTold Agrees filter) (λ s b. b ≡ is_open test filter s) (values_of the.pairs) found (λ s b is. is.0 test agrees) (first_listed (AnswersTold Agrees filter) first))

    -- it is of the class and fits the filter, whatever is told
    pub told_fits : (Agrees : (BundleId → List ℕ → Bool) → Type 0) (filter : Option Filter) → IsFirstFound (AnswersTold Agrees filter) (services_at entries places) found → IfSome found (IsAskedFor (IsOf c filter) (services_in (values_of entries)))
    told_fits Agrees filter first =
        some_is found (IsAskedFor (λ s. does_fit filter s ≡ true) (values_of the.pairs)) (IsAskedFor (IsOf c filter) (services_in (values_of entries)))
        (one_passes c (values_of entries) the.pairs the.listed every (does_fit filter) (IsOf c filter) (of_decides c filter) (λ s is. is.0))
        (first_asked (AnswersTold Agrees filter) (λ s. does_fit filter s ≡ true) (values_of the.pairs) found (λ s is. is.1) (first_listed (AnswersTold Agrees filter) first))

    -- what is found by the wirings of a world
    pub asked_found : (world : World) (asker : BundleId) (filter : Option Filter) → IsFirstFound (AnswersIn world asker filter) (services_at entries places) found → IsFound (IsOpenTo world asker c filter) (services_in (values_of entries)) found
    asked_found world asker filter first =
        found_first c (values_of entries) the.pairs the.listed every (AnswersIn world asker filter) (IsOpenTo world asker c filter) (world_tells world asker c filter) (λ s is. is.0.0) found (in_order sorted)
        (first_listed (AnswersIn world asker filter) first)

pub if_found : {E : Type 0} (r : Result (Option ServiceId) E) (First Found : Option ServiceId → Type 0) (sorted : Type 0) → OnOk r sorted → IfOk r First → ((found : Option ServiceId) → sorted → First found → Found found) → IfOk r Found
if_found (Ok found) First Found sorted order first so = so found order first
if_found (Err e) First Found sorted order first so = tt

-- ---- the answer

-- each of those that are left holds with one more
pub all_more : {X : Type 0} (P : X → Type 0) (xs : List X) (i : ℕ) (x : X) → i < length xs → x ≡ get_or xs i x → P x → All P (drop (i + 1) xs) → All P (drop i xs)
all_more P xs i x within is holds rest =
    subst (All P) (sym (drop-cons xs i x within ∙ ap (λ y. y ∷ drop (suc i) xs) (sym is))) (All-cons P x (drop (suc i) xs) holds (subst (λ n. All P (drop n xs)) (add-one i) rest))

pub result_is : {E : Type 0} (r : Result (List ServiceId) E) (IsAsked : Service → Type 0) (services : List Service) (ids : List ServiceId) → IfOk r (λ all. all ≡ ids) → AreRanked IsAsked services ids → IfOk r (AreRanked IsAsked services)
result_is (Ok all) IsAsked services ids is ranked = subst (λ list. AreRanked IsAsked services list) (sym is) ranked
result_is (Err e) IsAsked services ids is ranked = tt

pub result_ranked : {E : Type 0} (r : Result (List ServiceId) E) (IsAsked : Service → Type 0) (services : List Service) (ids : List ServiceId) (sorted : Type 0) → IfOk r (λ all. all ≡ ids) → OnOk r sorted → (sorted → AreRanked IsAsked services ids) →
    IfOk r (AreRanked IsAsked services)
result_ranked (Ok all) IsAsked services ids sorted is order ranked = subst (λ list. AreRanked IsAsked services list) (sym is) (ranked order)
result_ranked (Err e) IsAsked services ids sorted is order ranked = tt
