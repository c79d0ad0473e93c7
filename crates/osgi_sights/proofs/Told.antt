-- What is told listener by listener and happening by happening is exactly what is seen, in order.
use Rattle.std.proofs.Common.{◌≡◌, ◌<◌, ◌≤◌, ◌+◌, ℕ, List, [], ◌∷◌, ◌++◌, arith, inl, inr, length, refl, subst, sym}
use Rattle.std.specs.Prelude.{All, AllPairs, Option}
use Rattle.std.specs.List.{AllByRecursion}
use Rattle.std.proofs.lemmas.List.Elements.{All-from_recursion, All-weaker}
use Rattle.std.proofs.lemmas.List.Kept.{AllPairs-cons}
use Rattle.osgi_base.specs.declared.ids.BundleId.{BundleId}
use Rattle.osgi_base.specs.declared.ids.ListenerId.{ListenerId}
use Rattle.osgi_listeners.specs.Rows.{AreInOrder, Listening}
use Rattle.osgi_ops.specs.Listening.{ComesBefore, here, IsAt, there}
use Rattle.osgi_ops.specs.Moments.{Sight}
use Rattle.osgi_ops.specs.laws.Items.{In-contains}
use Rattle.osgi_sights.specs.Shown.{Shown}
use Rattle.osgi_sights.specs.Sights.{AreSightsOf, IsSeenBy, IsSightOf}
use Rattle.osgi_sights.specs.computed.Asking.{asks}
use Rattle.osgi_sights.specs.computed.Telling.{all_told, first_of, misses, sees, Tells, TellsAll}
use Rattle.osgi_sights.proofs.Answers.{is_seen_once, who_sees_asks}
use Rattle.osgi_sights.proofs.Rising.{ids_rise, IdsAbove, IdsRise, is_among, Rise, rows_rise}
use Rattle.osgi_world.specs.Lists.{In}
use Rattle.osgi_world.specs.declared.world.World.{World}

-- ---- lists

each_joined : {X : Type 0} (P : X → Type 0) (xs ys : List X) → AllByRecursion P xs → AllByRecursion P ys → AllByRecursion P (xs ++ ys)
each_joined P [] ys ones others = others
each_joined P (x ∷ xs) ys ones others = (ones.0, each_joined P xs ys ones.1 others)

each_so : {X : Type 0} (P Q : X → Type 0) → ((x : X) → P x → Q x) → (xs : List X) → AllByRecursion P xs → AllByRecursion Q xs
each_so P Q so [] all = tt
each_so P Q so (x ∷ xs) all = (so x all.0, each_so P Q so xs all.1)

in_first : {X : Type 0} (x : X) (xs ys : List X) → In x xs → In x (xs ++ ys)
in_first x [] ys i = elim i [ ]
in_first x (y ∷ xs) ys (inl same) = inl same
in_first x (y ∷ xs) ys (inr i) = inr (in_first x xs ys i)

in_second : {X : Type 0} (x : X) (xs ys : List X) → In x ys → In x (xs ++ ys)
in_second x [] ys i = i
in_second x (y ∷ xs) ys i = inr (in_second x xs ys i)

-- each of the list comes before those behind it
abbrev Ordered : List Sight → Type 0
Ordered [] = Unit {0}
Ordered (s ∷ rest) = AllByRecursion (ComesBefore s) rest × Ordered rest

ordered_joined : (xs ys : List Sight) → Ordered xs → Ordered ys → AllByRecursion (λ x. AllByRecursion (ComesBefore x) ys) xs → Ordered (xs ++ ys)
ordered_joined [] ys ones others across = others
ordered_joined (x ∷ xs) ys ones others across = (each_joined (ComesBefore x) xs ys ones.0 across.0, ordered_joined xs ys ones.1 others across.1)

ordered_pairs : (xs : List Sight) → Ordered xs → AllPairs ComesBefore xs
ordered_pairs [] ordered = λ i j d before within. absurd (omega (arith, within))
ordered_pairs (x ∷ xs) ordered = AllPairs-cons ComesBefore x xs (All-from_recursion (ComesBefore x) xs ordered.0) (ordered_pairs xs ordered.1)

at_within : (happened : List Shown) (place : ℕ) (shown : Shown) → IsAt place happened shown → place < length happened
at_within [] place shown at = elim at [ ]
at_within (first ∷ rest) place shown here = omega arith
at_within (first ∷ rest) place shown (there {place = further} at) = let below = at_within rest further shown at in omega (arith, below)

-- ---- of one happening

module _ (l : Listening) (removed : Option BundleId) (world : World) where
  only_of : (shown : Shown) (place : ℕ) (ids : List ListenerId) (sights : List Sight) → Tells l removed world shown place ids sights →
      AllByRecursion (λ (s : Sight). (s.place ≡ place) × IsSeenBy l removed world shown s.listener s.event) sights
  only_of shown place ids sights all_told = tt
  only_of shown place ids sights (sees seen rest) = ((refl, seen), only_of shown place _ _ rest)
  only_of shown place ids sights (misses none rest) = only_of shown place _ _ rest

  every_of : (shown : Shown) (place : ℕ) (ids : List ListenerId) (sights : List Sight) → Tells l removed world shown place ids sights →
      (s : Sight) → s.place ≡ place → IsSeenBy l removed world shown s.listener s.event → In s.listener ids → In s sights
  every_of shown place ids sights all_told s at it asked = elim asked [ ]
  every_of shown place ids sights (sees {listener} {seen} own more) s at it (inl same) =
      let once : s.event ≡ seen = is_seen_once l removed world shown s.listener s.event seen it (subst (λ (i : ListenerId). IsSeenBy l removed world shown i seen) (sym same) own) in
      inl (equal same at once)
    where
      equal : s.listener ≡ listener → s.place ≡ place → s.event ≡ seen → s ≡ record { listener = listener; place = place; event = seen }
      equal a b c = λ i. record { listener = a i; place = b i; event = c i }
  every_of shown place ids sights (sees own more) s at it (inr asked) = inr (every_of shown place _ _ more s at it asked)
  every_of shown place ids sights (misses none more) s at it (inl same) = absurd (none s.event (subst (λ (i : ListenerId). IsSeenBy l removed world shown i s.event) same it))
  every_of shown place ids sights (misses none more) s at it (inr asked) = every_of shown place _ _ more s at it asked

  above_of : (n : ℕ) (shown : Shown) (place : ℕ) (ids : List ListenerId) (sights : List Sight) → IdsAbove n ids → Tells l removed world shown place ids sights →
      AllByRecursion (λ (s : Sight). (s.place ≡ place) × (n < s.listener.0)) sights
  above_of n shown place ids sights above all_told = tt
  above_of n shown place ids sights above (sees own more) = ((refl, above.0), above_of n shown place _ _ above.1 more)
  above_of n shown place ids sights above (misses none more) = above_of n shown place _ _ above.1 more

  ordered_of : (shown : Shown) (place : ℕ) (ids : List ListenerId) (sights : List Sight) → IdsRise ids → Tells l removed world shown place ids sights → Ordered sights
  ordered_of shown place ids sights rise all_told = tt
  ordered_of shown place ids sights rise (sees {listener} {seen} own more) =
      (each_so _ (ComesBefore (record { listener = listener; place = place; event = seen })) (λ s behind. inr (sym behind.0, behind.1)) _ (above_of listener.0 shown place _ _ rise.0 more), ordered_of shown place _ _ rise.1 more)
  ordered_of shown place ids sights rise (misses none more) = ordered_of shown place _ _ rise.1 more

  -- ---- of all happenings

  -- the sight is of one of these happenings, the first of which is at this place
  pub record IsFrom (place : ℕ) (happened : List Shown) (s : Sight) : Type 0 where
    pub behind : ℕ
    pub place_is : s.place ≡ place + behind
    pub shown : Shown
    pub at : IsAt behind happened shown
    pub seen : IsSeenBy l removed world shown s.listener s.event

  only_from : (place : ℕ) (happened : List Shown) (sights : List Sight) → TellsAll l removed world place happened sights → AllByRecursion (IsFrom place happened) sights
  only_from place happened sights all_told = tt
  only_from place happened sights (first_of {shown} {rest} {now} {later} told more) =
      each_joined (IsFrom place (shown ∷ rest)) now later
      (each_so _ (IsFrom place (shown ∷ rest)) (λ s own. record { behind = 0; place_is = let is = own.0 in omega (arith, is); shown = shown; at = here; seen = own.1 }) now (only_of shown place _ now told))
      (each_so (IsFrom (1 + place) rest) (IsFrom place (shown ∷ rest)) (λ s own. record { behind = 1 + own.behind; place_is = let is = own.place_is in omega (arith, is); shown = own.shown; at = there own.at; seen = own.seen }) later (only_from (1 + place) rest later more))

  every_from : (place : ℕ) (happened : List Shown) (sights : List Sight) → TellsAll l removed world place happened sights → (s : Sight) (behind : ℕ) → s.place ≡ place + behind → (shown : Shown) → IsAt behind happened shown →
      IsSeenBy l removed world shown s.listener s.event → In s sights
  every_from place happened sights all_told s behind is shown' at seen = elim at [ ]
  every_from place happened sights (first_of {shown} {rest} {now} {later} told more) s behind is shown' here seen =
      in_first s now later (every_of shown place _ now told s (omega (arith, is)) seen (is_among (asks shown) l.rows s.listener seen.row seen.is (who_sees_asks world shown seen.row s.event seen.sees)))
  every_from place happened sights (first_of {shown} {rest} {now} {later} told more) s behind is shown' (there {place = further} at) seen =
      in_second s now later (every_from (1 + place) rest later more s further (omega (arith, is)) shown' at seen)

  later_from : (place : ℕ) (happened : List Shown) (sights : List Sight) → AllByRecursion (IsFrom place happened) sights → AllByRecursion (λ (s : Sight). place ≤ s.place) sights
  later_from place happened sights all = each_so _ _ (λ s own. let is = own.place_is in omega (arith, is)) sights all

  ordered_from : (place : ℕ) (happened : List Shown) (sights : List Sight) → (0 < length happened → Rise l.rows) → TellsAll l removed world place happened sights → Ordered sights
  ordered_from place happened sights rise all_told = tt
  ordered_from place happened sights rise (first_of {shown} {rest} {now} {later} told more) =
      let rows = rise (omega arith) in
      ordered_joined now later (ordered_of shown place _ now (ids_rise (asks shown) l.rows rows) told) (ordered_from (1 + place) rest later (λ some. rows) more)
      (each_so _ (λ s. AllByRecursion (ComesBefore s) later) (λ s own. each_so _ (ComesBefore s) (λ t behind. inl (let is = own.0 in omega (arith, is, behind))) later (later_from (1 + place) rest later (only_from (1 + place) rest later more))) now (only_of shown place _ now told))

  -- so what is told of all happenings are their sights
  pub all_sights : (happened : List Shown) (sights : List Sight) → (0 < length happened → AreInOrder l) → TellsAll l removed world 0 happened sights → AreSightsOf l removed world happened sights
  all_sights happened sights ordered told = record {
    only = All-from_recursion (IsSightOf l removed world happened) sights
        (each_so (IsFrom 0 happened) (IsSightOf l removed world happened) (λ s own. record { shown = own.shown; at = subst (λ n. IsAt n happened own.shown) (let is = own.place_is in omega (arith, is)) own.at; seen = own.seen }) sights (only_from 0 happened sights told));
    every = λ s it. In-contains sights s (every_from 0 happened sights told s s.place (omega arith) it.shown it.at it.seen);
    in_order = ordered_pairs sights (ordered_from 0 happened sights (λ some. rows_rise l (ordered some)) told);
  }

  -- their places are those of the happenings
  pub places_below : (happened : List Shown) (sights : List Sight) (most : ℕ) → length happened ≤ most → AreSightsOf l removed world happened sights → All (λ (s : Sight). s.place < most) sights
  places_below happened sights most few seen = All-weaker (IsSightOf l removed world happened) (λ (s : Sight). s.place < most) (λ s it. let below = at_within happened s.place it.shown it.at in omega (arith, below, few)) sights seen.only
