-- The bundles that are found of the added wirings are those that the rows list.
use Rattle.std.proofs.Common.{◌≡◌, ℕ, inl, inr, List, [], ◌∷◌, map, filter, ap, sym, subst, ◌∙◌, refl}
use Rattle.std.specs.Prelude.{Bool, true, false, cond, ◌==◌, ◌&&◌, ◌||◌, Err, IfOk, nat_le, None, Ok, Option, Result, Some}
use Rattle.std.specs.BTreeSet.{BTreeSet, contains, IsOrdered}
use Rattle.std.specs.List.{AllByRecursion, list_any}
use Rattle.std.specs.List.Sorted.{IsStrictlySortedBy}
use Rattle.std.specs.Option.{option_and_then, option_map_or}
use Rattle.std.specs.Ordering.{eq_by_cmp, is_eq, nat_cmp}
use Rattle.std.specs.declared.cmp.Ordering.{Ordering}
use Rattle.std.specs.declared.cmp.Ordering.TheVariants.{Less, Equal, Greater}
use Rattle.std.proofs.lemmas.Bool.{and_parts, eq-eqb, eqb-true, or_left, or_right}
use Rattle.std.proofs.lemmas.Cmp.{eq_by_cmp_equiv, nat_cmp_total}
use Rattle.std.proofs.lemmas.Map.Keys.{sorted_from_strictly_increasing}
use Rattle.std.proofs.lemmas.Map.Lookups.{btree_set_from_contains, exact_unsigned}
use Rattle.osgi_base.specs.declared.ids.BundleId.{BundleId}
use Rattle.osgi_base.specs.declared.ids.RevisionId.{RevisionId}
use Rattle.osgi_bundle.specs.Rows.{AreInOrder, bundle_number, has_bundle_id, row_at, TableRows}
use Rattle.osgi_bundle.specs.Rows as rows
use Rattle.osgi_bundle.specs.declared.kept.BundleKept.{BundleKept}
use Rattle.osgi_ops.specs.Resolved.{current_revision, has_revision, is_current_of, is_in_use}
use Rattle.osgi_ops.specs.declared.state.TheConstants.{INSTALLED}
use Rattle.osgi_wiring.proofs.Indexed.{known-there}
use Rattle.osgi_wiring.proofs.Kept.{find-in}
use Rattle.osgi_wiring.specs.States.{IsKeptWorld}
use Rattle.osgi_world.specs.Lists.{In}
use Rattle.osgi_world.specs.Lookups.{known_at}
use Rattle.osgi_world.specs.declared.wiring.Wiring.{Wiring}
use Rattle.osgi_world.specs.declared.world.Known.{Known}
use Rattle.osgi_world.specs.declared.world.World.{World}
use Rattle.osgi_reply_resolving.proofs.Rows.{map_twice, row_live}
use Rattle.osgi_reply_resolving.specs.computed.Searched.{bundle_of, is_by, is_by_wiring, is_installed, is_newly, is_own, listed}

-- ---- lists

any_by : {X : Type 0} (test : X → Bool) (x : X) (xs : List X) (t : Bool) → test x ≡ t → (list_any test xs ≡ true → (y : X) × In y xs × (test y ≡ true)) → (t || list_any test xs) ≡ true → (y : X) × In y (x ∷ xs) × (test y ≡ true)
any_by test x xs true is rest e = (x, inl refl, is)
any_by test x xs false is rest e = let r = rest e in (r.0, inr r.1, r.2)

any_in : {X : Type 0} (test : X → Bool) (xs : List X) → list_any test xs ≡ true → (x : X) × In x xs × (test x ≡ true)
any_in test [] e = absurd (cc e)
any_in test (x ∷ xs) e = any_by test x xs (test x) refl (any_in test xs) e

in_any : {X : Type 0} (test : X → Bool) (xs : List X) (x : X) → In x xs → test x ≡ true → list_any test xs ≡ true
in_any test [] x i e = elim i [ ]
in_any test (y ∷ xs) x (inl same) e = or_left (test y) (list_any test xs) (ap test (sym same) ∙ e)
in_any test (y ∷ xs) x (inr i) e = or_right (test y) (list_any test xs) (in_any test xs x i e)

module _ {X Y : Type 0} (p : X → Bool) (f : X → Y) where
  abbrev Passes : Y → List X → Type 0
  Passes y xs = (x : X) × In x xs × (p x ≡ true) × (f x ≡ y)

  passed_by : (x : X) (xs : List X) (y : Y) (t : Bool) → p x ≡ t → (In y (map f (filter p xs)) → Passes y xs) → In y (map f (cond t (x ∷ filter p xs) (filter p xs))) → Passes y (x ∷ xs)
  passed_by x xs y true is rest (inl e) = (x, inl refl, is, sym e)
  passed_by x xs y true is rest (inr i) = let r = rest i in (r.0, inr r.1, r.2, r.3)
  passed_by x xs y false is rest i = let r = rest i in (r.0, inr r.1, r.2, r.3)

  passed : (xs : List X) (y : Y) → In y (map f (filter p xs)) → Passes y xs
  passed [] y i = elim i [ ]
  passed (x ∷ xs) y i = passed_by x xs y (p x) refl (passed xs y) i

  kept_here : (x : X) (xs : List X) (t : Bool) → t ≡ true → In (f x) (map f (cond t (x ∷ filter p xs) (filter p xs)))
  kept_here x xs true e = inl refl
  kept_here x xs false e = absurd (cc e)

  kept_later : (x : X) (xs : List X) (y : Y) (t : Bool) → In y (map f (filter p xs)) → In y (map f (cond t (x ∷ filter p xs) (filter p xs)))
  kept_later x xs y true i = inr i
  kept_later x xs y false i = i

  passes : (xs : List X) (x : X) → In x xs → p x ≡ true → In (f x) (map f (filter p xs))
  passes [] x i e = elim i [ ]
  passes (z ∷ xs) x (inl same) e = subst (λ (w : X). In (f w) (map f (filter p (z ∷ xs)))) (sym same) (kept_here z xs (p z) (ap p (sym same) ∙ e))
  passes (z ∷ xs) x (inr i) e = kept_later z xs (f x) (p z) (passes xs x i e)

-- ---- what is kept of numbers that rise rises

module _ {X : Type 0} (p : X → Bool) (f : X → ℕ) where
  above_by : (P : ℕ → Type 0) (x : X) (xs : List X) (t : Bool) → AllByRecursion P (f x ∷ []) → AllByRecursion P (map f (filter p xs)) → AllByRecursion P (map f (cond t (x ∷ filter p xs) (filter p xs)))
  above_by P x xs true one more = (one.0, more)
  above_by P x xs false one more = more

  above : (P : ℕ → Type 0) (xs : List X) → AllByRecursion P (map f xs) → AllByRecursion P (map f (filter p xs))
  above P [] all = tt
  above P (x ∷ xs) all = above_by P x xs (p x) (all.0, tt) (above P xs all.1)

  rising_by : (x : X) (xs : List X) (t : Bool) → AllByRecursion (λ y. nat_cmp (f x) y ≡ Less) (map f (filter p xs)) → IsStrictlySortedBy nat_cmp (map f (filter p xs)) → IsStrictlySortedBy nat_cmp (map f (cond t (x ∷ filter p xs) (filter p xs)))
  unfolding IsStrictlySortedBy
  rising_by x xs true here more = (here, more)
  rising_by x xs false here more = more

  rising : (xs : List X) → IsStrictlySortedBy nat_cmp (map f xs) → IsStrictlySortedBy nat_cmp (map f (filter p xs))
  unfolding IsStrictlySortedBy
  rising [] sorted = tt
  rising (x ∷ xs) sorted = rising_by x xs (p x) (above (λ y. nat_cmp (f x) y ≡ Less) xs sorted.0) (rising xs sorted.1)

-- ---- tests

both : (s t : Bool) → (s ≡ true → t ≡ true) → (t ≡ true → s ≡ true) → s ≡ t
both true true there back = refl
both true false there back = sym (there refl)
both false true there back = back refl
both false false there back = refl

and_true : (s t : Bool) → s ≡ true → t ≡ true → (s && t) ≡ true
and_true true true s t = refl
and_true true false s t = absurd (cc t)
and_true false t s u = absurd (cc s)

tied : (r : Ordering) → is_eq r ≡ true → r ≡ Equal
tied Less e = absurd (cc e)
tied Equal e = refl
tied Greater e = absurd (cc e)

number_same : (m n : ℕ) → eq_by_cmp nat_cmp m n ≡ true → m ≡ n
number_same m n e = exact_unsigned m n (tied (nat_cmp m n) e)

same_number : (m n : ℕ) → m ≡ n → eq_by_cmp nat_cmp m n ≡ true
same_number m n e = subst (λ k. eq_by_cmp nat_cmp m k ≡ true) e ((eq_by_cmp_equiv nat_cmp_total).refl m)

-- ---- the two lists

module _ (W : World) (issued : ℕ) (table : TableRows) (added : List Wiring) (kept : IsKeptWorld W issued) (order : AreInOrder table) where
  -- the current revision of the row's bundle is used by the wirings
  abbrev Used : BundleKept → RevisionId → Type 0
  Used row r = (c : Known) × (current_revision W row.bundle ≡ Some c) × (c.id ≡ r)

  newly_from : (row : BundleKept) (r : RevisionId) → (row.state == INSTALLED) ≡ true → Used row r → is_in_use added r ≡ true → is_newly W added row ≡ true
  newly_from row r installed u used =
      and_true (row.state == INSTALLED) (option_map_or (λ (k : Known). is_in_use added k.id) (current_revision W row.bundle) false) installed
      (ap (λ o. option_map_or (λ (k : Known). is_in_use added k.id) o false) u.1 ∙ ap (is_in_use added) u.2 ∙ used)

  abbrev Row : ℕ → RevisionId → Type 0
  Row n r = (row : BundleKept) × In row table.rows × (bundle_number row ≡ n) × ((row.state == INSTALLED) ≡ true) × Used row r

  installed_row : (b : BundleId) (o : Option BundleKept) (given : Bool) → row_at b table.rows ≡ o → option_map_or (λ state. state == INSTALLED) (rows.state_by o given) false ≡ true →
      (row : BundleKept) × In row table.rows × (bundle_number row ≡ b.0) × ((row.state == INSTALLED) ≡ true)
  installed_row b (Some row) given is e = let f = find-in (has_bundle_id b) table.rows row is in (row, f.0, eqb-true (bundle_number row) b.0 f.1, e)
  installed_row b None true is e = absurd (cc e)
  installed_row b None false is e = absurd (cc e)

  own_by : (k : Known) (o : Option Known) → current_revision W k.bundle ≡ o → option_map_or (λ (c : Known). c.id.0 == k.id.0) o false ≡ true → (c : Known) × (current_revision W k.bundle ≡ Some c) × (c.id ≡ k.id)
  own_by k None is e = absurd (cc e)
  own_by k (Some c) is e = (c, is, ap (λ n. record { 0 = n }) (eqb-true c.id.0 k.id.0 e))

  row_of_known : (n : ℕ) (k : Known) → k.bundle.0 ≡ n → is_own W k ≡ true → is_installed table k.bundle ≡ true → Row n k.id
  row_of_known n k named own installed =
      let r = installed_row k.bundle (row_at k.bundle table.rows) (nat_le k.bundle.0 table.issued) refl installed in
      let c = own_by k (current_revision W k.bundle) refl own in
      let same : r.0.bundle ≡ k.bundle = ap (λ m. record { 0 = m }) r.2 in
      (r.0, r.1, r.2 ∙ named, r.3, (c.0, ap (current_revision W) same ∙ c.1, c.2))

  chosen : (n : ℕ) (r : RevisionId) (k : Known) (own installed : Bool) → is_own W k ≡ own → is_installed table k.bundle ≡ installed → k.id ≡ r → option_map_or (λ (b : BundleId). b.0 == n) (cond (own && installed) (Some k.bundle) None) false ≡ true → Row n r
  chosen n r k true true own installed is e = subst (λ (s : RevisionId). Row n s) is (row_of_known n k (eqb-true k.bundle.0 n e) own installed)
  chosen n r k true false own installed is e = absurd (cc e)
  chosen n r k false installed own is_installed is e = absurd (cc e)

  row_by : (n : ℕ) (r : RevisionId) (o : Option Known) → known_at W.known r ≡ o →
      option_map_or (λ (b : BundleId). b.0 == n) (option_and_then (λ (k : Known). cond (is_own W k && is_installed table k.bundle) (Some k.bundle) None) o) false ≡ true → Row n r
  row_by n r None is e = absurd (cc e)
  row_by n r (Some k) is e =
      let f = find-in (λ (k : Known). k.id.0 == r.0) W.known k is in
      chosen n r k (is_own W k) (is_installed table k.bundle) refl refl (ap (λ n. record { 0 = n }) (eqb-true k.id.0 r.0 f.1)) e

  row_there : (n : ℕ) (r : RevisionId) → is_by W table n r ≡ true → Row n r
  row_there n r e = row_by n r (known_at W.known r) refl e

  there : (n : ℕ) → list_any (is_by_wiring W table n) added ≡ true → list_any (eq_by_cmp nat_cmp n) (map bundle_number (filter (is_newly W added) table.rows)) ≡ true
  there n e =
      let g = any_in (is_by_wiring W table n) added e in
      let r = any_in (is_by W table n) (g.0.revision ∷ g.0.fragments) g.2 in
      let used : is_in_use added r.0 ≡ true = in_any (has_revision r.0) added g.0 g.1 (in_any (λ (f : RevisionId). f.0 == r.0.0) (g.0.revision ∷ g.0.fragments) r.0 r.1 (eq-eqb r.0.0 r.0.0 refl)) in
      let row = row_there n r.0 r.2 in
      in_any (eq_by_cmp nat_cmp n) (map bundle_number (filter (is_newly W added) table.rows)) (bundle_number row.0)
      (passes (is_newly W added) bundle_number table.rows row.0 row.1 (newly_from row.0 r.0 row.3 row.4 used)) (same_number n (bundle_number row.0) (sym row.2))

  found_by : (n : ℕ) (k : Known) → In k W.known → k.bundle.0 ≡ n → is_own W k ≡ true → is_installed table k.bundle ≡ true → is_by W table n k.id ≡ true
  found_by n k i named own installed =
      ap (λ o. option_map_or (λ (b : BundleId). b.0 == n) (option_and_then (λ (k : Known). cond (is_own W k && is_installed table k.bundle) (Some k.bundle) None) o) false) (known-there W.known k kept.is_world.known_once i)
      ∙ (λ i. option_map_or (λ (b : BundleId). b.0 == n) (cond (own i && installed i) (Some k.bundle) None) false)
      ∙ eq-eqb k.bundle.0 n named

  used_in : (r : RevisionId) → is_in_use added r ≡ true → (g : Wiring) × In g added × In r (g.revision ∷ g.fragments)
  used_in r e =
      let g = any_in (has_revision r) added e in
      let s = any_in (λ (f : RevisionId). f.0 == r.0) (g.0.revision ∷ g.0.fragments) g.2 in
      let same : s.0 ≡ r = ap (λ n. record { 0 = n }) (eqb-true s.0.0 r.0 s.2) in
      (g.0, g.1, subst (λ (x : RevisionId). In x (g.0.revision ∷ g.0.fragments)) same s.1)

  by_current : (row : BundleKept) (o : Option Known) → In row table.rows → (row.state == INSTALLED) ≡ true → current_revision W row.bundle ≡ o → option_map_or (λ (k : Known). is_in_use added k.id) o false ≡ true →
      list_any (is_by_wiring W table (bundle_number row)) added ≡ true
  by_current row None i installed is e = absurd (cc e)
  by_current row (Some k) i installed is e =
      let f = find-in (is_current_of row.bundle) W.known k is in
      let tests = and_parts k.current (k.bundle.0 == row.bundle.0) f.1 in
      let same : k.bundle ≡ row.bundle = ap (λ n. record { 0 = n }) (eqb-true k.bundle.0 row.bundle.0 tests.1) in
      let own : is_own W k ≡ true = ap (λ o. option_map_or (λ (c : Known). c.id.0 == k.id.0) o false) (ap (current_revision W) same ∙ is) ∙ eq-eqb k.id.0 k.id.0 refl in
      let live : row_at k.bundle table.rows ≡ Some row = ap (λ b. row_at b table.rows) same ∙ row_live table row order i in
      let there : is_installed table k.bundle ≡ true = ap (λ o. option_map_or (λ state. state == INSTALLED) (rows.state_by o (nat_le k.bundle.0 table.issued)) false) live ∙ installed in
      let u = used_in k.id e in
      in_any (is_by_wiring W table (bundle_number row)) added u.0 u.1
      (in_any (is_by W table (bundle_number row)) (u.0.revision ∷ u.0.fragments) k.id u.2 (found_by (bundle_number row) k f.0 (eqb-true k.bundle.0 row.bundle.0 tests.1) own there))

  back : (n : ℕ) → list_any (eq_by_cmp nat_cmp n) (map bundle_number (filter (is_newly W added) table.rows)) ≡ true → list_any (is_by_wiring W table n) added ≡ true
  back n e =
      let x = any_in (eq_by_cmp nat_cmp n) (map bundle_number (filter (is_newly W added) table.rows)) e in
      let row = passed (is_newly W added) bundle_number table.rows x.0 x.1 in
      let tests = and_parts (row.0.state == INSTALLED) (option_map_or (λ (k : Known). is_in_use added k.id) (current_revision W row.0.bundle) false) row.2 in
      subst (λ m. list_any (is_by_wiring W table m) added ≡ true) (row.3 ∙ sym (number_same n x.0 x.2)) (by_current row.0 (current_revision W row.0.bundle) row.1 tests.0 refl tests.1)

  pub numbers_are : (numbers : BTreeSet ℕ) → IsOrdered nat_cmp numbers → ((n : ℕ) → contains nat_cmp numbers n ≡ list_any (is_by_wiring W table n) added) → numbers.keys ≡ map bundle_number (filter (is_newly W added) table.rows)
  numbers_are numbers ordered has =
      let list : BTreeSet ℕ = record { keys = map bundle_number (filter (is_newly W added) table.rows) } in
      btree_set_from_contains nat_cmp_total numbers list ordered (rising (is_newly W added) bundle_number table.rows (sorted_from_strictly_increasing (map bundle_number table.rows) order.rising))
      (λ n. has n ∙ both (list_any (is_by_wiring W table n) added) (list_any (eq_by_cmp nat_cmp n) (map bundle_number (filter (is_newly W added) table.rows))) (there n) (back n)) exact_unsigned

  pub listed_are : (numbers : BTreeSet ℕ) (list : List BundleId) → IsOrdered nat_cmp numbers → ((n : ℕ) → contains nat_cmp numbers n ≡ list_any (is_by_wiring W table n) added) → list ≡ map bundle_of numbers.keys → list ≡ listed W added table.rows
  listed_are numbers list ordered has is = is ∙ ap (map bundle_of) (numbers_are numbers ordered has) ∙ map_twice bundle_of bundle_number (filter (is_newly W added) table.rows)

-- ---- what functions answer

pub listed_ok : {E : Type 0} (W : World) (issued : ℕ) (table : TableRows) (added : List Wiring) (numbers : BTreeSet ℕ) (r : Result (List BundleId) E) → IsKeptWorld W issued → AreInOrder table → IsOrdered nat_cmp numbers →
    ((n : ℕ) → contains nat_cmp numbers n ≡ list_any (is_by_wiring W table n) added) → IfOk r (λ list. list ≡ map bundle_of numbers.keys) → IfOk r (λ list. list ≡ listed W added table.rows)
listed_ok W issued table added numbers (Ok list) kept order ordered has is = listed_are W issued table added kept order numbers list ordered has is
listed_ok W issued table added numbers (Err e) kept order ordered has is = tt
