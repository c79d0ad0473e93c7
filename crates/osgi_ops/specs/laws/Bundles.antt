-- The bundles of a history with one more entry at its end: what was installed, what is live, and what it came from; which ids were given,
-- and the rows of live bundles.
use Rattle.std.proofs.Common.{◌≡◌, ◌⊎◌, inl, inr, ◌+◌, ◌<◌, ◌≤◌, ℕ, List, [], ◌∷◌, ◌++◌, length, length-append, map, append-nil, append_assoc, ap, sym, ◌∙◌, refl, subst, arith}
use Rattle.std.specs.Prelude.{◌==◌, ◌||◌, Bool, true, false, cond, not, nat_le, is_some, Option, None, Some, Contains, filter, find, unwrap_or}
use Rattle.std.specs.List.{cons_option, filter_map, list_any}
use Rattle.std.specs.Option.{option_map}
use Rattle.std.proofs.lemmas.Bool.{cases_eq, cases_lt, eq-eqb, eqb-true, le-leb, lt-leb, ne_eqb, or_cases, or_left, or_right}
use Rattle.std.proofs.lemmas.List.{length-map, map-append}
use Rattle.std.proofs.lemmas.List.Elements.{filter-append, filter_map-append}
use Rattle.std.proofs.lemmas.List.Folds.{list_any-append}
use Rattle.osgi_base.specs.declared.ids.BundleId.{BundleId}
use Rattle.osgi_base.specs.declared.ids.Tag.{Tag}
use Rattle.osgi_ops.specs.Bundles.{begun_by, Bundle, bundles, idle, Installed, installed, installed_after, installed_by, is_live, is_there, is_uninstall, last_begin, live, Phase, phase, put_into, row_from, source, starting, stopping, the_system_bundle, updated_to, was_given}
use Rattle.osgi_ops.specs.Depots.{row_number, stored_revision}
use Rattle.osgi_ops.specs.declared.depot.DepotRow.{DepotRow}
use Rattle.osgi_ops.specs.declared.entry.Entry.{Entry}
use Rattle.osgi_ops.specs.declared.op.Op.{Op}
use Rattle.osgi_ops.specs.declared.op.Op.TheVariants as op
use Rattle.osgi_ops.specs.declared.reply.Reply.{Reply}
use Rattle.osgi_ops.specs.declared.reply.Reply.TheVariants as answer
use Rattle.osgi_ops.specs.laws.Along.{latest-quiet, latest-set}
use Rattle.osgi_ops.specs.laws.Items.{contains-In, find-some}
use Rattle.osgi_ops.specs.laws.Members.{Contains-cases, Contains-filter_map}
use Rattle.osgi_world.specs.declared.revision.Revision.{Revision}

-- an installed bundle with one more entry since
abbrev pub later : Entry → Installed → Installed
later e i = record i { since = i.since ++ e ∷ [] }

-- ---- what is installed

installed_by-later : (earlier : ℕ) (o : Op) (reply : Reply) (since : List Entry) (e : Entry) → installed_by earlier o reply (since ++ e ∷ []) ≡ map (later e) (installed_by earlier o reply since)
installed_by-later earlier (op.Install location) (answer.Bundle bundle false) since e = refl
installed_by-later earlier o reply since e = refl

length_later : (e : Entry) (list : List Installed) → length (map (later e) list) ≡ length list
length_later e list = length-map list (later e)

installed_after-push : (earlier : ℕ) (history : List Entry) (e : Entry) →
    installed_after earlier (history ++ e ∷ []) ≡ map (later e) (installed_after earlier history) ++ installed_by (earlier + length (installed_after earlier history)) e.op e.reply []
installed_after-push earlier [] e =
    append-nil (installed_by earlier e.op e.reply []) ∙ ap (λ n. installed_by n e.op e.reply []) (let same : earlier ≡ earlier + 0 = omega arith in same)
installed_after-push earlier (x ∷ since) e =
    let here = installed_by earlier x.op x.reply since in
    let rest = installed_after (earlier + length here) since in
    let count : earlier + length here + length rest ≡ earlier + length (here ++ rest) = omega (arith, length-append here rest) in
    ap (λ l. l ++ installed_after (earlier + length l) (since ++ e ∷ [])) (installed_by-later earlier x.op x.reply since e)
    ∙ ap (λ n. map (later e) here ++ installed_after (earlier + n) (since ++ e ∷ [])) (length_later e here)
    ∙ ap (λ l. map (later e) here ++ l) (installed_after-push (earlier + length here) since e)
    ∙ sym (append_assoc (map (later e) here) (map (later e) rest) (installed_by (earlier + length here + length rest) e.op e.reply []))
    ∙ (λ i. sym (map-append (later e) here rest) i ++ installed_by (count i) e.op e.reply [])

pub installed-push : (history : List Entry) (e : Entry) → installed (history ++ e ∷ []) ≡ map (later e) (installed history) ++ installed_by (length (installed history)) e.op e.reply []
installed-push history e = installed_after-push 0 history e ∙ ap (λ n. map (later e) (installed history) ++ installed_by n e.op e.reply []) (let same : 0 + length (installed history) ≡ length (installed history) = omega arith in same)

-- ---- what is live

-- the bundles that an entry leaves live
abbrev pub left_by : Entry → List Installed → List Installed
left_by e list = filter (λ (i : Installed). not (is_uninstall i.bundle e.op e.reply)) list

live_by : (e : Entry) (r : Installed) (rest more : List Installed) (gone taken : Bool) → list_any (λ x. is_uninstall r.bundle x.op x.reply) r.since ≡ gone → is_uninstall r.bundle e.op e.reply ≡ taken →
    filter is_there (map (later e) rest) ≡ map (later e) (left_by e more) → filter is_there rest ≡ more →
    cond (not (list_any (λ x. is_uninstall r.bundle x.op x.reply) (r.since ++ e ∷ []))) (later e r ∷ filter is_there (map (later e) rest)) (filter is_there (map (later e) rest))
    ≡ map (later e) (left_by e (cond (not (list_any (λ x. is_uninstall r.bundle x.op x.reply) r.since)) (r ∷ filter is_there rest) (filter is_there rest)))
live_by e r rest more true taken first second same is =
    rw (list_any-append (λ x. is_uninstall r.bundle x.op x.reply) r.since (e ∷ []), first, is) same
live_by e r rest more false true first second same is =
    rw (list_any-append (λ x. is_uninstall r.bundle x.op x.reply) r.since (e ∷ []), first, second, is) same
live_by e r rest more false false first second same is =
    rw (list_any-append (λ x. is_uninstall r.bundle x.op x.reply) r.since (e ∷ []), first, second, is) (ap (λ l. later e r ∷ l) same)

live-later : (e : Entry) (list : List Installed) → filter is_there (map (later e) list) ≡ map (later e) (left_by e (filter is_there list))
live-later e [] = refl
live-later e (r ∷ rest) = live_by e r rest (filter is_there rest) _ _ refl refl (live-later e rest) refl

new_live : (earlier : ℕ) (o : Op) (reply : Reply) → filter is_there (installed_by earlier o reply []) ≡ installed_by earlier o reply []
new_live earlier (op.Install location) (answer.Bundle bundle false) = refl
new_live earlier o reply = refl

-- those that the entry leaves, and the one that it installs
pub live-push : (history : List Entry) (e : Entry) → live (history ++ e ∷ []) ≡ map (later e) (left_by e (live history)) ++ installed_by (length (installed history)) e.op e.reply []
live-push history e =
    let new = installed_by (length (installed history)) e.op e.reply [] in
    ap (filter is_there) (installed-push history e)
    ∙ filter-append is_there (map (later e) (installed history)) new
    ∙ ap (λ l. filter is_there (map (later e) (installed history)) ++ l) (new_live (length (installed history)) e.op e.reply)
    ∙ ap (λ l. l ++ new) (live-later e (installed history))

-- ---- look-ups

abbrev pub has_id : BundleId → Installed → Bool
has_id b i = i.bundle.0 == b.0

some-any : {X : Type 0} (p : X → Bool) (xs : List X) → is_some (find p xs) ≡ list_any p xs
some-any p [] = refl
some-any {X} p (x ∷ xs) = go (p x) (some-any p xs)
  where
    go : (k : Bool) → is_some (find p xs) ≡ list_any p xs → is_some (cond k (Some x) (find p xs)) ≡ (k || list_any p xs)
    go true e = refl
    go false e = e

pub any-map : {X Y : Type 0} (p : Y → Bool) (f : X → Y) (xs : List X) → list_any p (map f xs) ≡ list_any (λ x. p (f x)) xs
any-map p f [] = refl
any-map p f (x ∷ xs) = ap (λ k. p (f x) || k) (any-map p f xs)

-- a filter that keeps what is looked for
any-kept : {X : Type 0} (p q : X → Bool) (xs : List X) → ((x : X) → p x ≡ true → q x ≡ true) → list_any p xs ≡ true → list_any p (filter q xs) ≡ true
any-kept p q [] keeps e = e
any-kept {X} p q (x ∷ xs) keeps e = go (p x) (q x) refl refl e (any-kept p q xs keeps)
  where
    go : (k l : Bool) → p x ≡ k → q x ≡ l → (k || list_any p xs) ≡ true → (list_any p xs ≡ true → list_any p (filter q xs) ≡ true) → list_any p (cond (q x) (x ∷ filter q xs) (filter q xs)) ≡ true
    go true true f g h ih = ap (λ c. list_any p (cond c (x ∷ filter q xs) (filter q xs))) g ∙ ap (λ c. c || list_any p (filter q xs)) f
    go true false f g h ih = absurd (let bad : true ≡ false = sym (keeps x f) ∙ g in cc bad)
    go false true f g h ih = ap (λ c. list_any p (cond c (x ∷ filter q xs) (filter q xs))) g ∙ or_right (p x) _ (ih h)
    go false false f g h ih = ap (λ c. list_any p (cond c (x ∷ filter q xs) (filter q xs))) g ∙ ih h

pub live-any : (b : BundleId) (history : List Entry) → is_live b history ≡ ((b.0 == 0) || list_any (has_id b) (live history))
live-any b history = ap (λ k. (b.0 == 0) || k) (some-any (has_id b) (live history))

uninstall-same : (b n : BundleId) (o : Op) (reply : Reply) → (n.0 == b.0) ≡ true → is_uninstall b o reply ≡ false → is_uninstall n o reply ≡ false
uninstall-same b n o reply e u = let same : b ≡ n = (let q : n.0 ≡ b.0 = eqb-true n.0 b.0 e in λ i. record { 0 = sym q i }) in subst (λ x. is_uninstall x o reply ≡ false) same u

-- a live bundle stays so, but for its Uninstall
pub live-stays : (b : BundleId) (history : List Entry) (e : Entry) → is_live b history ≡ true → is_uninstall b e.op e.reply ≡ false → is_live b (history ++ e ∷ []) ≡ true
live-stays b history e there stays = live-any b (history ++ e ∷ []) ∙ go (b.0 == 0) (sym (live-any b history) ∙ there)
  where
    new : List Installed
    new = installed_by (length (installed history)) e.op e.reply []

    kept : list_any (has_id b) (live history) ≡ true → list_any (has_id b) (live (history ++ e ∷ [])) ≡ true
    kept h =
        ap (list_any (has_id b)) (live-push history e)
        ∙ list_any-append (has_id b) (map (later e) (left_by e (live history))) new
        ∙ or_left _ _ (any-map (has_id b) (later e) (left_by e (live history))
        ∙ any-kept (has_id b) (λ (i : Installed). not (is_uninstall i.bundle e.op e.reply)) (live history)
        (λ i f. ap not (uninstall-same b i.bundle e.op e.reply f stays)) h)

    go : (k : Bool) → (k || list_any (has_id b) (live history)) ≡ true → (k || list_any (has_id b) (live (history ++ e ∷ []))) ≡ true
    go true h = refl
    go false h = kept h

-- ---- entries that uninstall nothing

filter-all : {X : Type 0} (p : X → Bool) (xs : List X) → ((x : X) → p x ≡ true) → filter p xs ≡ xs
filter-all p [] all = refl
filter-all p (x ∷ xs) all = ap (λ k. cond k (x ∷ filter p xs) (filter p xs)) (all x) ∙ ap (λ l. x ∷ l) (filter-all p xs all)

or_assoc : (x y z : Bool) → (x || (y || z)) ≡ ((x || y) || z)
or_assoc true y z = refl
or_assoc false y z = refl

-- those that were live stay so
pub live-kept : (history : List Entry) (e : Entry) → ((b : BundleId) → is_uninstall b e.op e.reply ≡ false) → live (history ++ e ∷ []) ≡ map (later e) (live history) ++ installed_by (length (installed history)) e.op e.reply []
live-kept history e stays =
    live-push history e
    ∙ ap (λ l. map (later e) l ++ installed_by (length (installed history)) e.op e.reply []) (filter-all (λ (i : Installed). not (is_uninstall i.bundle e.op e.reply)) (live history) (λ i. ap not (stays i.bundle)))

-- what was live is, and what the entry installs
pub is_live-kept : (b : BundleId) (history : List Entry) (e : Entry) → ((c : BundleId) → is_uninstall c e.op e.reply ≡ false) →
    is_live b (history ++ e ∷ []) ≡ (is_live b history || list_any (has_id b) (installed_by (length (installed history)) e.op e.reply []))
is_live-kept b history e stays =
    let new = installed_by (length (installed history)) e.op e.reply [] in
    live-any b (history ++ e ∷ [])
    ∙ ap (λ l. (b.0 == 0) || list_any (has_id b) l) (live-kept history e stays)
    ∙ ap (λ k. (b.0 == 0) || k) (list_any-append (has_id b) (map (later e) (live history)) new ∙ ap (λ k. k || list_any (has_id b) new) (any-map (has_id b) (later e) (live history)))
    ∙ or_assoc (b.0 == 0) (list_any (has_id b) (live history)) (list_any (has_id b) new)
    ∙ ap (λ k. k || list_any (has_id b) new) (sym (live-any b history))

-- ---- where a bundle comes from

pub source-by : (i : Installed) (e : Entry) (u : Option (List ℕ)) → updated_to i.bundle e.op e.reply ≡ u → source (later e i) ≡ unwrap_or u (source i)
source-by i e None is = ap (λ o. unwrap_or o i.location) (latest-quiet (λ (x : Entry). updated_to i.bundle x.op x.reply) i.since e is)
source-by i e (Some location) is = ap (λ o. unwrap_or o i.location) (latest-set (λ (x : Entry). updated_to i.bundle x.op x.reply) i.since e location is)

pub source-push : (i : Installed) (e : Entry) → source (later e i) ≡ unwrap_or (updated_to i.bundle e.op e.reply) (source i)
source-push i e = source-by i e (updated_to i.bundle e.op e.reply) refl

-- ---- rows of live bundles

pub row-kept : (depot : List DepotRow) (i : Installed) (e : Entry) → updated_to i.bundle e.op e.reply ≡ None → row_from depot (later e i) ≡ row_from depot i
row-kept depot i e none =
    ap (λ s. option_map (λ (revision : Revision). record { bundle = i.bundle; location = i.location; row = row_number depot s; revision = revision }) (stored_revision depot s)) (source-by i e None none)

filter_map-map : {X Y : Type 0} (f : X → Option Y) (g : X → X) (xs : List X) → ((x : X) → f (g x) ≡ f x) → filter_map f (map g xs) ≡ filter_map f xs
filter_map-map f g [] same = refl
filter_map-map f g (x ∷ xs) same = λ i. cons_option (same x i) (filter_map-map f g xs same i)

-- where nothing is uninstalled or updated, all rows stay, and the last is that of what the entry installs
pub bundles-push : (depot : List DepotRow) (history : List Entry) (e : Entry) → ((b : BundleId) → is_uninstall b e.op e.reply ≡ false) → ((b : BundleId) → updated_to b e.op e.reply ≡ None) →
    bundles depot (history ++ e ∷ []) ≡ bundles depot history ++ filter_map (row_from depot) (installed_by (length (installed history)) e.op e.reply [])
bundles-push depot history e stays none =
    let new = installed_by (length (installed history)) e.op e.reply [] in
    ap (λ l. the_system_bundle ∷ filter_map (row_from depot) l) (live-kept history e stays)
    ∙ ap (λ l. the_system_bundle ∷ l)
    (filter_map-append (row_from depot) (map (later e) (live history)) new
    ∙ ap (λ l. l ++ filter_map (row_from depot) new) (filter_map-map (row_from depot) (later e) (live history) (λ i. row-kept depot i e (none i.bundle))))

row_bundle : (i : Installed) (number : ℕ) (o : Option Revision) (c : Bundle) → option_map (λ (revision : Revision). record { bundle = i.bundle; location = i.location; row = number; revision = revision }) o ≡ Some c → c.bundle ≡ i.bundle
row_bundle i number None c is = absurd (cc is)
row_bundle i number (Some v) c is =
    let same : record { bundle = i.bundle; location = i.location; row = number; revision = v } ≡ c = cc is in
    sym (ap (λ (x : Bundle). x.bundle) same)

-- a row is that of its bundle
pub row-bundle : (depot : List DepotRow) (i : Installed) (c : Bundle) → row_from depot i ≡ Some c → c.bundle ≡ i.bundle
row-bundle depot i c is = row_bundle i (row_number depot (source i)) (stored_revision depot (source i)) c is

list_any-from : {X : Type 0} (p : X → Bool) (xs : List X) (x : X) → Contains xs x → p x ≡ true → list_any p xs ≡ true
list_any-from p xs x there passes = sym (some-any p xs) ∙ ap is_some (find-some p xs x (contains-In xs x there) passes).1

-- a bundle of a row is live
pub row-live : (depot : List DepotRow) (history : List Entry) (c : Bundle) → Contains (bundles depot history) c → is_live c.bundle history ≡ true
row-live depot history c there = by (Contains-cases the_system_bundle (filter_map (row_from depot) (live history)) c there)
  where
    by : (the_system_bundle ≡ c) ⊎ Contains (filter_map (row_from depot) (live history)) c → is_live c.bundle history ≡ true
    by (inl same) = or_left (c.bundle.0 == 0) (is_some (find (has_id c.bundle) (live history))) (ap (λ (x : Bundle). x.bundle.0 == 0) (sym same))
    by (inr made) =
        let from = Contains-filter_map (row_from depot) (live history) c made in
        let same = row-bundle depot from.0 c from.2 in
        live-any c.bundle history
        ∙ or_right (c.bundle.0 == 0) (list_any (has_id c.bundle) (live history))
        (list_any-from (has_id c.bundle) (live history) from.0 from.1 (eq-eqb from.0.bundle.0 c.bundle.0 (ap (λ (x : BundleId). x.0) (sym same))))

-- each live bundle has its row
abbrev pub HaveRows : List DepotRow → List Entry → Type 0
HaveRows depot history = (b : BundleId) → is_live b history ≡ true → (c : Bundle) × Contains (bundles depot history) c × (c.bundle ≡ b)

-- ---- phases

-- an entry that puts a bundle into no phase leaves it in its own
pub phase-kept : (b : BundleId) (history : List Entry) (e : Entry) → put_into b e.op e.reply ≡ None → phase b (history ++ e ∷ []) ≡ phase b history
phase-kept b history e none = ap (λ o. unwrap_or o idle) (latest-quiet (λ (x : Entry). put_into b x.op x.reply) history e none)

abbrev tag_of : Tag → Option Phase → Option Tag
tag_of tag o = elim o [ Some starting ↦ Some tag | Some stopping ↦ Some tag | _ ↦ None ]

pub last_begin-kept : (b : BundleId) (history : List Entry) (e : Entry) → put_into b e.op e.reply ≡ None → last_begin b (history ++ e ∷ []) ≡ last_begin b history
last_begin-kept b history e none = latest-quiet (begun_by b) history e (ap (tag_of e.tag) none)

-- ---- ids

new_cases : (earlier : ℕ) (o : Op) (reply : Reply) (since : List Entry) → (installed_by earlier o reply since ≡ []) ⊎ ((i : Installed) × (i.bundle.0 ≡ earlier + 1) × (installed_by earlier o reply since ≡ i ∷ []))
new_cases earlier (op.Install location) (answer.Bundle bundle false) since = inr (record { bundle = record { 0 = earlier + 1 }; location = location; since = since }, refl, refl)
new_cases earlier o reply since = inl refl

abbrev any_of : ℕ → List Installed → Bool
any_of n list = list_any (λ (i : Installed). i.bundle.0 == n) list

-- the number is one of those given to as many as these, after so many others
abbrev IsNumberOf : ℕ → ℕ → List Installed → Type 0
IsNumberOf earlier n list = (earlier < n) × (n ≤ earlier + length list)

module _ (earlier n : ℕ) (rest : ℕ → List Installed) where
  numbers_from : (here : List Installed) → (here ≡ []) ⊎ ((i : Installed) × (i.bundle.0 ≡ earlier + 1) × (here ≡ i ∷ [])) → ((k : ℕ) → any_of n (rest k) ≡ true → IsNumberOf k n (rest k)) →
      any_of n (here ++ rest (earlier + length here)) ≡ true → IsNumberOf earlier n (here ++ rest (earlier + length here))
  numbers_from here (inl none) more =
      subst (λ h. any_of n (h ++ rest (earlier + length h)) ≡ true → IsNumberOf earlier n (h ++ rest (earlier + length h))) (sym none)
      (λ any. (let w = more (earlier + 0) any in (omega (arith, w.0), omega (arith, w.1))))
  numbers_from here (inr (i, number, one)) more =
      subst (λ h. any_of n (h ++ rest (earlier + length h)) ≡ true → IsNumberOf earlier n (h ++ rest (earlier + length h))) (sym one)
      (λ any. elim (or_cases (i.bundle.0 == n) (any_of n (rest (earlier + 1))) any) [
        | inl same ↦ (let is : i.bundle.0 ≡ n = eqb-true i.bundle.0 n same in (omega (arith, number, is), omega (arith, number, is)))
        | inr later ↦ (let w = more (earlier + 1) later in (omega (arith, w.0), omega (arith, w.1)))
      ])

  numbers_all : (here : List Installed) → (here ≡ []) ⊎ ((i : Installed) × (i.bundle.0 ≡ earlier + 1) × (here ≡ i ∷ [])) → ((k : ℕ) → IsNumberOf k n (rest k) → any_of n (rest k) ≡ true) →
      IsNumberOf earlier n (here ++ rest (earlier + length here)) → any_of n (here ++ rest (earlier + length here)) ≡ true
  numbers_all here (inl none) more =
      subst (λ h. IsNumberOf earlier n (h ++ rest (earlier + length h)) → any_of n (h ++ rest (earlier + length h)) ≡ true) (sym none)
      (λ w. more (earlier + 0) (omega (arith, w.0), omega (arith, w.1)))
  numbers_all here (inr (i, number, one)) more =
      subst (λ h. IsNumberOf earlier n (h ++ rest (earlier + length h)) → any_of n (h ++ rest (earlier + length h)) ≡ true) (sym one)
      (λ w. elim (cases_eq i.bundle.0 n) [
        | inl is ↦ or_left (i.bundle.0 == n) (any_of n (rest (earlier + 1))) (eq-eqb i.bundle.0 n is)
        | inr differs ↦ or_right (i.bundle.0 == n) (any_of n (rest (earlier + 1))) (more (earlier + 1)
            (cases_after w.0 w.1 differs))
      ])
    where
      cases_after : earlier < n → n ≤ earlier + length (i ∷ rest (earlier + 1)) → ¬ (i.bundle.0 ≡ n) → IsNumberOf (earlier + 1) n (rest (earlier + 1))
      cases_after above below differs = elim (cases_lt (earlier + 1) n) [
        | inl less ↦ (less, omega (arith, below))
        | inr least ↦ absurd (differs (omega (arith, number, above, least)))
      ]

given_from : (earlier : ℕ) (history : List Entry) (n : ℕ) → any_of n (installed_after earlier history) ≡ true → IsNumberOf earlier n (installed_after earlier history)
given_from earlier [] n any = absurd (cc any)
given_from earlier (x ∷ since) n any = numbers_from earlier n (λ k. installed_after k since) (installed_by earlier x.op x.reply since) (new_cases earlier x.op x.reply since) (λ k. given_from k since n) any

given_all : (earlier : ℕ) (history : List Entry) (n : ℕ) → IsNumberOf earlier n (installed_after earlier history) → any_of n (installed_after earlier history) ≡ true
given_all earlier [] n within = absurd (omega (arith, within.0, within.1))
given_all earlier (x ∷ since) n within = numbers_all earlier n (λ k. installed_after k since) (installed_by earlier x.op x.reply since) (new_cases earlier x.op x.reply since) (λ k. given_all k since n) within

-- ids count up: those given are the ones up to the number of bundles installed
pub was_given-is : (b : BundleId) (history : List Entry) → was_given b history ≡ nat_le b.0 (length (installed history))
was_given-is b history = elim (cases_eq b.0 0) [
  | inl own ↦ or_left (b.0 == 0) (any_of b.0 (installed history)) (eq-eqb b.0 0 own) ∙ sym (le-leb b.0 (length (installed history)) (omega (arith, own)))
  | inr other ↦ ap (λ k. k || any_of b.0 (installed history)) (ne_eqb b.0 0 other) ∙ by other (any_of b.0 (installed history)) refl
]
  where
    by : ¬ (b.0 ≡ 0) → (any : Bool) → any_of b.0 (installed history) ≡ any → any_of b.0 (installed history) ≡ nat_le b.0 (length (installed history))
    by other true is = is ∙ sym (le-leb b.0 (length (installed history)) (let w = given_from 0 history b.0 is in omega (arith, w.1)))
    by other false is = is ∙ sym (elim (cases_lt (length (installed history)) b.0) [
      | inl above ↦ lt-leb b.0 (length (installed history)) above
      | inr within ↦ absurd (let bad : true ≡ false = sym (given_all 0 history b.0 (above_none other, omega (arith, within))) ∙ is in cc bad)
    ])
      where
        above_none : ¬ (b.0 ≡ 0) → 0 < b.0
        above_none nonzero = elim (cases_lt 0 b.0) [ inl above ↦ above | inr none ↦ absurd (nonzero (omega (arith, none))) ]
