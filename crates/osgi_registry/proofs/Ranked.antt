-- The services of a class, in the order of their places.
use Rattle.std.proofs.Common.{◌≡◌, ◌<◌, ℕ, zero, suc, List, [], ◌∷◌, ap, sym, ◌∙◌, refl, arith, get_or, length, map, subst}
use Rattle.std.specs.Prelude.{true, All, AllPairs, Contains, Option, None, Some}
use Rattle.std.specs.declared.cmp.Ordering.TheVariants.{Less}
use Rattle.std.specs.BTreeMap.{is_at}
use Rattle.std.specs.List.{cons_option, list_any}
use Rattle.std.specs.Map.{keys_of, values_of}
use Rattle.std.proofs.lemmas.List.Elements.{All-contains, All-cons, All-head, All-nil, All-tail, Contains-append_right, Contains-get_or}
use Rattle.std.proofs.lemmas.List.Folds.{Any-from_list_any, list_any_at}
use Rattle.std.proofs.lemmas.List.Kept.{AllPairs-cons}
use Rattle.osgi_registry_index.specs.declared.place.Place.{Place}
use Rattle.osgi_registry.specs.computed.Kept.{AreKept}
use Rattle.osgi_registry.specs.computed.LivePlaces.{IsIndexOf}
use Rattle.osgi_registry_index.specs.Places.{Classes, place_cmp, place_of, places_at, service_at}
use Rattle.osgi_registry.specs.computed.LiveSlots.{service_in, services_at}
use Rattle.osgi_ops.specs.Classes.{has_class, ids_of, rank_cmp}
use Rattle.osgi_ops.specs.declared.service.Service.{Service}
use Rattle.osgi_registry.specs.Rows.{LiveService, row_at, service_number, services_in}
use Rattle.osgi_registry.proofs.Current.{service_by, service_of}
use Rattle.osgi_registry.proofs.Entries.{pairs_head, pairs_tail, row_by_key}
use Rattle.osgi_registry_index.proofs.Exact.{place_exact, place_itself}
use Rattle.osgi_registry.proofs.Owned.{each_found, rising_rows}
use Rattle.osgi_registry.proofs.Placed.{Contains-services, held_at, IsAt, row_held}

-- a live service of the class at its place
pub record IsListed (c : List ℕ) (rows : List LiveService) (e : Place × Service) : Type 0 where
  pub live : Contains (services_in rows) e.1
  pub has : has_class c e.1 ≡ true
  pub is : place_of e.1 ≡ e.0

-- ---- the services at the places of the class

-- the places with their services
pub record AreListed (c : List ℕ) (entries : List (ℕ × LiveService)) (places : List Place) : Type 0 where
  pub pairs : List (Place × Service)
  pub keys : keys_of pairs ≡ places
  pub values : values_of pairs ≡ services_at entries places
  pub listed : All (IsListed c (values_of entries)) pairs

more_found : (found : Option Service) (services : List Service) (s : Service) → Contains services s → Contains (cons_option found services) s
more_found None services s there = there
more_found (Some t) services s there = Contains-append_right (t ∷ []) services s there

first_found : (found : Option Service) (services : List Service) (s : Service) → found ≡ Some s → Contains (cons_option found services) s
first_found None services s is = absurd (cc is)
first_found (Some t) services s is = let same : t ≡ s = cc is in subst (λ u. Contains (t ∷ services) u) same (Contains-get_or (t ∷ services) 0 t (omega arith))

service_there : (entries : List (ℕ × LiveService)) (places : List Place) (p : Place) (s : Service) → Contains places p → service_in entries p.service ≡ Some s → Contains (services_at entries places) s
service_there entries [] p s there found = absurd (omega (arith, there.1))
service_there entries (q ∷ rest) p s (zero, within, is) found = first_found (service_in entries q.service) (services_at entries rest) s (ap (λ (x : Place). service_in entries x.service) is ∙ found)
service_there entries (q ∷ rest) p s (suc k, within, is) found = more_found (service_in entries q.service) (services_at entries rest) s (service_there entries rest p s (k, omega (arith, within), is) found)

module _ (issued : ℕ) (c : List ℕ) (entries : List (ℕ × LiveService)) (kept : AreKept issued entries) where
  -- a live service is found by its id
  found_row : (row : LiveService) → Contains (values_of entries) row → service_in entries (service_number row) ≡ Some row.service
  found_row row live =
      let own : row_at row.service.service (values_of entries) ≡ Some row
      = All-contains (λ (r : LiveService). row_at r.service.service (values_of entries) ≡ Some r) (values_of entries) row (each_found (values_of entries) (rising_rows issued entries kept.under kept.rising)) live in
      service_by entries (service_number row) ∙ ap service_of (sym (row_by_key issued row.service.service entries kept.under) ∙ own)

  found_at : (p : Place) (at : IsAt c (values_of entries) p) → service_in entries p.service ≡ Some at.row.service
  found_at p at = ap (λ (q : Place). service_in entries q.service) (sym at.is) ∙ found_row at.row at.live

  all_listed : (places : List Place) → All (IsAt c (values_of entries)) places → AreListed c entries places
  all_listed [] at = record { pairs = []; keys = refl; values = refl; listed = All-nil (IsListed c (values_of entries)) }
  all_listed (p ∷ rest) at =
      let here : IsAt c (values_of entries) p = All-head (IsAt c (values_of entries)) p rest at in
      let more : AreListed c entries rest = all_listed rest (All-tail (IsAt c (values_of entries)) p rest at) in
      record {
        pairs = (p, here.row.service) ∷ more.pairs;
        keys = ap (λ l. p ∷ l) more.keys;
        values = ap (λ l. here.row.service ∷ l) more.values ∙ ap (λ o. cons_option o (services_at entries rest)) (sym (found_at p here));
        listed =
            All-cons (IsListed c (values_of entries)) (p, here.row.service) more.pairs
            (record { live = Contains-services (values_of entries) here.row here.live; has = here.has; is = here.is }) more.listed;
      }

  module _ (classes : Classes) (index : IsIndexOf classes (values_of entries)) (places : List Place) (are : places_at classes c ≡ places) where
    -- each is a live service of the class
    pub are_listed : AreListed c entries places
    are_listed =
        all_listed places
        (λ k d within.
        let p : Place = get_or places k d in
        row_held classes c (values_of entries) p index (ap (list_any (is_at (place_cmp p))) are ∙ list_any_at (is_at (place_cmp p)) places k d within (place_itself p)))

    -- and each live service of the class is there
    pub every_listed : (k : ℕ) (d : LiveService) → k < length (values_of entries) → has_class c (get_or (values_of entries) k d).service ≡ true → Contains (services_at entries places) (get_or (values_of entries) k d).service
    every_listed k d within has =
        let row : LiveService = get_or (values_of entries) k d in
        let place : Place = place_of row.service in
        let held : list_any (is_at (place_cmp place)) places ≡ true = ap (list_any (is_at (place_cmp place))) (sym are) ∙ held_at classes c (values_of entries) k d index within has in
        let some = Any-from_list_any (is_at (place_cmp place)) places held in
        service_there entries places some.1 row.service (some.0, some.2, some.3)
        (ap (λ (q : Place). service_in entries q.service) (sym (place_exact place some.1 some.4)) ∙ found_row row (Contains-get_or (values_of entries) k d within))

-- ---- their order

module _ (c : List ℕ) (rows : List LiveService) where
  pub ids_are : (entries : List (Place × Service)) → All (IsListed c rows) entries → map service_at (keys_of entries) ≡ ids_of (values_of entries)
  ids_are [] at = refl
  ids_are (e ∷ rest) at =
      let here = All-head (IsListed c rows) e rest at in
      λ i. service_at (sym here.is i) ∷ ids_are rest (All-tail (IsListed c rows) e rest at) i

  after : (service : Service) (entries : List (Place × Service)) → All (IsListed c rows) entries → All (λ q. place_cmp (place_of service) q ≡ Less) (keys_of entries) → All (λ s. rank_cmp service s ≡ Less) (values_of entries)
  after service [] at less = All-nil (λ s. rank_cmp service s ≡ Less)
  after service (e ∷ rest) at less =
      let here = All-head (IsListed c rows) e rest at in
      let first : rank_cmp service e.1 ≡ Less
      = ap (place_cmp (place_of service)) here.is ∙ All-head (λ q. place_cmp (place_of service) q ≡ Less) e.0 (keys_of rest) less in
      All-cons (λ s. rank_cmp service s ≡ Less) e.1 (values_of rest) first
      (after service rest (All-tail (IsListed c rows) e rest at) (All-tail (λ q. place_cmp (place_of service) q ≡ Less) e.0 (keys_of rest) less))

  pub ordered : (entries : List (Place × Service)) → All (IsListed c rows) entries → AllPairs (λ p q. place_cmp p q ≡ Less) (keys_of entries) → AllPairs (λ a b. rank_cmp a b ≡ Less) (values_of entries)
  ordered [] at pairs = λ i j d before within. absurd (omega arith)
  ordered (e ∷ rest) at pairs =
      let here = All-head (IsListed c rows) e rest at in
      let others = All-tail (IsListed c rows) e rest at in
      AllPairs-cons (λ a b. rank_cmp a b ≡ Less) e.1 (values_of rest)
      (after e.1 rest others (subst (λ q. All (λ r. place_cmp q r ≡ Less) (keys_of rest)) (sym here.is) (pairs_head (λ q r. place_cmp q r ≡ Less) e.0 (keys_of rest) pairs)))
      (ordered rest others (pairs_tail (λ q r. place_cmp q r ≡ Less) e.0 (keys_of rest) pairs))
