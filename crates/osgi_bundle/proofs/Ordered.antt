-- Rows in order and apart, when one is added under the next id.
use Rattle.std.proofs.Common.{◌≡◌, ◌+◌, ◌<◌, ◌≤◌, ℕ, List, [], ◌∷◌, ◌++◌, map, sym, subst, arith}
use Rattle.std.specs.Prelude.{None, All, IsSomeAnd, slice_get}
use Rattle.std.specs.List.Sorted.{IsStrictlyIncreasing}
use Rattle.std.proofs.lemmas.List.{map-append}
use Rattle.std.proofs.lemmas.List.Elements.{All-map, All-push, All-weaker}
use Rattle.std.proofs.lemmas.List.Kept.{AllPairs-from_increasing}
use Rattle.std.proofs.lemmas.List.Quantifiers.{all_pairs_push}
use Rattle.osgi_base.specs.computed.Texts.{text_cmp}
use Rattle.osgi_bundle.specs.computed.Kept.{AddsFirst, bundle_under, IsKept, location_of, name_cmp, bundle_name, named}
use Rattle.osgi_bundle.specs.Rows.{AreApart, AreInOrder, bundle_number, IsBegun, TableRows}
use Rattle.osgi_bundle.specs.declared.directory.Directory.{Directory}
use Rattle.osgi_bundle.specs.declared.kept.BundleKept.{BundleKept}
use Rattle.osgi_bundle.proofs.Finding.{none_named}
use Rattle.osgi_bundle.proofs.Indices.{index_push}

first_stays : (P : BundleKept → Type 0) (rows more : List BundleKept) → IsSomeAnd (slice_get rows 0) P → IsSomeAnd (slice_get (rows ++ more) 0) P
first_stays P [] more first = absurd first
first_stays P (row ∷ rest) more first = first

rising_push : (issued : ℕ) (rows : List BundleKept) (row : BundleKept) → IsStrictlyIncreasing (map bundle_number rows) → All (λ r. bundle_number r ≤ issued) rows → bundle_number row ≡ issued + 1 → IsStrictlyIncreasing (map bundle_number (rows ++ row ∷ []))
rising_push issued rows row rising given next =
    let below : All (λ n. n ≤ issued) (map bundle_number rows) = All-map (λ n. n ≤ issued) bundle_number rows given in
    let pairs =
    all_pairs_push (λ x y. x < y) (map bundle_number rows) (bundle_number row) (AllPairs-from_increasing (map bundle_number rows) rising) (λ k d within. omega (arith, below k d within, next)) in
    subst IsStrictlyIncreasing (sym (map-append bundle_number rows (row ∷ []))) (λ k within. pairs k (k + 1) 0 (omega arith) within)

pub order_push : (old : TableRows) (row : BundleKept) → AreInOrder old → bundle_number row ≡ old.issued + 1 → AreInOrder (record { rows = old.rows ++ row ∷ []; issued = old.issued + 1 })
order_push old row order next = record {
  first = first_stays _ old.rows (row ∷ []) order.first;
  rising = rising_push old.issued old.rows row order.rising order.issued next;
  issued =
      All-push (λ r. bundle_number r ≤ old.issued + 1) old.rows row (All-weaker (λ r. bundle_number r ≤ old.issued) (λ r. bundle_number r ≤ old.issued + 1) (λ r le. omega (arith, le)) old.rows order.issued)
      (omega (arith, next));
}

pub apart_push : (rows : List BundleKept) (row : BundleKept) → AreApart rows → bundle_under name_cmp bundle_name (bundle_name row) rows ≡ None → AreApart (rows ++ row ∷ [])
apart_push rows row apart none =
    all_pairs_push (λ a b. a.name ≡ b.name → ¬ (a.version ≡ b.version)) rows row apart
    (λ k d within name version. none_named (bundle_name row) rows none k d within (λ i. named (sym name i) (sym version i)))

-- what is true of the fields stays so when a row is added to the rows and to the directory
pub kept_push : (old : TableRows) (row : BundleKept) (before after : Directory) → IsKept old before → bundle_number row ≡ old.issued + 1 → bundle_under name_cmp bundle_name (bundle_name row) old.rows ≡ None →
    IsBegun row → AddsFirst text_cmp before.locations after.locations row.location row.bundle → AddsFirst name_cmp before.names after.names (bundle_name row) row.bundle →
    IsKept (record { rows = old.rows ++ row ∷ []; issued = old.issued + 1 }) after
kept_push old row before after kept next none begun locations names = record {
  in_order = order_push old row kept.in_order next;
  apart = apart_push old.rows row kept.apart none;
  begun = All-push IsBegun old.rows row kept.begun begun;
  index = record {
    locations = index_push text_cmp location_of before.locations after.locations old.rows row kept.index.locations locations;
    names = index_push name_cmp bundle_name before.names after.names old.rows row kept.index.names names;
  };
}
