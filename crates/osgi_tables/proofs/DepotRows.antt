-- The row of the depot that a live bundle shows is that of its source.
use Rattle.std.proofs.Common.{◌≡◌, ◌⊎◌, inl, inr, ◌+◌, ◌<◌, ℕ, List, [], ◌∷◌, ◌++◌, length, ap, sym, subst, ◌∙◌, refl, arith}
use Rattle.std.specs.Prelude.{◌==◌, ◌||◌, Bool, true, false, is_some, Option, None, Some, Contains, find}
use Rattle.std.specs.List.{filter_map}
use Rattle.std.specs.Option.{option_map, option_map_or}
use Rattle.std.proofs.lemmas.Bool.{eq-eqb, eqb-true}
use Rattle.osgi_base.specs.declared.ids.BundleId.{BundleId}
use Rattle.osgi_bundle.specs.Rows.{row_at, TableRows}
use Rattle.osgi_bundle.specs.Stands.{StandsFor}
use Rattle.osgi_bundle.specs.declared.kept.BundleKept.{BundleKept}
use Rattle.osgi_bundle.specs.laws.OneBundle.{found_row, gone, row_number_of, says_row, SaysRow}
use Rattle.osgi_stage.proofs.Facts.{row-at}
use Rattle.osgi_legal.specs.Legal.{IsTold}
use Rattle.osgi_ops.specs.Moments.{Moment}
use Rattle.osgi_ops.specs.Bundles.{Bundle, bundles, Installed, installed, installed_after, installed_by, is_there, live, live_at, row_from, row_of, source, the_system_bundle}
use Rattle.osgi_ops.specs.Depots.{row_number, stored_revision}
use Rattle.osgi_ops.specs.declared.depot.DepotRow.{DepotRow}
use Rattle.osgi_ops.specs.declared.entry.Entry.{Entry}
use Rattle.osgi_ops.specs.declared.op.Op.{Op}
use Rattle.osgi_ops.specs.declared.op.Op.TheVariants as op
use Rattle.osgi_ops.specs.declared.reply.Reply.{Reply}
use Rattle.osgi_ops.specs.declared.reply.Reply.TheVariants as answer
use Rattle.osgi_ops.specs.laws.Bundles.{has_id}
use Rattle.osgi_ops.specs.laws.Items.{contains-In, find-some, found-in, In-filter}
use Rattle.osgi_ops.specs.laws.Members.{Contains-cases, Contains-filter_map}
use Rattle.osgi_world.specs.Lists.{In}
use Rattle.osgi_world.specs.declared.revision.Revision.{Revision}

-- ---- no id is given twice

-- the ids are above the number, and no two are the same
abbrev AreOnce : ℕ → List Installed → Type 0
AreOnce n list = ((i : Installed) → In i list → n < i.bundle.0) × ((i j : Installed) → In i list → In j list → i.bundle.0 ≡ j.bundle.0 → i ≡ j)

one_or_none : (n : ℕ) (o : Op) (reply : Reply) (since : List Entry) → (installed_by n o reply since ≡ []) ⊎ ((i : Installed) × (i.bundle.0 ≡ n + 1) × (installed_by n o reply since ≡ i ∷ []))
one_or_none n (op.Install location) (answer.Bundle bundle false) since = inr (record { bundle = record { 0 = n + 1 }; location = location; since = since }, refl, refl)
one_or_none n o reply since = inl refl

first_once : (n : ℕ) (k : Installed) (rest : List Installed) → k.bundle.0 ≡ n + 1 → AreOnce (n + 1) rest → AreOnce n (k ∷ rest)
first_once n k rest number once = (above, same)
  where
    above : (i : Installed) → In i (k ∷ rest) → n < i.bundle.0
    above i (inl e) = let is : i.bundle.0 ≡ k.bundle.0 = ap (λ (x : Installed). x.bundle.0) e in omega (arith, is, number)
    above i (inr x) = omega (arith, once.0 i x)

    same : (i j : Installed) → In i (k ∷ rest) → In j (k ∷ rest) → i.bundle.0 ≡ j.bundle.0 → i ≡ j
    same i j (inl e) (inl f) q = e ∙ sym f
    same i j (inl e) (inr y) q = let is : i.bundle.0 ≡ k.bundle.0 = ap (λ (x : Installed). x.bundle.0) e in absurd (omega (arith, is, number, once.0 j y, q))
    same i j (inr x) (inl f) q = let is : j.bundle.0 ≡ k.bundle.0 = ap (λ (x : Installed). x.bundle.0) f in absurd (omega (arith, is, number, once.0 i x, q))
    same i j (inr x) (inr y) q = once.1 i j x y q

all_once : (n : ℕ) (history : List Entry) → AreOnce n (installed_after n history)
all_once n [] = (λ i x. absurd x, λ i j x y q. absurd x)
all_once n (e ∷ since) = by (installed_by n e.op e.reply since) (one_or_none n e.op e.reply since) (λ m. all_once m since)
  where
    by : (here : List Installed) → (here ≡ []) ⊎ ((i : Installed) × (i.bundle.0 ≡ n + 1) × (here ≡ i ∷ [])) → ((m : ℕ) → AreOnce m (installed_after m since)) → AreOnce n (here ++ installed_after (n + length here) since)
    by here (inl none) more =
        subst (λ h. AreOnce n (h ++ installed_after (n + length h) since)) (sym none) (let r = more (n + 0) in (λ i x. omega (arith, r.0 i x), r.1))
    by here (inr (k, number, one)) more = subst (λ h. AreOnce n (h ++ installed_after (n + length h) since)) (sym one) (first_once n k (installed_after (n + 1) since) number (more (n + 1)))

-- ---- the row

row_by : (i : Installed) (number : ℕ) (o : Option Revision) (c : Bundle) → option_map (λ (revision : Revision). record { bundle = i.bundle; location = i.location; row = number; revision = revision }) o ≡ Some c →
    (c.row ≡ number) × (c.bundle ≡ i.bundle)
row_by i number None c is = absurd (cc is)
row_by i number (Some v) c is =
    let same : record { bundle = i.bundle; location = i.location; row = number; revision = v } ≡ c = cc is in
    (sym (ap (λ (x : Bundle). x.row) same), sym (ap (λ (x : Bundle). x.bundle) same))

read_by : (depot : List DepotRow) (i : Installed) (o : Option Installed) → o ≡ Some i → option_map_or (λ (j : Installed). row_number depot (source j)) o 0 ≡ row_number depot (source i)
read_by depot i o is = ap (λ x. option_map_or (λ (j : Installed). row_number depot (source j)) x 0) is

pub depot_row : (depot : List DepotRow) (history : List Entry) (c : Bundle) → Contains (bundles depot history) c → c.row ≡ row_of depot history c.bundle
depot_row depot history c there = by (Contains-cases the_system_bundle (filter_map (row_from depot) (live history)) c there)
  where
    once : AreOnce 0 (installed history)
    once = all_once 0 history

    by : (the_system_bundle ≡ c) ⊎ Contains (filter_map (row_from depot) (live history)) c → c.row ≡ row_of depot history c.bundle
    by (inl same) = subst (λ (d : Bundle). d.row ≡ row_of depot history d.bundle) same (none (live_at the_system_bundle.bundle history) refl)
      where
        none : (o : Option Installed) → find (has_id the_system_bundle.bundle) (live history) ≡ o → 0 ≡ option_map_or (λ (j : Installed). row_number depot (source j)) o 0
        none None e = refl
        none (Some j) e =
            let found = found-in (has_id the_system_bundle.bundle) (live history) j e in
            let zero : j.bundle.0 ≡ 0 = eqb-true j.bundle.0 0 found.1 in
            absurd (omega (arith, zero, once.0 j (In-filter is_there (installed history) j found.0).0))
    by (inr made) =
        let from = Contains-filter_map (row_from depot) (live history) c made in
        let i = from.0 in
        let row = row_by i (row_number depot (source i)) (stored_revision depot (source i)) c from.2 in
        let in_live = contains-In (live history) i from.1 in
        let found = find-some (has_id c.bundle) (live history) i in_live (eq-eqb i.bundle.0 c.bundle.0 (ap (λ (x : BundleId). x.0) (sym row.1))) in
        let j = found-in (has_id c.bundle) (live history) found.0 found.1 in
        let number : found.0.bundle.0 ≡ i.bundle.0 = eqb-true found.0.bundle.0 c.bundle.0 j.1 ∙ ap (λ (x : BundleId). x.0) row.1 in
        let same : found.0 ≡ i = once.1 found.0 i (In-filter is_there (installed history) found.0 j.0).0 (In-filter is_there (installed history) i in_live).0 number in
        row.0 ∙ sym (read_by depot i (live_at c.bundle history) (found.1 ∙ ap Some same))

-- ---- the row that the table shows

read_none : (b : BundleId) (depot : List DepotRow) (o : Option Installed) → (b.0 == 0) || is_some o ≡ false → 0 ≡ option_map_or (λ (j : Installed). row_number depot (source j)) o 0
read_none b depot None dead = refl
read_none b depot (Some i) dead = let bad : true ≡ false = sym (or_true (b.0 == 0)) ∙ dead in cc bad
  where
    or_true : (t : Bool) → t || true ≡ true
    or_true true = refl
    or_true false = refl

-- of a live bundle it is that of its row; of any other it is 0
pub shown_row : (now : Moment) → IsTold now → (table : TableRows) (b : BundleId) → StandsFor now.setting.depot now.before now.world table →
    option_map_or (λ (row : BundleKept). row.row) (row_at b table.rows) 0 ≡ row_of now.setting.depot now.before b
shown_row now told table b stands = by (row_at b table.rows) refl (says_row now.setting.depot now.before now.world table b stands (row-at now told))
  where
    by : (o : Option BundleKept) → row_at b table.rows ≡ o → SaysRow now.setting.depot now.before now.world b o → option_map_or (λ (row : BundleKept). row.row) o 0 ≡ row_of now.setting.depot now.before b
    by None e (gone dead) = read_none b now.setting.depot (live_at b now.before) dead
    by (Some row) e said =
        row_number_of now.setting.depot now.before now.world b row (found_row now.setting.depot now.before now.world table b row stands e) (λ c there. sym (depot_row now.setting.depot now.before c there))
