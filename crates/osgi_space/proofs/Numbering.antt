-- Packages that have sources have numbers.
use Rattle.std.proofs.Common.{◌≡◌, inl, inr, ℕ, zero, suc, ◌+◌, ◌<◌, List, [], ◌∷◌, length, refl, sym, ◌∙◌, ap, subst, arith}
use Rattle.std.specs.Prelude.{Some, Option, replicate, slice_get, sum_by, unwrap_or}
use Rattle.std.proofs.lemmas.List.Elements.{All-contains}
use Rattle.osgi_base.specs.declared.ids.RevisionId.{RevisionId}
use Rattle.osgi_world.specs.Sources as relation
use Rattle.osgi_world.specs.Wirings as theory
use Rattle.osgi_world.specs.declared.wiring.Wiring.{Wiring}
use Rattle.osgi_space_rows.specs.Names.{HasNumber, name_numbered}
use Rattle.osgi_space_rows.specs.Worlds.{AreNumbered, AreRowsIn, WorldLists}
use Rattle.osgi_space_rows.specs.declared.rows.Export.{Export}
use Rattle.osgi_space_rows.specs.declared.rows.Import.{Import}

get_some : {X : Type 0} (xs : List X) (i : ℕ) → i < length xs → (x : X) × (slice_get xs i ≡ Some x)
get_some [] i h = absurd (omega arith)
get_some (x ∷ xs) zero h = (x, refl)
get_some (x ∷ xs) (suc i) h = get_some xs i (omega arith)

pub named : (names : List (List ℕ)) (text : List ℕ) (i : ℕ) → HasNumber names text i → name_numbered names i ≡ text
named names text i has = ap (λ (o : Option (List ℕ)). unwrap_or o (replicate (sum_by length names + 1 + i) 0)) has

pub has_number : (names : List (List ℕ)) (i : ℕ) → i < length names → HasNumber names (name_numbered names i) i
has_number names i h =
    let some = get_some names i h in
    some.1 ∙ ap (λ (t : List ℕ). Some t) (sym (named names some.0 i some.1))

module _ (world : WorldLists) (W : List Wiring) (is : AreRowsIn world W) (numbered : AreNumbered world.names world.rows) where
  numbered-as : (p : List ℕ) (i : ℕ) → name_numbered world.names i ≡ p → i < length world.names → HasNumber world.names p i
  numbered-as p i e h = subst (λ t. HasNumber world.names t i) e (has_number world.names i h)

  wire-number : (r x : RevisionId) (p : List ℕ) → theory.PackageWire world.known W r p x → (i : ℕ) × HasNumber world.names p i
  wire-number r x p w =
      let f = is.imports_from r.0 x.0 p w in
      (f.0, numbered-as p f.0 f.1 (All-contains (λ (row : Import). row.imported < length world.names) world.rows.imports _ numbered.imports f.2))

  export-number : (r : RevisionId) (p : List ℕ) → theory.HasExport world.known W r p → (i : ℕ) × HasNumber world.names p i
  export-number r p h =
      let f = is.exports_from h.owner.0 h.index p (h.has.1, h.export) in
      (f.0, numbered-as p f.0 f.1 (All-contains (λ (row : Export). row.exported < length world.names) world.rows.exports _ numbered.exports f.2))

  given-number : {p : List ℕ} {b x : RevisionId} → relation.GivesPackage world.known W p b x → (i : ℕ) × HasNumber world.names p i
  given-number {p} (relation.substituted {b = b} {x = x} at other has) = wire-number b x p at
  given-number {p} (relation.itself {b = b} e) = export-number b p e.exported
  given-number {p} (relation.reexported at g) = given-number g

  pub source-number : {r x : RevisionId} {p : List ℕ} → relation.Sources world.known W r p x → (i : ℕ) × HasNumber world.names p i
  source-number {r} {x} {p} (inl at) = wire-number r x p at
  source-number {r} {x} {p} (inr (none, inl (b, at, g))) = given-number g
  source-number {r} {x} {p} (inr (none, inr (e, exports))) = export-number r p exports.exported
