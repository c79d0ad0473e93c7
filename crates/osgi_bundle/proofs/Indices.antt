-- Indices by a key: what they have after a bundle is put under a key, and that they stay those of the rows.
use Rattle.std.proofs.Common.{◌≡◌, List, [], ◌∷◌, ◌++◌, ap, sym, ◌∙◌, refl}
use Rattle.std.specs.Prelude.{Bool, true, false, cond, Option, None, Some, find, is_some}
use Rattle.std.specs.BTreeMap.{BTreeMap, get, is_at, Updates}
use Rattle.std.specs.Cmp.{IsTotalOrder}
use Rattle.std.specs.Map.{lookup}
use Rattle.std.specs.Option.{option_map, option_or}
use Rattle.std.specs.Ordering.{eq_by_cmp, is_eq}
use Rattle.std.specs.declared.cmp.Ordering.{Ordering}
use Rattle.std.specs.declared.cmp.Ordering.TheVariants.{Less, Equal, Greater}
use Rattle.std.proofs.lemmas.Cmp.{eq_by_cmp_equiv}
use Rattle.std.proofs.lemmas.List.Folds.{find-append}
use Rattle.osgi_base.specs.declared.ids.BundleId.{BundleId}
use Rattle.osgi_bundle.specs.computed.Kept.{AddsFirst, HoldsSame, IsIndexOf}
use Rattle.osgi_bundle.specs.declared.kept.BundleKept.{BundleKept}

tied : (r : Ordering) → is_eq r ≡ true → r ≡ Equal
tied Less same = absurd (cc same)
tied Equal same = refl
tied Greater same = absurd (cc same)

or_none : {X : Type 0} (o : Option X) → option_or o None ≡ o
or_none None = refl
or_none (Some x) = refl

or_other : {X : Type 0} (o other : Option X) → is_some o ≡ true → option_or o other ≡ o
or_other None other some = absurd (cc some)
or_other (Some x) other some = refl

pub nothing : {X : Type 0} (o : Option X) → is_some o ≡ false → o ≡ None
nothing None none = refl
nothing (Some x) none = absurd (cc none)

module _ {K : Type 0} {cmp : K → K → Ordering} (o : IsTotalOrder cmp) where
  -- keys that tie find the same
  get_tied : {X : Type 0} (index : BTreeMap K X) (j k : K) → eq_by_cmp cmp j k ≡ true → get cmp index j ≡ get cmp index k
  get_tied index j k same = ap (λ test. lookup test index.entries) (λ i z. is_eq (o.congr j k z (tied (cmp j k) same) i))

  turned : (key k : K) → is_at (cmp key) k ≡ eq_by_cmp cmp k key
  turned key k = (eq_by_cmp_equiv o).symm key k

  adds_by : (old new : BTreeMap K BundleId) (key k : K) (bundle : BundleId) (here : Bool) → eq_by_cmp cmp k key ≡ here → get cmp old key ≡ None → get cmp new k ≡ cond here (Some bundle) (get cmp old k) →
      get cmp new k ≡ option_or (get cmp old k) (cond here (Some bundle) None)
  adds_by old new key k bundle true same none is = is ∙ ap (λ a. option_or a (Some bundle)) (sym (get_tied old k key same ∙ none))
  adds_by old new key k bundle false same none is = is ∙ sym (or_none (get cmp old k))

  -- a bundle put where none stands
  pub adds_new : (old new : BTreeMap K BundleId) (key : K) (bundle : BundleId) → get cmp old key ≡ None → Updates cmp old new key (Some bundle) → AddsFirst cmp old new key bundle
  adds_new old new key bundle none updates = λ k.
      adds_by old new key k bundle (eq_by_cmp cmp k key) refl none (updates.0 k ∙ ap (λ b. cond b (Some bundle) (get cmp old k)) (turned key k))

  keeps_by : (old : BTreeMap K BundleId) (key k : K) (bundle : BundleId) (here : Bool) → eq_by_cmp cmp k key ≡ here → is_some (get cmp old key) ≡ true → get cmp old k ≡ option_or (get cmp old k) (cond here (Some bundle) None)
  keeps_by old key k bundle true same some = sym (or_other (get cmp old k) (Some bundle) (ap is_some (get_tied old k key same) ∙ some))
  keeps_by old key k bundle false same some = sym (or_none (get cmp old k))

  -- none put where one stands
  pub adds_none : (old : BTreeMap K BundleId) (key : K) (bundle : BundleId) → is_some (get cmp old key) ≡ true → AddsFirst cmp old old key bundle
  adds_none old key bundle some = λ k. keeps_by old key k bundle (eq_by_cmp cmp k key) refl some

  undone_by : (old mid new : BTreeMap K BundleId) (key k : K) (bundle : Option BundleId) (here : Bool) → eq_by_cmp cmp k key ≡ here → get cmp old key ≡ None → get cmp mid k ≡ cond here bundle (get cmp old k) →
      get cmp new k ≡ cond here None (get cmp mid k) → get cmp new k ≡ get cmp old k
  undone_by old mid new key k bundle true same none first second = second ∙ sym (get_tied old k key same ∙ none)
  undone_by old mid new key k bundle false same none first second = second ∙ first

  -- one put where none stood, and taken out
  pub undone : (old mid new : BTreeMap K BundleId) (key : K) (bundle : Option BundleId) → get cmp old key ≡ None → Updates cmp old mid key bundle → Updates cmp mid new key None → HoldsSame cmp old new
  undone old mid new key bundle none first second = λ k.
      undone_by old mid new key k bundle (eq_by_cmp cmp k key) refl none (first.0 k ∙ ap (λ b. cond b bundle (get cmp old k)) (turned key k))
      (second.0 k ∙ ap (λ b. cond b None (get cmp mid k)) (turned key k))

-- ---- of rows

pushed_by : (found : Option BundleKept) (row : BundleKept) (here : Bool) →
    option_or (option_map (λ (r : BundleKept). r.bundle) found) (cond here (Some row.bundle) None) ≡ option_map (λ (r : BundleKept). r.bundle) (option_or found (cond here (Some row) None))
pushed_by None row true = refl
pushed_by None row false = refl
pushed_by (Some r) row here = refl

-- an index stays that of the rows, when a row is added to both
pub index_push : {K : Type 0} (cmp : K → K → Ordering) (key_of : BundleKept → K) (old new : BTreeMap K BundleId) (rows : List BundleKept) (row : BundleKept) → IsIndexOf cmp key_of old rows →
    AddsFirst cmp old new (key_of row) row.bundle → IsIndexOf cmp key_of new (rows ++ row ∷ [])
index_push cmp key_of old new rows row index adds = λ k.
    let test : BundleKept → Bool = λ r. eq_by_cmp cmp k (key_of r) in
    adds k
    ∙ ap (λ a. option_or a (cond (test row) (Some row.bundle) None)) (index k)
    ∙ pushed_by (find test rows) row (test row)
    ∙ ap (option_map (λ (r : BundleKept). r.bundle)) (sym (find-append test rows (row ∷ [])))
