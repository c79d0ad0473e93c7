-- Maps in which each key has one value.
use Rattle.std.proofs.Common.{◌≡◌, ◌↔◌, ◌⊎◌, inl, inr, ℕ, ◌<◌, List, length, get_or, take, ap, sym, ◌∙◌, refl, IsTrue}
use Rattle.std.specs.Prelude.{Bool, true, false, cond, Option, None, Some}
use Rattle.std.specs.BTreeMap.{BTreeMap, get, is_at}
use Rattle.std.specs.Cmp.{IsTotalOrder}
use Rattle.std.specs.declared.cmp.Ordering.{Ordering}
use Rattle.std.proofs.lemmas.Bool.{false≢true}
use Rattle.std.proofs.lemmas.Cmp.{eq_by_cmp_equiv}
use Rattle.std.proofs.lemmas.Map.Lookups.{CmpEqualImpliesEq}
use Rattle.std.proofs.lemmas.Map.Views.{tells_apart}
use Rattle.osgi_space_rules.specs.computed.Growing.{Extends, Grows, HasEntry, IsFunction, PutsOne, AnyOf}
use Rattle.osgi_space_rules.proofs.Grow.{at_in, take_in}

pub not_true : (b : Bool) → b ≡ false → ¬ IsTrue b
not_true b f t = false≢true (sym f ∙ t)

-- ---- one entry

module _ {A B : Type 0} {cmp : A → A → Ordering} (total : IsTotalOrder cmp) (exact : CmpEqualImpliesEq cmp) (old now : BTreeMap A B) (key : A) (value : B) where
  abbrev Is : A × B → Type 0
  Is e = (e.0 ≡ key) × (e.1 ≡ value)

  here_or : (here : Bool) (was : Option B) (x : B) → cond here (Some value) was ≡ Some x → (here ≡ true) × (x ≡ value) ⊎ (was ≡ Some x)
  here_or true was x is = inl (refl, cc is)
  here_or false was x is = inr is

  new_there : (e : A × B) → get cmp now e.0 ≡ cond (is_at (cmp key) e.0) (Some value) (get cmp old e.0) → HasEntry cmp now e → HasEntry cmp old e ⊎ Is e
  new_there e is has = elim (here_or (is_at (cmp key) e.0) (get cmp old e.0) e.1 (sym is ∙ has)) [ inl h ↦ inr (sym (tells_apart exact key e.0 h.0), h.1) | inr o ↦ inl o ]

  stays : (here : Bool) (was : Option B) (x : B) → (here ≡ true → was ≡ None) → was ≡ Some x → cond here (Some value) was ≡ Some x
  stays true was x none is = absurd (cc (none refl, is))
  stays false was x none is = is

  old_there : (e : A × B) → get cmp old key ≡ None → get cmp now e.0 ≡ cond (is_at (cmp key) e.0) (Some value) (get cmp old e.0) → HasEntry cmp old e → HasEntry cmp now e
  old_there e none is has = is ∙ stays (is_at (cmp key) e.0) (get cmp old e.0) e.1 (λ h. ap (get cmp old) (sym (tells_apart exact key e.0 h)) ∙ none) has

  key_there : (e : A × B) → ((q : A) → get cmp now q ≡ cond (is_at (cmp key) q) (Some value) (get cmp old q)) → Is e → HasEntry cmp now e
  key_there e is same =
      ap (get cmp now) same.0
      ∙ is key
      ∙ ap (λ b. cond b (Some value) (get cmp old key)) ((eq_by_cmp_equiv total).refl key)
      ∙ ap Some (sym same.1)

  -- a value that is put under a key where no other stands
  pub put_extends : (ok : Bool) → PutsOne cmp ok old now key value → Extends ok (HasEntry cmp old) (HasEntry cmp now) Is
  put_extends ok puts = record {
    added = λ t e. elim (puts.put t) [
      | inl f ↦ (new_there e (f.1 e.0), λ either. elim either [ inl o ↦ old_there e f.0 (f.1 e.0) o | inr k ↦ key_there e f.1 k ])
      | inr f ↦ (λ n. inl (sym (f.1 e.0) ∙ n), λ either. elim either [ inl o ↦ f.1 e.0 ∙ o | inr k ↦ f.1 e.0 ∙ ap (get cmp old) k.0 ∙ f.0 ∙ ap Some (sym k.1) ])
    ];
    refused = λ no function. let other = puts.other no in other.2 (function key other.0 value (inl other.1) (inr (refl, refl)));
  }

-- ---- several

module _ {A B : Type 0} where
  pub extends_like : (ok : Bool) (old now P Q : A × B → Type 0) → ((e : A × B) → P e ↔ Q e) → Extends ok old now P → Extends ok old now Q
  extends_like ok old now P Q like extends = record {
    added = λ t e. (
      λ n. elim ((extends.added t e).0 n) [ inl o ↦ inl o | inr p ↦ inr ((like e).0 p) ],
      λ either. (extends.added t e).1 (elim either [ inl o ↦ inl o | inr q ↦ inr ((like e).1 q) ]),
    );
    refused = λ no function.
        let up : (e : A × B) → old e ⊎ P e → old e ⊎ Q e = λ e either. elim either [ inl o ↦ inl o | inr p ↦ inr ((like e).0 p) ] in
        extends.refused no (λ k x y one other. function k x y (up (k, x) one) (up (k, y) other));
  }

  pub extends_none : (old Q : A × B → Type 0) → ((e : A × B) → ¬ Q e) → Extends true old old Q
  extends_none old Q none = record {
    added = λ t e. (λ o. inl o, λ either. elim either [ inl o ↦ o | inr q ↦ absurd (none e q) ]);
    refused = λ no. absurd (no refl);
  }

  pub extends_fails : (old now Q : A × B → Type 0) → ¬ IsFunction (λ e. old e ⊎ Q e) → Extends false old now Q
  extends_fails old now Q fails = record { added = λ t. absurd (false≢true t); refused = λ no. fails }

  pub extends_all : (old now Q : A × B → Type 0) → ((e : A × B) → now e ↔ (old e ⊎ Q e)) → Extends true old now Q
  extends_all old now Q added = record { added = λ t. added; refused = λ no. absurd (no refl) }

  -- the first of several items that is refused
  pub refused_at : {X : Type 0} (P : X → A × B → Type 0) (old before : A × B → Type 0) (xs : List X) (i : ℕ) (x : X) → i < length xs → x ≡ get_or xs i x → Grows old before P (take i xs) →
      ¬ IsFunction (λ e. before e ⊎ P x e) → ¬ IsFunction (λ e. old e ⊎ AnyOf (λ z. P z e) xs)
  refused_at P old before xs i x within at grown fails function =
      let up : (e : A × B) → before e ⊎ P x e → old e ⊎ AnyOf (λ z. P z e) xs = λ e either. elim either [
        | inl b ↦ elim ((grown e).0 b) [ inl o ↦ inl o | inr some ↦ inr (some.0, take_in xs i some.0 some.1, some.2) ]
        | inr p ↦ inr (x, at_in xs i x within at, p)
      ] in
      fails (λ k a b one other. function k a b (up (k, a) one) (up (k, b) other))

  pub refused_extends : {X : Type 0} (P : X → A × B → Type 0) (old before now : A × B → Type 0) (xs : List X) (i : ℕ) (x : X) → i < length xs → x ≡ get_or xs i x → Grows old before P (take i xs) →
      ¬ IsFunction (λ e. before e ⊎ P x e) → Extends false old now (λ e. AnyOf (λ z. P z e) xs)
  refused_extends P old before now xs i x within at grown fails = extends_fails old now (λ e. AnyOf (λ z. P z e) xs) (refused_at P old before xs i x within at grown fails)

-- ---- one after another

module _ {A B : Type 0} (old mid now P Q : A × B → Type 0) where
  pub extends_first_fails : (ok : Bool) → ok ≡ false → Extends ok old mid P → Extends false old now (λ e. P e ⊎ Q e)
  extends_first_fails ok refused extends = extends_fails old now (λ e. P e ⊎ Q e) (λ function.
      let up : (e : A × B) → old e ⊎ P e → old e ⊎ (P e ⊎ Q e) = λ e either. elim either [ inl o ↦ inl o | inr p ↦ inr (inl p) ] in
      extends.refused (not_true ok refused) (λ k x y one other. function k x y (up (k, x) one) (up (k, y) other)))

  pub extends_two : (ok : Bool) → ((e : A × B) → mid e ↔ (old e ⊎ P e)) → Extends ok mid now Q → Extends ok old now (λ e. P e ⊎ Q e)
  extends_two ok first second = record {
    added = λ t e. (
      λ n. elim ((second.added t e).0 n) [
        | inl m ↦ elim ((first e).0 m) [ inl o ↦ inl o | inr p ↦ inr (inl p) ]
        | inr q ↦ inr (inr q)
      ],
      λ either. (second.added t e).1 (elim either [
        | inl o ↦ inl ((first e).1 (inl o))
        | inr more ↦ elim more [ inl p ↦ inl ((first e).1 (inr p)) | inr q ↦ inr q ]
      ]),
    );
    refused = λ no function.
        let up : (e : A × B) → mid e ⊎ Q e → old e ⊎ (P e ⊎ Q e) = λ e either. elim either [
          | inl m ↦ elim ((first e).0 m) [ inl o ↦ inl o | inr p ↦ inr (inl p) ]
          | inr q ↦ inr (inr q)
        ] in
        second.refused no (λ k x y one other. function k x y (up (k, x) one) (up (k, y) other));
  }
