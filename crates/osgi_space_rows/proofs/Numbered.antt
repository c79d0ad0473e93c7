-- The indices of names, when a name is added.
use Rattle.std.proofs.Common.{◌≡◌, ◌==◌, inl, inr, ℕ, List, [], ◌∷◌, ◌++◌, length, refl, sym, ◌∙◌, ap, subst, arith}
use Rattle.std.specs.Prelude.{Bool, true, false, Option, None, Some, is_some}
use Rattle.std.specs.BTreeMap.{BTreeMap, get, is_at, Updates}
use Rattle.std.specs.Cmp.Lexicographic.{slice_cmp}
use Rattle.std.specs.Ordering.{nat_cmp}
use Rattle.std.proofs.lemmas.Bool.{eqb-true}
use Rattle.std.proofs.lemmas.Bool.Decides.{nat_tests}
use Rattle.std.proofs.lemmas.Cmp.{is_eq_index}
use Rattle.std.proofs.lemmas.Map.Text.{is_eq-slice_cmp}
use Rattle.std.proofs.lemmas.Slice.Eq.{bytes_eq-Decides}
use Rattle.osgi_space_rows.specs.Names.{AreOnce, HasNumber}
use Rattle.osgi_space_rows.specs.computed.Digests.{digest_of}
use Rattle.osgi_space_rows.specs.computed.Numbers.{AreNumbersOf}
use Rattle.osgi_space_rows.proofs.Places.{get-append, get-push, get-push_cases, some-same}

tied : (a b : List ℕ) → is_at (slice_cmp nat_cmp a) b ≡ true → a ≡ b
tied a b same = (bytes_eq-Decides a b).0 (sym (is_eq-slice_cmp a b) ∙ same)

is_at_number : (a b : ℕ) → is_at (nat_cmp a) b ≡ (a == b)
is_at_number a b = rw is_eq_index (grind (arith, nat_tests))

at_same : (a b : ℕ) → is_at (nat_cmp a) b ≡ true → a ≡ b
at_same a b same = eqb-true a b (sym (is_at_number a b) ∙ same)

pub nothing : {X : Type 0} (o : Option X) → is_some o ≡ false → o ≡ None
nothing None none = refl
nothing (Some x) none = absurd (cc none)

pub is_known : {X : Type 0} (x : X) → None ≡ Some x → ⊥
is_known x e = cc

module _ (names : List (List ℕ)) (name : List ℕ) (new : (number : ℕ) → ¬ HasNumber names name number) where
  -- a name that is new has the last number alone
  once_push : AreOnce names → AreOnce (names ++ name ∷ [])
  once_push once text i j at other =
      elim (get-push_cases names name i text at) [
        | inl old ↦ elim (get-push_cases names name j text other) [
          | inl too ↦ once text i j old too
          | inr last ↦ absurd (new i (subst (λ t. HasNumber names t i) (sym last.1) old))
        ]
        | inr last ↦ elim (get-push_cases names name j text other) [
          | inl old ↦ absurd (new j (subst (λ t. HasNumber names t j) (sym last.1) old))
          | inr too ↦ last.0 ∙ sym too.0
        ]
      ]

  module _ (by_digest : BTreeMap ℕ ℕ) (by_text : BTreeMap (List ℕ) ℕ) (are : AreNumbersOf by_digest by_text names) where
    -- the first name of its digest
    module _ (after : BTreeMap ℕ ℕ) (updates : Updates nat_cmp by_digest after (digest_of name) (Some (length names))) (first : get nat_cmp by_digest (digest_of name) ≡ None) where
      kept : (digest number : ℕ) (test : Bool) → is_at (nat_cmp (digest_of name)) digest ≡ test → get nat_cmp by_digest digest ≡ Some number → get nat_cmp after digest ≡ Some number
      kept digest number true same was = absurd (is_known number (sym first ∙ (ap (get nat_cmp by_digest) (at_same (digest_of name) digest same) ∙ was)))
      kept digest number false other was = updates.2 digest other ∙ was

      pub first_push : AreNumbersOf after by_text (names ++ name ∷ [])
      first_push = record {
        found = λ text number has. elim (get-push_cases names name number text has) [
          | inl old ↦ elim (are.found text number old) [
            | inl under ↦ inl (kept (digest_of text) number (is_at (nat_cmp (digest_of name)) (digest_of text)) refl under)
            | inr under ↦ inr under
          ]
          | inr last ↦ inl (subst (λ t. get nat_cmp after (digest_of t) ≡ Some number) last.1 (updates.1 ∙ ap Some (sym last.0)))
        ];
        named = λ text number under. get-append names (name ∷ []) number text (are.named text number under);
        once = once_push are.once;
      }

    -- a name whose digest another has
    module _ (after : BTreeMap (List ℕ) ℕ) (updates : Updates (slice_cmp nat_cmp) by_text after name (Some (length names))) where
      stays : (text : List ℕ) (number : ℕ) (test : Bool) → is_at (slice_cmp nat_cmp name) text ≡ test → HasNumber names text number → get (slice_cmp nat_cmp) by_text text ≡ Some number → get (slice_cmp nat_cmp) after text ≡ Some number
      stays text number true same has was = absurd (new number (subst (λ t. HasNumber names t number) (sym (tied name text same)) has))
      stays text number false other has was = updates.2 text other ∙ was

      names_it : (text : List ℕ) (number : ℕ) (test : Bool) → is_at (slice_cmp nat_cmp name) text ≡ test → get (slice_cmp nat_cmp) after text ≡ Some number → HasNumber (names ++ name ∷ []) text number
      names_it text number true same under =
          let is = tied name text same in
          let at : get (slice_cmp nat_cmp) after text ≡ Some (length names) = subst (λ t. get (slice_cmp nat_cmp) after t ≡ Some (length names)) is updates.1 in
          let last : length names ≡ number = some-same (length names) number (sym at ∙ under) in
          subst (λ n. HasNumber (names ++ name ∷ []) text n) last (subst (λ t. HasNumber (names ++ name ∷ []) t (length names)) is (get-push names name))
      names_it text number false other under = get-append names (name ∷ []) number text (are.named text number (sym (updates.2 text other) ∙ under))

      pub other_push : AreNumbersOf by_digest after (names ++ name ∷ [])
      other_push = record {
        found = λ text number has. elim (get-push_cases names name number text has) [
          | inl old ↦ elim (are.found text number old) [
            | inl under ↦ inl under
            | inr under ↦ inr (stays text number (is_at (slice_cmp nat_cmp name) text) refl old under)
          ]
          | inr last ↦ inr (subst (λ t. get (slice_cmp nat_cmp) after t ≡ Some number) last.1 (updates.1 ∙ ap Some (sym last.0)))
        ];
        named = λ text number under. names_it text number (is_at (slice_cmp nat_cmp name) text) refl under;
        once = once_push are.once;
      }
