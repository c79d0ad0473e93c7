-- One pair more, of which the first that clashes is looked for.
use Rattle.std.proofs.Common.{◌≡◌, inl, inr, ℕ, ◌+◌, ◌<◌, List, length, get_or, take, refl, subst}
use Rattle.std.specs.Prelude.{MatchOption, Option, None, Some}
use Rattle.osgi_space_rows.specs.Rows.{RowLists}
use Rattle.osgi_space_sources.specs.computed.Clashes.{IsClash}
use Rattle.osgi_space_sources.specs.declared.given.Given.{Given}
use Rattle.osgi_space_sources.specs.laws.Adding.{any-of, contains-more, none-more}
use Rattle.osgi_space.specs.computed.Firsts.{IsBefore, IsFirstClash}
use Rattle.osgi_space.proofs.Before.{before-trans, not-before-itself}

module _ (R : RowLists) (names : List (List ℕ)) (r : ℕ) (pairs : List Given) (i : ℕ) (pair : Given) (h : i < length pairs) (at : pair ≡ get_or pairs i pair) where
  -- it does not clash
  pub first-quiet : (first : Option Given) → ¬ IsClash R r pair → IsFirstClash R names r (take i pairs) first → IsFirstClash R names r (take (i + 1) pairs) first
  first-quiet None quiet before = none-more (IsClash R r) pairs i pair h at before quiet
  first-quiet (Some f) quiet before = (
    (contains-more pairs i pair h at f).1 (inl before.0),
    before.1,
    λ g there clash. elim ((contains-more pairs i pair h at g).0 there) [
      | inl old ↦ before.2 g old clash
      | inr e ↦ absurd (quiet (subst (IsClash R r) e clash))
    ],
  )

  -- it clashes, and comes before the one that was first
  pub first-taken : (first : Option Given) → IsClash R r pair → MatchOption first (Unit {0}) (λ f. IsBefore names pair f) → IsFirstClash R names r (take i pairs) first → IsFirstClash R names r (take (i + 1) pairs) (Some pair)
  first-taken None clash earlier before = (
    (contains-more pairs i pair h at pair).1 (inr refl),
    clash,
    λ g there other. elim ((contains-more pairs i pair h at g).0 there) [
      | inl old ↦ absurd (before (any-of (IsClash R r) (take i pairs) g old other))
      | inr e ↦ λ b. not-before-itself names pair (subst (λ x. IsBefore names x pair) e b)
    ],
  )
  first-taken (Some f) clash earlier before = (
    (contains-more pairs i pair h at pair).1 (inr refl),
    clash,
    λ g there other. elim ((contains-more pairs i pair h at g).0 there) [
      | inl old ↦ λ b. before.2 g old other (before-trans names g pair f b earlier)
      | inr e ↦ λ b. not-before-itself names pair (subst (λ x. IsBefore names x pair) e b)
    ],
  )

  -- it clashes, and comes no earlier
  pub first-kept : (first : Option Given) → ¬ MatchOption first (Unit {0}) (λ f. IsBefore names pair f) → IsFirstClash R names r (take i pairs) first → IsFirstClash R names r (take (i + 1) pairs) first
  first-kept None later before = absurd (later tt)
  first-kept (Some f) later before = (
    (contains-more pairs i pair h at f).1 (inl before.0),
    before.1,
    λ g there clash. elim ((contains-more pairs i pair h at g).0 there) [
      | inl old ↦ before.2 g old clash
      | inr e ↦ λ b. later (subst (λ x. IsBefore names x f) e b)
    ],
  )
