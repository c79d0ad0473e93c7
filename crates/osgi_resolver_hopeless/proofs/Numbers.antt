-- Revisions by their numbers, and the numbers of packages.
use Rattle.std.proofs.Common.{◌≡◌, ◌↔◌, ℕ, List, Option, None, Some, refl, sym, ap, subst, Any}
use Rattle.std.specs.Prelude.{MatchOption}
use Rattle.osgi_base.specs.declared.ids.RevisionId.{RevisionId}
use Rattle.osgi_resolver_theory.proofs.Values.{some-inj}
use Rattle.osgi_space_sources.specs.laws.Adding.{any-in, any-of}
use Rattle.osgi_space.proofs.Ids.{contains-in, in-contains}
use Rattle.osgi_space_rows.specs.Agree.{id}
use Rattle.osgi_space_rows.specs.Names.{AreOnce, HasNumber}
use Rattle.osgi_world.specs.Lists.{In}

-- what each revision adds
abbrev pub IsNumber : RevisionId → ℕ → Type 0
IsNumber r n = n ≡ r.0

pub some-number : (xs : List RevisionId) (n : ℕ) → Any (λ (r : RevisionId). IsNumber r n) xs ↔ In (id n) xs
some-number xs n = (
  λ any. subst (λ (r : RevisionId). In r xs) (ap id (sym any.4)) (contains-in xs any.1 (any-in (λ (r : RevisionId). IsNumber r n) xs any)),
  λ i. any-of (λ (r : RevisionId). IsNumber r n) xs (id n) (in-contains xs (id n) i) refl,
)

-- a number that is found by a name is the name's
pub number-found : (names : List (List ℕ)) (text : List ℕ) → AreOnce names → (o : Option ℕ) → MatchOption o ((n : ℕ) → ¬ HasNumber names text n) (λ n. HasNumber names text n) → (n : ℕ) → (o ≡ Some n) ↔ HasNumber names text n
number-found names text once None none n = (λ e. cc, λ has. absurd (none n has))
number-found names text once (Some m) has n = (λ e. subst (HasNumber names text) (some-inj m n e) has, λ h. ap (λ (k : ℕ). Some k) (once text m n has h))
