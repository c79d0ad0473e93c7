-- The first of some conditions that calls for a refusal.
use Rattle.std.proofs.Common.{◌≡◌, List, [], ◌∷◌, ap, ◌∙◌, refl, inl, inr}
use Rattle.osgi_base.specs.Verdict.{Gives, Verdict, answers, refuses}
use Rattle.osgi_package.specs.Only.{IsOnly}

pub same_refusal : {R A : Type 0} (r s : R) → ◌≡◌ {A = Verdict R A} (refuses r) (refuses s) → r ≡ s
same_refusal r s e = cc e

-- conditions do not call for a refusal and for none
pub not_both : {R A B : Type 0} (conditions : List (R → Type 0)) (some : A → Type 0) (other : B → Type 0) (r : R) (b : B) → Gives conditions some (refuses r) →
    Gives conditions other (answers b) → ⊥
not_both [] some other r b refused answered = absurd refused
not_both (condition ∷ rest) some other r b refused (inl (s, called, e)) = absurd (cc e)
not_both (condition ∷ rest) some other r b (inl (s, called, e)) (inr (uncalled, answered)) = uncalled s called
not_both (condition ∷ rest) some other r b (inr (un, refused)) (inr (uncalled, answered)) = not_both rest some other r b refused answered

-- the first condition calls for this refusal alone
pub called_only : {R A : Type 0} (condition : R → Type 0) (rest : List (R → Type 0)) (answer : A → Type 0) (refusal : R) → IsOnly condition refusal →
    IsOnly (Gives (condition ∷ rest) answer) (refuses refusal)
called_only {R} {A} condition rest answer refusal is = record { holds = inl (refusal, is.holds, refl); only = only }
  where
    only : (other : Verdict R A) → Gives (condition ∷ rest) answer other → other ≡ refuses refusal
    only other (inl (r, called, alike)) = alike ∙ ap refuses (is.only r called)
    only other (inr (uncalled, given)) = absurd (uncalled refusal is.holds)

pub uncalled_only : {R A : Type 0} (condition : R → Type 0) (rest : List (R → Type 0)) (answer : A → Type 0) (v : Verdict R A) → ((r : R) → ¬ condition r) →
    IsOnly (Gives rest answer) v → IsOnly (Gives (condition ∷ rest) answer) v
uncalled_only {R} {A} condition rest answer v uncalled is = record { holds = inr (uncalled, is.holds); only = only }
  where
    only : (other : Verdict R A) → Gives (condition ∷ rest) answer other → other ≡ v
    only other (inl (r, called, alike)) = absurd (uncalled r called)
    only other (inr (un, given)) = is.only other given
