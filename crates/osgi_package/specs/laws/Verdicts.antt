-- Verdicts that are the only ones, condition by condition.
use Rattle.std.proofs.Common.{◌≡◌, List, [], ◌∷◌, ap, ◌∙◌, refl, inl, inr}
use Rattle.osgi_base.specs.laws.Verdicts.{gives_first, gives_rest}
use Rattle.osgi_base.specs.Verdict.{Gives, Verdict, Where, answers, refuses}
use Rattle.osgi_package.specs.Only.{IsOnly}

pub first_only : {R A : Type 0} (refusal : R) (fact : Type 0) (rest : List (R → Type 0)) (answer : A → Type 0) → fact → IsOnly (Gives (Where refusal fact ∷ rest) answer) (refuses refusal)
first_only {R} {A} refusal fact rest answer holds = record { holds = gives_first refusal fact rest answer holds; only = only }
  where
    only : (other : Verdict R A) → Gives (Where refusal fact ∷ rest) answer other → other ≡ refuses refusal
    only other (inl (r, (is, f), alike)) = alike ∙ ap refuses is
    only other (inr (uncalled, given)) = absurd (uncalled refusal (refl, holds))

pub rest_only : {R A : Type 0} (refusal : R) (fact : Type 0) (rest : List (R → Type 0)) (answer : A → Type 0) (v : Verdict R A) → ¬ fact → IsOnly (Gives rest answer) v →
    IsOnly (Gives (Where refusal fact ∷ rest) answer) v
rest_only {R} {A} refusal fact rest answer v fails is = record { holds = gives_rest refusal fact rest answer v fails is.holds; only = only }
  where
    only : (other : Verdict R A) → Gives (Where refusal fact ∷ rest) answer other → other ≡ v
    only other (inl (r, (is_it, f), alike)) = absurd (fails f)
    only other (inr (uncalled, given)) = is.only other given

pub end_only : {R A : Type 0} (answer : A → Type 0) (a : A) → IsOnly answer a → IsOnly (Gives {Refusal = R} [] answer) (answers a)
end_only {R} {A} answer a is = record { holds = is.holds; only = only }
  where
    only : (other : Verdict R A) → Gives {Refusal = R} [] answer other → other ≡ answers a
    only (refuses r) given = absurd given
    only (answers b) given = ap answers (is.only b given)
