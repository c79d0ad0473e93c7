-- Conditions in stages: the first one that calls for a refusal, and what holds where none does.
use Rattle.std.proofs.Common.{◌≡◌, ℕ, zero, suc, List, [], ◌∷◌, ◌++◌, append-nil, ap, sym, subst, ◌∙◌, refl, inl, inr}
use Rattle.std.specs.Prelude.{⊤, Result, Ok, Err}
use Rattle.std.specs.Result.{IsErrAnd}
use Rattle.osgi_base.specs.Verdict.{Gives, Verdict, answers, refuses}
use Rattle.osgi_package.specs.Only.{IsOnly}
use Rattle.osgi_world.specs.declared.manifest_fault.ManifestFault.{ManifestFault}
use Rattle.osgi_manifest.specs.computed.Answers.{CallNone, IsStep, Stops}
use Rattle.osgi_clause.specs.Walks.{IsTheFirst}
use Rattle.osgi_base.specs.declared.stop.Stop.{Stop}
use Rattle.osgi_base.specs.declared.stop.Stop.TheVariants.{Fault, Memory}
use Rattle.osgi_clause.specs.laws.FirstFaults.{not_both, same_refusal}

-- ---- conditions, and others after them

refused_on : {R A : Type 0} (conditions rest : List (R → Type 0)) (answer : A → Type 0) (r : R) → Gives conditions (λ (fine : Unit {0}). ⊤) (refuses r) →
    Gives (conditions ++ rest) answer (refuses r)
refused_on [] rest answer r refused = absurd refused
refused_on (condition ∷ conditions) rest answer r (inl (s, called, e)) = inl (s, called, ap refuses (same_refusal r s e))
refused_on (condition ∷ conditions) rest answer r (inr (uncalled, refused)) = inr (uncalled, refused_on conditions rest answer r refused)

passed_on : {R A : Type 0} (conditions rest : List (R → Type 0)) (answer : A → Type 0) (v : Verdict R A) → CallNone conditions → Gives rest answer v → Gives (conditions ++ rest) answer v
passed_on [] rest answer v uncalled given = given
passed_on (condition ∷ conditions) rest answer v (inl (s, called, e)) given = absurd (cc e)
passed_on (condition ∷ conditions) rest answer v (inr (un, uncalled)) given = inr (un, passed_on conditions rest answer v uncalled given)

-- which of both gave the verdict
data Parted {R A : Type 0} (conditions rest : List (R → Type 0)) (answer : A → Type 0) (v : Verdict R A) : Type 0 where
  refused : (r : R) → v ≡ refuses r → Gives conditions (λ (fine : Unit {0}). ⊤) (refuses r) → Parted conditions rest answer v
  passed : CallNone conditions → Gives rest answer v → Parted conditions rest answer v

parted_more : {R A : Type 0} (condition : R → Type 0) (conditions rest : List (R → Type 0)) (answer : A → Type 0) (v : Verdict R A) → ((r : R) → ¬ condition r) →
    Parted conditions rest answer v → Parted (condition ∷ conditions) rest answer v
parted_more condition conditions rest answer v un (refused r e given) = refused r e (inr (un, given))
parted_more condition conditions rest answer v un (passed uncalled given) = passed (inr (un, uncalled)) given

parted : {R A : Type 0} (conditions rest : List (R → Type 0)) (answer : A → Type 0) (v : Verdict R A) → Gives (conditions ++ rest) answer v → Parted conditions rest answer v
parted [] rest answer v given = passed tt given
parted (condition ∷ conditions) rest answer v (inl (r, called, e)) = refused r e (inl (r, called, refl))
parted (condition ∷ conditions) rest answer v (inr (un, given)) = parted_more condition conditions rest answer v un (parted conditions rest answer v given)

-- the first refusal stays the first one where other conditions follow
pub first_stays : {R A : Type 0} (conditions rest : List (R → Type 0)) (answer : A → Type 0) (refusal : R) → IsTheFirst conditions refusal →
    IsOnly (Gives (conditions ++ rest) answer) (refuses refusal)
first_stays {R} {A} conditions rest answer refusal is = record { holds = refused_on conditions rest answer refusal is.holds; only = only }
  where
    by : (v : Verdict R A) → Parted conditions rest answer v → v ≡ refuses refusal
    by v (refused r e given) = e ∙ ap refuses (same_refusal r refusal (is.only (refuses r) given))
    by v (passed uncalled given) = absurd (not_both conditions (λ (fine : Unit {0}). ⊤) (λ (fine : Unit {0}). ⊤) refusal tt is.holds uncalled)

    only : (v : Verdict R A) → Gives (conditions ++ rest) answer v → v ≡ refuses refusal
    only v given = by v (parted conditions rest answer v given)

-- where the first conditions call for none, the others decide
pub others_decide : {R A : Type 0} (conditions rest : List (R → Type 0)) (answer : A → Type 0) (v : Verdict R A) → CallNone conditions → IsOnly (Gives rest answer) v →
    IsOnly (Gives (conditions ++ rest) answer) v
others_decide {R} {A} conditions rest answer v uncalled is = record { holds = passed_on conditions rest answer v uncalled is.holds; only = only }
  where
    by : (w : Verdict R A) → Parted conditions rest answer w → w ≡ v
    by w (refused r e given) = absurd (not_both conditions (λ (fine : Unit {0}). ⊤) (λ (fine : Unit {0}). ⊤) r tt given uncalled)
    by w (passed un given) = is.only w given

    only : (w : Verdict R A) → Gives (conditions ++ rest) answer w → w ≡ v
    only w given = by w (parted conditions rest answer w given)

pub none_of_both : {R : Type 0} (conditions rest : List (R → Type 0)) → CallNone conditions → CallNone rest → CallNone (conditions ++ rest)
none_of_both conditions rest uncalled un = passed_on conditions rest (λ (fine : Unit {0}). ⊤) (answers tt) uncalled un

-- ---- what all conditions decide

answer_alone : {R A : Type 0} (answer : A → Type 0) (reply : A) → IsOnly answer reply → IsOnly (Gives {Refusal = R} [] answer) (answers reply)
answer_alone {R} {A} answer reply is = record { holds = is.holds; only = only }
  where
    only : (v : Verdict R A) → Gives [] answer v → v ≡ answers reply
    only (refuses r) given = absurd given
    only (answers other) given = ap answers (is.only other given)

-- the only answer, where none of them calls for a refusal
pub answers_only : {R A : Type 0} (conditions : List (R → Type 0)) (answer : A → Type 0) (reply : A) → CallNone conditions → IsOnly answer reply →
    IsOnly (Gives conditions answer) (answers reply)
answers_only conditions answer reply uncalled is =
    subst (λ l. IsOnly (Gives l answer) (answers reply)) (append-nil conditions) (others_decide conditions [] answer (answers reply) uncalled (answer_alone answer reply is))

-- the first refusal, whatever the answer were
pub refuses_only : {R A : Type 0} (conditions : List (R → Type 0)) (answer : A → Type 0) (refusal : R) → IsTheFirst conditions refusal → IsOnly (Gives conditions answer) (refuses refusal)
refuses_only conditions answer refusal is =
    subst (λ l. IsOnly (Gives l answer) (refuses refusal)) (append-nil conditions) (first_stays conditions [] answer refusal is)

-- ---- steps, one after another

module _ (conditions rest : List (ManifestFault → Type 0)) where
  -- a fault of the first step is that of both
  step_fails : (stop : Stop ManifestFault) → Stops conditions stop → Stops (conditions ++ rest) stop
  step_fails (Fault fault) is = first_stays conditions rest (λ (fine : Unit {0}). ⊤) fault is
  step_fails Memory is = tt

  -- where the first step has none, that of the second is
  then_fails : (stop : Stop ManifestFault) → CallNone conditions → Stops rest stop → Stops (conditions ++ rest) stop
  then_fails (Fault fault) uncalled is = others_decide conditions rest (λ (fine : Unit {0}). ⊤) (refuses fault) uncalled is
  then_fails Memory uncalled is = tt

-- the conditions of all steps
abbrev pub all_of : List (List (ManifestFault → Type 0)) → List (ManifestFault → Type 0)
all_of [] = []
all_of (step ∷ steps) = step ++ all_of steps

-- no condition calls for a fault, of all steps, or of those before a place
abbrev pub NoneOf : List (List (ManifestFault → Type 0)) → Type 0
NoneOf [] = ⊤
NoneOf (step ∷ steps) = CallNone step × NoneOf steps

abbrev pub NoneBefore : ℕ → List (List (ManifestFault → Type 0)) → Type 0
NoneBefore zero steps = ⊤
NoneBefore (suc n) [] = ⊤
NoneBefore (suc n) (step ∷ steps) = CallNone step × NoneBefore n steps

-- the step at this place stops
abbrev pub StopsAt : ℕ → List (List (ManifestFault → Type 0)) → Stop ManifestFault → Type 0
StopsAt zero [] stop = ⊥
StopsAt zero (step ∷ steps) stop = Stops step stop
StopsAt (suc n) [] stop = ⊥
StopsAt (suc n) (step ∷ steps) stop = StopsAt n steps stop

pub none_of_all : (steps : List (List (ManifestFault → Type 0))) → NoneOf steps → CallNone (all_of steps)
none_of_all [] none = tt
none_of_all (step ∷ steps) none = none_of_both step (all_of steps) none.0 (none_of_all steps none.1)

stops_at : (n : ℕ) (steps : List (List (ManifestFault → Type 0))) (stop : Stop ManifestFault) → NoneBefore n steps → StopsAt n steps stop → Stops (all_of steps) stop
stops_at zero [] stop none is = absurd is
stops_at zero (step ∷ steps) stop none is = step_fails step (all_of steps) stop is
stops_at (suc n) [] stop none is = absurd is
stops_at (suc n) (step ∷ steps) stop none is = then_fails step (all_of steps) stop none.0 (stops_at n steps stop none.1 is)

-- what is handed on of a step
pub handed_on : {A : Type 0} (conditions : List (ManifestFault → Type 0)) (Reads : A → Type 0) (r : Result A (Stop ManifestFault)) (given : Stop ManifestFault) →
    IsErrAnd r (λ stop. stop ≡ given) → Stops conditions given → IsStep conditions Reads r
handed_on conditions Reads (Ok read) given handed is = absurd handed
handed_on conditions Reads (Err stop) given handed is = subst (Stops conditions) (sym handed) is

-- where the steps before a place have none, the fault of the step there is that of all
pub stopped : {A : Type 0} (steps : List (List (ManifestFault → Type 0))) (n : ℕ) (Reads : A → Type 0) (r : Result A (Stop ManifestFault)) (given : Stop ManifestFault) →
    IsErrAnd r (λ stop. stop ≡ given) → NoneBefore n steps → StopsAt n steps given → IsStep (all_of steps) Reads r
stopped steps n Reads r given handed none is = handed_on (all_of steps) Reads r given handed (stops_at n steps given none is)
