-- With a candidate of a rival of a member the word is hopeless.
use Rattle.std.proofs.Common.{◌≡◌, ℕ, ◌<◌, ◌≤◌, ◌⊎◌, inl, inr, if◌then◌else◌, List, [], ◌∷◌, ◌++◌, length, map, Some, refl, sym, ◌∙◌, ap, subst, arith}
use Rattle.osgi_base.specs.declared.ids.RevisionId.{RevisionId}
use Rattle.osgi_candidate_rows.specs.Listed.{AreOutBetween}
use Rattle.osgi_resolver_search.specs.Passing.{AreHopelessBetween}
use Rattle.osgi_resolver_theory.proofs.Lists.{at-some, in-flat_map, length-append, length-map, singles-entry}
use Rattle.osgi_resolver_theory.proofs.States.{member-kept, pull_in-pulls}
use Rattle.osgi_resolver_theory.proofs.Views.{in_force-in, in_force-member}
use Rattle.osgi_resolver_theory.proofs.Words.{made-more}
use Rattle.osgi_world.specs.Candidates.{candidates}
use Rattle.osgi_world.specs.ChoiceWords.{arity_of, make, made_by, width}
use Rattle.osgi_world.specs.Decisions.{Decision, Made, Step, adds, choose, wired_to}
use Rattle.osgi_world.specs.DueDecisions.{members, next_decision, provider_of, pulled}
use Rattle.osgi_world.specs.Hopeless.{Hopeless, IsHopeless, two_singletons}
use Rattle.osgi_world.specs.Lists.{In, item_at}
use Rattle.osgi_world.specs.Lookups.{is_optional}
use Rattle.osgi_world.specs.Wirings.{InForce}
use Rattle.osgi_world.specs.declared.problem.Problem.{Problem}
use Rattle.osgi_world.specs.declared.wiring.CapRef.{CapRef}
use Rattle.osgi_world.specs.declared.wiring.ReqRef.{ReqRef}
use Rattle.osgi_resolver_solve.specs.computed.Layers.{AreDoomed, IsDoomed}

-- what is made with the next decision
pub made-choice : (P : Problem) (w : List ℕ) (v : ℕ) (d : Decision) → next_decision P (made_by P w) ≡ Some d → made_by P (w ++ v ∷ []) ≡ (d, v) ∷ made_by P w
made-choice P w v d e = made-more P w v ∙ ap (λ o. make o (made_by P w) v) e

-- the provider of the candidate at the place is in force or a member then
provider-there : (P : Problem) (D : Made) (h : RevisionId) (q : ReqRef) (v : ℕ) (c : CapRef) → In c (item_at (candidates P q) v) → InForce P.world.wirings c.provider ⊎ In c.provider (members P ((choose h q, v) ∷ D))
provider-there P D h q v c at =
    let step : In (wired_to h q c) (adds P (choose h q) v) = singles-entry (λ c. wired_to h q c) (if is_optional P.world.known q then [] ∷ [] else []) (candidates P q) v c at in
    pull_in-pulls P (members P D) (pulled P (choose h q) v) c.provider (in-flat_map provider_of (adds P (choose h q) v) (wired_to h q c) c.provider step (inl refl))

chosen-hopeless : (P : Problem) (D : Made) (h : RevisionId) (q : ReqRef) (v : ℕ) (c : CapRef) → In c (item_at (candidates P q) v) → IsDoomed P D c.provider → Hopeless P ((choose h q, v) ∷ D)
chosen-hopeless P D h q v c at doomed =
    let D' : Made = (choose h q, v) ∷ D in
    two_singletons c.provider doomed.member
    (inl (in_force-in P D' c.provider (provider-there P D h q v c at)))
    (inl (in_force-member P D' doomed.member (member-kept P D (choose h q) v doomed.member doomed.is_member)))
    doomed.rivals

pub doomed-hopeless : (P : Problem) (w : List ℕ) (h : RevisionId) (q : ReqRef) (v : ℕ) (c : CapRef) → next_decision P (made_by P w) ≡ Some (choose h q) → In c (item_at (candidates P q) v) → IsDoomed P (made_by P w) c.provider → IsHopeless P (w ++ v ∷ [])
doomed-hopeless P w h q v c next at doomed = subst (Hopeless P) (sym (made-choice P w v (choose h q) next)) (chosen-hopeless P (made_by P w) h q v c at doomed)

-- ---- values that are passed over

-- the decision has a value for each candidate
pub choose-wide : (P : Problem) (w : List ℕ) (h : RevisionId) (q : ReqRef) → next_decision P (made_by P w) ≡ Some (choose h q) → length (candidates P q) ≤ width P (made_by P w)
choose-wide P w h q next =
    let more : List (List Step) = if is_optional P.world.known q then [] ∷ [] else [] in
    let one : List (List Step) = map (λ c. wired_to h q c ∷ []) (candidates P q) in
    let size : width P (made_by P w) ≡ length (one ++ more) = ap (arity_of P) next in
    let whole = length-append one more in
    let each = length-map (λ (c : CapRef). wired_to h q c ∷ []) (candidates P q) in
    omega (arith, size, whole, each)

within : (n from k v : ℕ) → (k ≤ n) ⊎ (k ≡ from) → from ≤ v → v < k → v < n
within n from k v (inl h) above below = omega (arith, h, below)
within n from k v (inr e) above below = absurd (omega (arith, e, above, below))

pub passed-hopeless : (P : Problem) (w : List ℕ) (h : RevisionId) (q : ReqRef) (out : List CapRef) (from k : ℕ) → next_decision P (made_by P w) ≡ Some (choose h q) → AreDoomed P (made_by P w) out →
    (k ≤ length (candidates P q)) ⊎ (k ≡ from) → AreOutBetween (record { choices = P.choices; out = out }) q from k → AreHopelessBetween P w from k
passed-hopeless P w h q out from k next doomed most gone v above below =
    let some = at-some (candidates P q) v (within (length (candidates P q)) from k v most above below) in
    doomed-hopeless P w h q v some.0 next some.1 (doomed some.0 (gone v some.0 above below some.1))

pub passed-range : (P : Problem) (w : List ℕ) (h : RevisionId) (q : ReqRef) (from k : ℕ) → next_decision P (made_by P w) ≡ Some (choose h q) → from ≤ width P (made_by P w) → (k ≤ length (candidates P q)) ⊎ (k ≡ from) → k ≤ width P (made_by P w)
passed-range P w h q from k next fits (inl l) = let wide = choose-wide P w h q next in omega (arith, wide, l)
passed-range P w h q from k next fits (inr e) = omega (arith, fits, e)
