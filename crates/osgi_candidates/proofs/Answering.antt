-- What is listed in a world is what a problem in that world lists.
use Rattle.std.proofs.Common.{◌≡◌, ◌↔◌, List, sym, subst}
use Rattle.osgi_candidates.specs.computed.Collecting.{AreCandidates}
use Rattle.osgi_candidates.specs.computed.Fitting.{IsFit, bare}
use Rattle.osgi_resolver_theory.proofs.Preferred.{candidates-one}
use Rattle.osgi_world.specs.Candidates.{CanBeAsked, IsCandidate, IsProblem, candidates}
use Rattle.osgi_world.specs.declared.problem.Problem.{Problem}
use Rattle.osgi_world.specs.declared.wiring.CapRef.{CapRef}
use Rattle.osgi_world.specs.declared.wiring.ReqRef.{ReqRef}
use Rattle.osgi_world.specs.declared.world.World.{World}

pub fit_of : (P : Problem) → IsProblem P → IsFit P.world
fit_of P L = record { world_is = L.world_is; ordered = L.ordered; consistent = L.consistent }

-- a candidate in the world of a problem is one of the problem
pub same_candidate : (P : Problem) (q : ReqRef) (c : CapRef) → IsCandidate (bare P.world) q c ↔ IsCandidate P q c
same_candidate P q c = (
  λ x. record { satisfies = x.satisfies; current = x.current; no_fragment = x.no_fragment; not_owner = x.not_owner; stands = x.stands },
  λ x. record { satisfies = x.satisfies; current = x.current; no_fragment = x.no_fragment; not_owner = x.not_owner; stands = x.stands },
)

pub candidates_same : (P : Problem) (w : World) (q : ReqRef) (cs : List CapRef) → IsProblem P → P.world ≡ w → CanBeAsked P.world.known q → (IsFit w → CanBeAsked w.known q → AreCandidates w q cs) → cs ≡ candidates P q
candidates_same P w q cs L same has exact =
    let here : IsFit P.world → CanBeAsked P.world.known q → AreCandidates P.world q cs = subst (λ (v : World). IsFit v → CanBeAsked v.known q → AreCandidates v q cs) (sym same) exact in
    let are = here (fit_of P L) has in
    candidates-one P L q has cs
    (λ c. (λ i. (same_candidate P q c).0 ((are.are c).0 i), λ x. (are.are c).1 ((same_candidate P q c).1 x)))
    are.ordered
