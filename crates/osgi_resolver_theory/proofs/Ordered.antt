-- The wirings that decisions make stand in order, as those before them do: the fragments of each by bundle id.
use Rattle.std.proofs.Common.{◌≡◌, ℕ, zero, suc, ◌<◌, ◌≤◌, inl, inr, List, [], ◌∷◌, length, get_or, map, refl, sym, subst, arith}
use Rattle.std.specs.List.Sorted.{IsNonDecreasing}
use Rattle.std.proofs.lemmas.Bool.{cases_lt}
use Rattle.osgi_base.specs.declared.ids.BundleId.{BundleId}
use Rattle.osgi_base.specs.declared.ids.RevisionId.{RevisionId}
use Rattle.osgi_world.specs.Candidates.{AreOrdered, IsProblem, matching}
use Rattle.osgi_world.specs.ChoiceWords.{made_by, partial_of}
use Rattle.osgi_world.specs.Decisions.{Made, attaching, is_yes, value_made}
use Rattle.osgi_world.specs.DueDecisions.{fragments_of, members}
use Rattle.osgi_world.specs.Effort.{IsResolveOf}
use Rattle.osgi_world.specs.Lists.{In, Two}
use Rattle.osgi_world.specs.Lookups.{bundle_of, is_host_of}
use Rattle.osgi_world.specs.Partial.{partial, wiring}
use Rattle.osgi_world.specs.Payloads.{current_fragments}
use Rattle.osgi_world.specs.declared.problem.Problem.{Problem}
use Rattle.osgi_world.specs.declared.wiring.Wiring.{Wiring}
use Rattle.osgi_world.specs.declared.world.World.{World}
use Rattle.osgi_resolver_theory.proofs.Laws.{laws}
use Rattle.osgi_resolver_theory.proofs.Lists.{in-append_cases, map-in}
use Rattle.osgi_resolver_theory.proofs.Twos.{two-unfilter}

at-map : {X : Type 0} (n : X → ℕ) (xs : List X) (j d : ℕ) → j < length (map n xs) → (y : X) × In y xs × (get_or (map n xs) j d ≡ n y)
at-map n [] j d h = absurd (omega (arith, h))
at-map n (x ∷ xs) zero d h = (x, inl refl, refl)
at-map n (x ∷ xs) (suc j) d h = let r = at-map n xs j d (omega (arith, h)) in (r.0, inr r.1, r.2)

-- no later item has a number that is not above that of an earlier one
rising : {X : Type 0} (n : X → ℕ) (xs : List X) → ¬ Two (λ (x y : X). n y ≤ n x) xs → (i j d : ℕ) → i ≤ j → j < length (map n xs) → get_or (map n xs) i d ≤ get_or (map n xs) j d
rising n [] apart i j d le h = absurd (omega (arith, h))
rising n (x ∷ xs) apart zero zero d le h = omega arith
rising n (x ∷ xs) apart zero (suc j) d le h =
    let r = at-map n xs j d (omega (arith, h)) in
    elim (cases_lt (n x) (n r.0)) [ inl less ↦ omega (arith, less, r.2) | inr more ↦ absurd (apart (inl (r.0, r.1, more))) ]
rising n (x ∷ xs) apart (suc i) zero d le h = absurd (omega (arith, le))
rising n (x ∷ xs) apart (suc i) (suc j) d le h = rising n xs (λ t. apart (inr t)) i j d (omega (arith, le)) (omega (arith, h))

fragments-rise : (P : Problem) → IsProblem P → (D : Made) (m : RevisionId) → IsNonDecreasing (map (bundle_of P.world.known) (fragments_of P D m))
fragments-rise P L D m =
    rising (bundle_of P.world.known) (fragments_of P D m)
    (λ t. (laws P L).fragments_ordered
    (two-unfilter (λ e f. bundle_of P.world.known f ≤ bundle_of P.world.known e) (λ f. is_host_of P.world.known f m) (current_fragments P.world.known)
    (two-unfilter (λ e f. bundle_of P.world.known f ≤ bundle_of P.world.known e) (λ f. is_yes (value_made D (attaching m f))) (matching P m) t)))

pub partial-ordered : (P : Problem) → IsProblem P → (D : Made) → AreOrdered P.world.known (partial P D)
partial-ordered P L D = record {
  by_id = L.ordered.by_id;
  fragments_ordered = λ g i. elim (in-append_cases P.world.wirings (map (wiring P D) (members P D)) g i) [
    | inl old ↦ L.ordered.fragments_ordered g old
    | inr new ↦
        let m = map-in (wiring P D) (members P D) g new in
        subst (λ (x : Wiring). IsNonDecreasing (map (bundle_of P.world.known) x.fragments)) (sym m.2) (fragments-rise P L D m.0)
  ];
  one_current = L.ordered.one_current;
}

-- and so the world stands in order after a resolve
pub first-ordered : (world : World) (b : BundleId) (P : Problem) (w : List ℕ) → IsResolveOf world b P → AreOrdered world.known (partial_of P w)
first-ordered world b P w p = subst (λ (v : World). AreOrdered v.known (partial_of P w)) p.world (partial-ordered P p.problem (made_by P w))
