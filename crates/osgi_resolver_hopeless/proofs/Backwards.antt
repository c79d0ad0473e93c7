-- What leads to a member is a member, and is found from there backwards.
use Rattle.std.proofs.Common.{◌≡◌, inl, inr, ℕ, refl, sym, subst}
use Rattle.osgi_base.specs.declared.ids.RevisionId.{RevisionId}
use Rattle.osgi_resolver_theory.proofs.States.{member-new}
use Rattle.osgi_resolver_theory.proofs.Views.{wire-cases}
use Rattle.osgi_resolver_theory.specs.Reasons.{Leads, by_bundle, by_package, itself}
use Rattle.osgi_resolver_hopeless.specs.computed.Leading.{LeadsBack}
use Rattle.osgi_space_rows.specs.Agree.{id}
use Rattle.osgi_space_sources.specs.computed.Reach.{starts, steps}
use Rattle.osgi_world.specs.Candidates.{IsProblem}
use Rattle.osgi_world.specs.Decisions.{Made}
use Rattle.osgi_world.specs.DueDecisions.{members}
use Rattle.osgi_world.specs.Lists.{In}
use Rattle.osgi_world.specs.Partial.{partial}
use Rattle.osgi_world.specs.Wirings.{HasWire}
use Rattle.osgi_world.specs.declared.problem.Problem.{Problem}
use Rattle.osgi_world.specs.declared.wiring.Wire.{Wire}

module _ (P : Problem) (L : IsProblem P) (D : Made) where
  -- no wire of what was in force goes to a member
  pub holder-member : (r : RevisionId) (w : Wire) → HasWire (partial P D) r w → In w.capability.provider (members P D) → In r (members P D)
  holder-member r w h i = elim (wire-cases P D r w h) [
    | inl old ↦ absurd (member-new P L.root_is.not_in_force D w.capability.provider i (L.consistent.coherent.rules.provided r w old))
    | inr new ↦ new.0
  ]

  module _ (h : RevisionId) where
    wired-back : (r n : RevisionId) (w : Wire) → HasWire (partial P D) r w → w.capability.provider ≡ n → In n (members P D) → LeadsBack P D h n.0 → In r (members P D) × LeadsBack P D h r.0
    wired-back r n w has to i back =
        let j = holder-member r w has (subst (λ y. In y (members P D)) (sym to) i) in
        (j, steps back (j, (w, has, to)))

    leads-from : {A : RevisionId → Type 0} {m n : RevisionId} → Leads P.world.known (partial P D) A m n → In n (members P D) → LeadsBack P D h n.0 → LeadsBack P D h m.0
    leads-from (itself a) i back = back
    leads-from (by_bundle {r = r} {n = n} l b a) i back = let before = wired-back r n b.wire b.has b.provider i back in leads-from l before.0 before.1
    leads-from (by_package {r = r} {n = n} l w a) i back = let before = wired-back r n w.wire w.has w.provider i back in leads-from l before.0 before.1

    module _ (there : In h (members P D)) where
      pub leads-back : {A : RevisionId → Type 0} {m : RevisionId} → Leads P.world.known (partial P D) A m h → LeadsBack P D h m.0
      leads-back l = leads-from l there (starts refl)

      pub back-member : {n : ℕ} → LeadsBack P D h n → In (id n) (members P D)
      back-member (starts same) = subst (λ k. In (id k) (members P D)) (sym same) there
      back-member (steps l w) = w.0
