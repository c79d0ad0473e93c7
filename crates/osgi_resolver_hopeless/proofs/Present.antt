-- What is in use with what is decided.
use Rattle.std.proofs.Common.{◌≡◌, ◌↔◌, ◌⊎◌, inl, inr, ℕ, List, refl, sym, subst, Any, Contains}
use Rattle.osgi_base.specs.declared.ids.RevisionId.{RevisionId}
use Rattle.osgi_resolver_theory.proofs.Checks.{new-present, old-new}
use Rattle.osgi_resolver_theory.proofs.Views.{attached-old, in_force-old}
use Rattle.osgi_resolver_theory.specs.Checks.{IsNew}
use Rattle.osgi_space_sources.specs.laws.Adding.{any-in, any-of}
use Rattle.osgi_resolver_hopeless.proofs.Answering.{known-is}
use Rattle.osgi_resolver_hopeless.specs.computed.Rivals.{HasRival, HasRivals}
use Rattle.osgi_resolver_path.specs.Standing.{IsProblemOf, Standing, made}
use Rattle.osgi_space.proofs.Ids.{contains-in, in-contains}
use Rattle.osgi_space_rows.specs.Agree.{id}
use Rattle.osgi_world.specs.Consistency.{AreRivals}
use Rattle.osgi_world.specs.Decisions.{Made}
use Rattle.osgi_world.specs.DueDecisions.{fragments_of, members}
use Rattle.osgi_world.specs.Lists.{In}
use Rattle.osgi_world.specs.Partial.{partial}
use Rattle.osgi_world.specs.Wirings.{InUse}
use Rattle.osgi_world.specs.declared.problem.Problem.{Problem}
use Rattle.osgi_world.specs.declared.world.World.{World}

old-use : (P : Problem) (D : Made) (r : RevisionId) → InUse P.world.wirings r → InUse (partial P D) r
old-use P D r (inl f) = inl (in_force-old P D r f)
old-use P D r (inr a) = inr (a.0, attached-old P D a.0 r a.1)

-- the members, and what is attached to them
pub are-new : (P : Problem) (D : Made) (ms : List RevisionId) → ms ≡ members P D → (n : ℕ) → (In (id n) ms ⊎ Any (λ m. In (id n) (fragments_of P D m)) ms) ↔ IsNew P D (id n)
are-new P D ms are n =
    let Q : RevisionId → Type 0 = λ m. In (id n) (fragments_of P D m) in (
      λ either. elim either [
        | inl i ↦ inl (subst (In (id n)) are i)
        | inr any ↦ inr (any.1, subst (In any.1) are (contains-in ms any.1 (any-in Q ms any)), any.4)
      ],
      λ new. elim new [
        | inl i ↦ inl (subst (In (id n)) (sym are) i)
        | inr f ↦ inr (any-of Q ms f.0 (in-contains ms f.0 (subst (In f.0) (sym are) f.1)) f.2)
      ],
    )

-- rivals of new revisions among those that are present
module _ (s : Standing) (P : Problem) (L : IsProblemOf s P) (new : List ℕ) (are : (n : ℕ) → Contains new n ↔ IsNew P (made P s) (id n)) where
  pub rivals-of : (n : ℕ) → Contains new n → HasRival s new (id n) → HasRivals P (made P s)
  rivals-of n at rival = record {
    new = id n;
    other = rival.0;
    is_new = (are n).0 at;
    in_use = elim rival.1 [
      | inl there ↦ new-present P (made P s) rival.0 ((are rival.0.0).0 there)
      | inr old ↦ old-use P (made P s) rival.0 (subst (λ (w : World). InUse w.wirings rival.0) (sym L.world) old)
    ];
    rivals = subst (λ K. AreRivals K (id n) rival.0) (known-is s P L s.world.known refl) rival.2;
  }

  pub rivals-from : HasRivals P (made P s) → (n : ℕ) × Contains new n × HasRival s new (id n)
  rivals-from has = (
    has.new.0,
    (are has.new.0).1 has.is_new,
    (
      has.other,
      elim (old-new P L.is (made P s) has.other has.in_use) [
        | inl old ↦ inr (subst (λ (w : World). InUse w.wirings has.other) L.world old)
        | inr there ↦ inl ((are has.other.0).1 there)
      ],
      subst (λ K. AreRivals K has.new has.other) (sym (known-is s P L s.world.known refl)) has.rivals,
    ),
  )
