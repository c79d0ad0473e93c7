-- A clash that was none before the last decision comes through the decision's host: the member settles with it, or has a constraint
-- that follows from what an export of one that settles with it uses.
use Rattle.std.proofs.Common.{◌≢◌, ℕ, ◌⊎◌, inl, inr, List, ◌∷◌, subst}
use Rattle.osgi_base.specs.declared.ids.RevisionId.{RevisionId}
use Rattle.osgi_resolver_hopeless.specs.computed.Through.{ComesThrough, Through, begins, goes_on}
use Rattle.osgi_resolver_theory.proofs.Agree.{implied-starts, uses-part}
use Rattle.osgi_resolver_theory.proofs.Before.{OneMore, growth, joined-no_force, joined-no_wire}
use Rattle.osgi_resolver_theory.proofs.Complete.{in_force-inside}
use Rattle.osgi_resolver_theory.proofs.Decide.{settled-dec}
use Rattle.osgi_resolver_theory.proofs.Inside.{sources-inside}
use Rattle.osgi_resolver_theory.proofs.Reasons.{alone-no_clash}
use Rattle.osgi_resolver_theory.proofs.Settled.{Grew, settled-sources, settled-sources_back}
use Rattle.osgi_resolver_theory.proofs.Settling.{settles-cases}
use Rattle.osgi_resolver_theory.proofs.Views.{in_force-member, in_force-old}
use Rattle.osgi_resolver_theory.specs.Reasons.{Joined, SettlesNow, SettlesWithHost}
use Rattle.osgi_world.specs.Decisions.{Decision, Made, host}
use Rattle.osgi_world.specs.Hopeless as hopeless
use Rattle.osgi_world.specs.Hopeless.{Hopeless, IsSettled, Settles}
use Rattle.osgi_world.specs.Partial.{partial}
use Rattle.osgi_world.specs.Sources.{Clash, Implied, Sources, follows, seen}
use Rattle.osgi_world.specs.Wirings.{InForce}
use Rattle.osgi_world.specs.declared.problem.Problem.{Problem}
use Rattle.osgi_world.specs.declared.wiring.Wiring.{Wiring}
use Rattle.osgi_world.specs.declared.world.Known.{Known}

implied-ends : {K : List Known} {W : List Wiring} {A : RevisionId → Type 0} {m e : RevisionId} {u : List ℕ} → Implied K W A m e u → A e
implied-ends (seen am s ae us) = ae
implied-ends (follows i s ad us) = ad

-- what clashes among settled revisions did so before
clash-was : {K : List Known} {W V : List Wiring} {C C' : RevisionId → Type 0} → Grew K W V C C' → {r e : RevisionId} {u : List ℕ} → Settles K W C r → Settles K W C e → Clash K V r e u → Clash K W r e u
clash-was g sr se c = record {
  ours = c.ours;
  ours_in = settled-sources_back g sr c.ours_in;
  ours_out = λ s. c.ours_out (settled-sources g se s);
  theirs = c.theirs;
  theirs_in = settled-sources_back g se c.theirs_in;
  theirs_out = λ s. c.theirs_out (settled-sources g sr s);
}

module _ (P : Problem) (D : Made) (d : Decision) (v : ℕ) (x : OneMore P D d v) where
  in-force : (r : RevisionId) → IsSettled P D r → InForce (partial P D) r
  in-force r s = elim s.own [ inl old ↦ in_force-old P D r old | inr m ↦ in_force-member P D r m.0 ]

  -- a source of one that was settled before settles with the host
  source-settles : {r e : RevisionId} {p : List ℕ} → IsSettled P D r → Sources P.world.known (partial P ((d, v) ∷ D)) r p e → SettlesNow P D d v e → SettlesWithHost P D d v e
  source-settles {r = r} {e = e} before s now = elim (settles-cases P D d v x e now) [
    | inr with_host ↦ with_host
    | inl joined ↦ absurd (joined-no_force P D d v x e joined (sources-inside (in_force-inside P x.problem D) (in-force r before) (settled-sources_back (growth P D d v x) before s)))
  ]

  -- one settles with the host, and the constraint comes through it
  abbrev Passes : RevisionId → List ℕ → Type 0
  Passes e u = (n : RevisionId) × SettlesWithHost P D d v n × Through P.world.known (partial P ((d, v) ∷ D)) (IsSettled P ((d, v) ∷ D)) n e u

  source-apart : {r e : RevisionId} → IsSettled P D r → ¬ IsSettled P D e → r ≢ e
  source-apart before away same = away (subst (IsSettled P D) same before)

  pair-passes : {m e : RevisionId} {u : List ℕ} → Implied P.world.known (partial P ((d, v) ∷ D)) (IsSettled P ((d, v) ∷ D)) m e u →
      SettlesNow P D d v m ⊎ (Passes e u ⊎ Implied P.world.known (partial P D) (IsSettled P D) m e u)
  pair-passes {m = m} (seen {e = e} am s ae us) = elim (settled-dec P D m) [
    | inr away ↦ inl (am, away)
    | inl bm ↦ elim (settled-dec P D e) [
      | inr away ↦ inr (inl (e, source-settles bm s (ae, away), begins (source-apart bm away) s ae us))
      | inl be ↦ inr (inr (seen bm (settled-sources_back (growth P D d v x) bm s) be (uses-part ((growth P D d v x).kept e be.own) us)))
    ]
  ]
  pair-passes {m = m} (follows {e = e} {d = y} i s ad us) = elim (pair-passes i) [
    | inl now ↦ inl now
    | inr (inl passes) ↦ inr (inl (passes.0, passes.1, goes_on passes.2 s ad us))
    | inr (inr old) ↦ elim (settled-dec P D y) [
      | inr away ↦ inr (inl (y, source-settles (implied-ends old) s (ad, away), begins (source-apart (implied-ends old) away) s ad us))
      | inl by ↦ inr (inr (follows old (settled-sources_back (growth P D d v x) (implied-ends old) s) by (uses-part ((growth P D d v x).kept y by.own) us)))
    ]
  ]

  -- what joins has no wires, and clashes with nothing
  joined-none : (m : RevisionId) → Joined P D d v m → {e : RevisionId} {u : List ℕ} → Implied P.world.known (partial P ((d, v) ∷ D)) (IsSettled P ((d, v) ∷ D)) m e u → ¬ Clash P.world.known (partial P ((d, v) ∷ D)) m e u
  joined-none m j pair c = alone-no_clash (λ p y w. joined-no_wire P D d v x m j w.wire w.has) (λ y b. joined-no_wire P D d v x m j b.wire b.has) pair c

  pub clash-through : ¬ Hopeless P D → (m e : RevisionId) (u : List ℕ) → Implied P.world.known (partial P ((d, v) ∷ D)) (IsSettled P ((d, v) ∷ D)) m e u → Clash P.world.known (partial P ((d, v) ∷ D)) m e u →
      ComesThrough P ((d, v) ∷ D) (host d) m e u
  clash-through hopeful m e u pair c = elim (pair-passes pair) [
    | inl now ↦ elim (settles-cases P D d v x m now) [
      | inl joined ↦ absurd (joined-none m joined pair c)
      | inr with_host ↦ inl with_host.2
    ]
    | inr (inl passes) ↦ inr (passes.0, passes.1.2, passes.2)
    | inr (inr old) ↦ absurd (hopeful (hopeless.clashes m e u old (clash-was (growth P D d v x) (implied-starts old) (implied-ends old) c)))
  ]
