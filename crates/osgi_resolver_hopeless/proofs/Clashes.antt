-- Constraints that come from settled revisions alone are those that come from no unsettled member.
use Rattle.std.proofs.Common.{ℕ, List, sym, subst}
use Rattle.osgi_base.specs.declared.ids.RevisionId.{RevisionId}
use Rattle.osgi_resolver_theory.proofs.Closure.{Decided, map-dec}
use Rattle.osgi_resolver_theory.proofs.Complete.{in_force-inside}
use Rattle.osgi_resolver_theory.proofs.Decide.{clashes-dec}
use Rattle.osgi_resolver_theory.proofs.Inside.{sources-inside}
use Rattle.osgi_resolver_theory.proofs.Twos.{stable}
use Rattle.osgi_resolver_theory.proofs.Views.{in_force-member}
use Rattle.osgi_space_sources.proofs.Agreeing.{agrees-unless}
use Rattle.osgi_space_sources.specs.computed.Clashes.{KeepsUsesAmong}
use Rattle.osgi_space_sources.specs.computed.Disputes.{AreDisputed, IsDisputed}
use Rattle.osgi_space_sources.specs.declared.disputed.Disputed.{Disputed}
use Rattle.osgi_resolver_hopeless.proofs.Settling.{away-settled, settled-away}
use Rattle.osgi_resolver_hopeless.specs.computed.Clashing.{HasClash}
use Rattle.osgi_resolver_hopeless.specs.computed.Open.{AreUnsettled, Has}
use Rattle.osgi_space.proofs.Bridge.{clash-from, clash-to, implied-from, implied-to}
use Rattle.osgi_space_rows.specs.Agree.{AreRowsOf}
use Rattle.osgi_space_rows.specs.Rows.{RowLists}
use Rattle.osgi_world.specs.Candidates.{IsProblem}
use Rattle.osgi_world.specs.Decisions.{Made}
use Rattle.osgi_world.specs.DueDecisions.{members}
use Rattle.osgi_world.specs.Hopeless.{IsSettled}
use Rattle.osgi_world.specs.Lists.{In}
use Rattle.osgi_world.specs.Partial.{partial}
use Rattle.osgi_world.specs.Sources.{Clash, Implied, follows, seen}
use Rattle.osgi_world.specs.Wirings.{InForce}
use Rattle.osgi_world.specs.declared.problem.Problem.{Problem}

clash-dec : (P : Problem) (D : Made) → Decided (HasClash P D)
clash-dec P D = map-dec
    (λ a. record { member = a.0; seen_by = a.2.0; used = a.2.1; is_member = a.1; implied = a.2.2; clash = a.2.3 })
    (λ h. (h.member, h.is_member, (h.seen_by, h.used, h.implied, h.clash)))
    (clashes-dec P D)

module _ (P : Problem) (L : IsProblem P) (D : Made) (set : List ℕ) (are : AreUnsettled P D set) where
  abbrev IsAway : RevisionId → Type 0
  IsAway r = ¬ Has set r.0

  settled : (r : RevisionId) → InForce (partial P D) r → IsAway r → IsSettled P D r
  settled r f away = away-settled P L D set are r f away

  implied-settled : {r e : RevisionId} {u : List ℕ} → InForce (partial P D) r → Implied P.world.known (partial P D) IsAway r e u → InForce (partial P D) e × Implied P.world.known (partial P D) (IsSettled P D) r e u
  implied-settled {r = r} f (seen {e = e} a s b x) =
      let g = sources-inside (in_force-inside P L D) f s in
      (g, seen (settled r f a) s (settled e g b) x)
  implied-settled f (follows {d = d} before s b x) =
      let p = implied-settled f before in
      let g = sources-inside (in_force-inside P L D) p.0 s in
      (g, follows p.1 s (settled d g b) x)

  module _ (N : ℕ → List ℕ) (R : RowLists) (is : AreRowsOf P.world.known (partial P D) N R) where
    abbrev pub Breaks : RevisionId → Type 0
    Breaks m = ¬ KeepsUsesAmong R (λ x. ¬ Has set x) m.0

    pub clash-of : (m : RevisionId) → In m (members P D) → Breaks m → HasClash P D
    clash-of m i breaks = stable (clash-dec P D) (λ none. breaks (λ e u implied clash.
        let pair = implied-to P.world.known (partial P D) N R is {A = λ x. ¬ Has set x} {B = IsAway} (λ x away. away) implied in
        none (record {
          member = m;
          seen_by = record { 0 = e };
          used = N u;
          is_member = i;
          implied = (implied-settled (in_force-member P D m i) pair).1;
          clash = clash-to P.world.known (partial P D) N R is clash;
        })))

    pub clash-breaks : (h : HasClash P D) → Breaks h.member
    clash-breaks h keeps =
        let pair = implied-from P.world.known (partial P D) N R is {A = λ x. ¬ Has set x} (λ x s. settled-away P L D set are x s) h.implied in
        keeps h.seen_by.0 pair.0 pair.2 (clash-from P.world.known (partial P D) N R is (subst (λ u. Clash P.world.known (partial P D) h.member h.seen_by u) (sym pair.1) h.clash))

-- where no package is disputed nothing clashes
pub none-disputed : (P : Problem) (D : Made) (N : ℕ → List ℕ) (R : RowLists) → AreRowsOf P.world.known (partial P D) N R → (disputed : Disputed) → AreDisputed R disputed → ((p : ℕ) → ¬ IsDisputed disputed p) → ¬ HasClash P D
none-disputed P D N R is disputed are none h =
    let A : ℕ → Type 0 = λ x. Unit {0} in
    let pair = implied-from P.world.known (partial P D) N R is {A = A} (λ x s. tt) h.implied in
    let clash = clash-from P.world.known (partial P D) N R is (subst (λ u. Clash P.world.known (partial P D) h.member h.seen_by u) (sym pair.1) h.clash) in
    agrees-unless R disputed are A h.member.0 (λ e u implied clashes. none u) h.seen_by.0 pair.0 pair.2 clash
