-- Where a host reexports what is not decided, nothing that reaches it is settled.
use Rattle.std.proofs.Common.{inl, inr, ℕ, List, sym, subst}
use Rattle.osgi_base.specs.declared.ids.RevisionId.{RevisionId}
use Rattle.osgi_resolver_theory.proofs.Agree.{implied-starts, reexport-is_bundle}
use Rattle.osgi_resolver_theory.specs.Reasons.{Reaches}
use Rattle.osgi_world.specs.Hopeless.{IsSettled, ReachedFrom, first, more}
use Rattle.osgi_world.specs.Partial.{partial}
use Rattle.osgi_world.specs.declared.problem.Problem.{Problem}
use Rattle.osgi_world.specs.declared.wiring.Wiring.{Wiring}
use Rattle.osgi_world.specs.declared.world.Known.{Known}
use Rattle.osgi_resolver_path.specs.Standing.{Standing, made}
use Rattle.osgi_resolver_hopeless.specs.computed.Onward.{HasSettledReason, clash, lost}
use Rattle.osgi_resolver_hopeless.specs.computed.Open.{ReexportsOpen}
use Rattle.osgi_resolver_hopeless.specs.computed.Through.{Through, begins, goes_on}

-- what a constraint comes through is one of A
through-starts : {K : List Known} {W : List Wiring} {A : RevisionId → Type 0} {n e : RevisionId} {u : List ℕ} → Through K W A n e u → A n
through-starts (begins other s a x) = a
through-starts (goes_on t s a x) = through-starts t

module _ (P : Problem) (s : Standing) (h : RevisionId) (waits : ReexportsOpen P (made P s) h) where
  -- what reaches the host reaches what is not decided
  reaches-open : {r : RevisionId} → Reaches P.world.known (partial P (made P s)) r h → ReachedFrom P.world.known (partial P (made P s)) r waits.bundle
  reaches-open (inl same) = subst (λ x. ReachedFrom P.world.known (partial P (made P s)) x waits.bundle) (sym same) (first (reexport-is_bundle waits.reexports))
  reaches-open (inr reached) = more reached waits.reexports

  unsettled : {r : RevisionId} → Reaches P.world.known (partial P (made P s)) r h → ¬ IsSettled P (made P s) r
  unsettled reaches is = waits.undecided (is.reached waits.bundle (reaches-open reaches))

  pub none-settles : ¬ HasSettledReason P s h
  none-settles (lost l) = unsettled l.reaches l.lost.settled
  none-settles (clash k) = elim k.through [
    | inl reaches ↦ unsettled reaches (implied-starts k.clash.implied)
    | inr some ↦ unsettled some.1 (through-starts some.2)
  ]
