-- What a provider has on offer, by rows, and wires to what is not on offer.
use Rattle.std.proofs.Common.{◌≡◌, ◌↔◌, inl, inr, ℕ, ◌<◌, List, [], ◌∙◌, Option, None, Some, refl, sym, ap, subst, Any}
use Rattle.std.specs.Option.{option_to_list}
use Rattle.osgi_resolver_theory.proofs.Complete.{provider-in_force}
use Rattle.osgi_base.specs.declared.ids.RevisionId.{RevisionId}
use Rattle.osgi_resolver_theory.specs.Reasons.{Reaches}
use Rattle.osgi_resolver_hopeless.proofs.Settling.{away-settled, reach-first, reach-from, settled-away}
use Rattle.osgi_resolver_hopeless.specs.computed.Clashing.{HasLost, IsLost, IsLostBy, MayReach}
use Rattle.osgi_resolver_hopeless.specs.computed.Open.{AreUnsettled}
use Rattle.osgi_resolver_path.specs.declared.wired.Wired.{Wired}
use Rattle.osgi_space_sources.specs.laws.Adding.{any-none}
use Rattle.osgi_space.proofs.Bridge.{owns-from, owns-to}
use Rattle.osgi_space_sources.proofs.Rows.{some-imported}
use Rattle.osgi_space_sources.specs.computed.RowSources.{Owns}
use Rattle.osgi_space_rows.specs.Agree.{AreRowsOf}
use Rattle.osgi_space_rows.specs.Rows.{Imports, RowLists, imports_of}
use Rattle.osgi_space_rows.specs.declared.rows.Import.{Import}
use Rattle.osgi_world.specs.Candidates.{IsProblem}
use Rattle.osgi_world.specs.Decisions.{Made}
use Rattle.osgi_world.specs.DueDecisions.{members}
use Rattle.osgi_world.specs.Lists.{In}
use Rattle.osgi_world.specs.Lookups.{capability_count}
use Rattle.osgi_world.specs.Partial.{partial}
use Rattle.osgi_world.specs.Wirings.{HasWire, ImportsElsewhere, IsExport, OnOffer}
use Rattle.osgi_world.specs.declared.problem.Problem.{Problem}
use Rattle.osgi_world.specs.declared.wiring.CapRef.{CapRef}
use Rattle.osgi_world.specs.declared.wiring.Wiring.{Wiring}
use Rattle.osgi_world.specs.declared.world.Known.{Known}

-- a revision that has no row of a wire for a package has no such wire
pub no-import-of : (R : RowLists) (r : ℕ) → imports_of R r ≡ [] → (p x : ℕ) → ¬ Imports R r p x
no-import-of R r none p x i = any-none (λ (row : Import). Unit {0}) (subst (λ xs. Any (λ (row : Import). Unit {0}) xs) none ((some-imported R (λ q y. Unit {0}) r).1 (p, x, i, tt)))

-- an export of a package that the provider imports from elsewhere
abbrev pub IsReplaced : List Known → List Wiring → CapRef → Type 0
IsReplaced K W c = (p : List ℕ) × IsExport K c.owner c.index p × ImportsElsewhere K W c.provider p

module _ (K : List Known) (W : List Wiring) (N : ℕ → List ℕ) (R : RowLists) (is : AreRowsOf K W N R) (c : CapRef) where
  pub offered : c.index < capability_count K c.owner → Owns R c.provider.0 c.owner.0 → ¬ IsReplaced K W c → OnOffer K W c
  offered within owns stays = record {
    has = (owns-to K W N R is c.provider.0 c.owner.0 owns, within);
    stays = λ p e elsewhere. stays (p, e, elsewhere);
  }

  pub offer-owns : OnOffer K W c → Owns R c.provider.0 c.owner.0
  offer-owns o = owns-from K W N R is c.provider.0 c.owner o.has.0

  pub offer-not_replaced : OnOffer K W c → ¬ IsReplaced K W c
  offer-not_replaced o r = o.stays r.0 r.1 r.2

-- of the wires of members
module _ (P : Problem) (L : IsProblem P) (D : Made) (set : List ℕ) (are : AreUnsettled P D set) (wires : List Wired)
    (is : (w : Wired) → In w wires ↔ (In w.revision (members P D) × HasWire (partial P D) w.revision w.wire)) where
  pub lost-of : (w : Wired) → In w wires → IsLost P.world.known (partial P D) set w → HasLost P D
  lost-of w i lost =
      let b = (is w).0 i in
      record {
        member = w.revision;
        wire = w.wire;
        is_member = b.0;
        has = b.1;
        settled = away-settled P L D set are w.wire.capability.provider (provider-in_force P L D w.revision w.wire b.1) lost.0;
        lost = lost.1;
      }

  pub lost-from : HasLost P D → (w : Wired) × In w wires × IsLost P.world.known (partial P D) set w
  lost-from h =
      let w : Wired = record { revision = h.member; wire = h.wire } in
      (w, (is w).1 (h.is_member, h.has), (settled-away P L D set are h.wire.capability.provider h.settled, h.lost))

-- who reaches the host has a bundle wire
pub may-reach : (K : List Known) (W : List Wiring) (N : ℕ → List ℕ) (R : RowLists) → AreRowsOf K W N R → (w : Wired) (h : RevisionId) → Reaches K W w.wire.capability.provider h → MayReach R w h
may-reach K W N R is w h (inl e) = inl (ap (λ (r : RevisionId). r.0) e)
may-reach K W N R is w h (inr l) = inr (reach-first R (reach-from K W N R is w.wire.capability.provider.0 l))

pub lost-there : (P : Problem) (D : Made) (w : Wired) → In w.revision (members P D) × HasWire (partial P D) w.revision w.wire → IsLostBy P D w.wire → HasLost P D
lost-there P D w there lost = record { member = w.revision; wire = w.wire; is_member = there.0; has = there.1; settled = lost.0; lost = lost.1 }

-- ---- the wire of a mark, as a list

pub listed-some : (o : Option Wired) (ws : List Wired) → option_to_list o ≡ ws → (w : Wired) → In w ws → o ≡ Some w
listed-some None ws e w i = elim (subst (In w) (sym e) i) [ ]
listed-some (Some x) ws e w i = elim (subst (In w) (sym e) i) [ inl same ↦ ap (λ (y : Wired). Some y) (sym same) | inr none ↦ elim none [ ] ]

pub some-listed : (o : Option Wired) (ws : List Wired) → option_to_list o ≡ ws → (w : Wired) → o ≡ Some w → In w ws
some-listed o ws e w is = subst (In w) (sym (ap option_to_list is) ∙ e) (inl refl)
