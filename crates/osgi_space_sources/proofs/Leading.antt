-- A revision that agrees with all to which the exports lead that it sees violates no constraint for a disputed package.
use Rattle.std.proofs.Common.{inl, inr, ℕ, refl}
use Rattle.osgi_space_rows.specs.Rows.{RowLists}
use Rattle.osgi_space_rows.specs.declared.grouped.Grouped.{Grouped}
use Rattle.osgi_space_sources.specs.computed.Givens.{IsSeen}
use Rattle.osgi_space_sources.specs.computed.Leads.{Agrees, AreLeads, FollowsFrom, IsUnder}
use Rattle.osgi_space_sources.specs.computed.Pairs.{IsFirst, IsNext}
use Rattle.osgi_space_sources.specs.computed.Reach.{Reach, starts, steps}
use Rattle.osgi_space_sources.specs.computed.RowSources.{Clash, Implied}
use Rattle.osgi_space_sources.specs.declared.given.Given.{Given}
use Rattle.osgi_space_sources.specs.laws.Following.{implied-reach, starts-among}

module _ (R : RowLists) (A D : ℕ → Type 0) (r : ℕ) where
  -- a constraint follows from an export that r sees
  from-seen : {g : Given} → Reach (IsFirst R A r) (IsNext R A) g → (h : Given) × IsSeen R r h × A h.source × FollowsFrom R A h g
  from-seen (starts (h, seen, among, uses)) = (h, seen, among, starts uses)
  from-seen (steps before next) = let f = from-seen before in (f.0, f.1, f.2, steps f.3 next)

  module _ (leads : Grouped Given Given) (are : AreLeads R A D leads r) (agree : (h s : Given) → IsSeen R r h → IsUnder leads h s → Agrees R r s) where
    pub plain-keeps : (e u : ℕ) → Implied R A r e u → Clash R r e u → ¬ D u
    plain-keeps e u implied clash disputed =
        let g : Given = record { «package» = u; source = e } in
        let s : Given = record { «package» = u; source = clash.theirs } in
        let f = from-seen ((implied-reach R A r (starts-among R A r implied) g).1 implied) in
        elim (agree f.0 s f.1 (are f.0 s f.1 f.2 (g, f.3, (refl, clash.theirs_in)) disputed)) [
          | inl has ↦ clash.theirs_out has
          | inr none ↦ none clash.ours clash.ours_in
        ]
