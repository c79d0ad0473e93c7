-- Implied constraints are those that are reached from what a revision sees itself.
use Rattle.std.proofs.Common.{◌↔◌, ℕ, refl, sym, subst}
use Rattle.osgi_space_rows.specs.Rows.{RowLists}
use Rattle.osgi_space_sources.specs.computed.Pairs.{IsFirst, IsImplied, IsNext}
use Rattle.osgi_space_sources.specs.computed.Reach.{Reach, starts, steps}
use Rattle.osgi_space_sources.specs.computed.RowSources.{ExportUses, Implied, seen, follows}
use Rattle.osgi_space_sources.specs.declared.given.Given.{Given}

module _ (R : RowLists) (A : ℕ → Type 0) (r : ℕ) where
  reach-from : {e u : ℕ} → Implied R A r e u → Reach (IsFirst R A r) (IsNext R A) (record { «package» = u; source = e })
  reach-from (seen {e = e} {p = p} a s b x) = starts (record { «package» = p; source = e }, s, b, (refl, x))
  reach-from (follows {d = d} {u = u} i s b x) = steps (reach-from i) (record { «package» = u; source = d }, (refl, s), b, (refl, x))

  implied-by : A r → {g : Given} → Reach (IsFirst R A r) (IsNext R A) g → IsImplied R A r g
  implied-by a {g} (starts (h, s, b, (same, x))) = subst (λ e. Implied R A r e g.package) (sym same) (seen a s b x)
  implied-by a {g} (steps {x = from} before (h, (named, s), b, (same, x))) =
      subst (λ e. Implied R A r e g.package) (sym same) (follows (implied-by a before) s b (subst (λ p. ExportUses R h.source p g.package) named x))

  pub implied-reach : A r → (g : Given) → Reach (IsFirst R A r) (IsNext R A) g ↔ IsImplied R A r g
  implied-reach a g = (λ reached. implied-by a reached, λ implied. reach-from implied)

  pub starts-among : {e u : ℕ} → Implied R A r e u → A r
  starts-among (seen a s b x) = a
  starts-among (follows i s b x) = starts-among i

  -- a revision from which no constraints may come has none
  pub none-implied : ¬ A r → (g : Given) → ¬ IsImplied R A r g
  none-implied not_there g i = not_there (starts-among i)
