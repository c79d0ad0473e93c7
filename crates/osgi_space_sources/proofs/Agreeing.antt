-- Of a package with one possible source no two ends of wires have different sources.
use Rattle.std.proofs.Common.{inl, inr, ℕ, true, sym, subst}
use Rattle.osgi_space_rows.specs.Rows.{RowLists}
use Rattle.osgi_space_sources.specs.computed.Clashes.{HasWires, KeepsUsesAmong}
use Rattle.osgi_space_sources.specs.computed.Disputes.{AreDisputed, IsDisputed, IsNotedEnd, IsPossible, IsWireEnd}
use Rattle.osgi_space_sources.specs.computed.RowSources.{Clash, GivesPackage, HasExport, Implied, Sources, follows, itself, reexported, seen, substituted}
use Rattle.osgi_space_sources.specs.declared.disputed.Disputed.{Disputed}
use Rattle.osgi_space_sources.proofs.Alone.{agrees-with-itself}

-- ---- sources of the ends of wires are ends of wires

module _ (R : RowLists) where
  given-end : {p b x : ℕ} → IsWireEnd R b → GivesPackage R p b x → IsWireEnd R x
  given-end {p = p} end (substituted {b = b} at other has) = inr (inl (b, p, at))
  given-end end (itself e) = end
  given-end end (reexported {b = b} at g) = given-end (inr (inr (b, (true, at)))) g

  source-end : {r p x : ℕ} → IsWireEnd R r → Sources R r p x → IsWireEnd R x
  source-end {r} {p} end (inl at) = inr (inl (r, p, at))
  source-end {r} end (inr (none, inl (b, at, g))) = given-end (inr (inr (r, at))) g
  source-end end (inr (none, inr (e, x))) = subst (IsWireEnd R) (sym e) end

  -- those that see what a revision with wires has to agree with are
  pub implied-end : {A : ℕ → Type 0} {r e u : ℕ} → IsWireEnd R r → Implied R A r e u → IsWireEnd R e
  implied-end end (seen a source b uses) = source-end end source
  implied-end end (follows before source a uses) = source-end (implied-end end before) source

-- ---- what is not disputed

module _ (R : RowLists) (disputed : Disputed) (are : AreDisputed R disputed) where
  given-possible : {p b x : ℕ} → IsWireEnd R b → GivesPackage R p b x → IsPossible R (IsNotedEnd disputed) p x
  given-possible end (substituted {b = b} at other has) = inl (b, at)
  given-possible {b = b} end (itself e) = inr (are.ends b end, e.0)
  given-possible end (reexported {b = b} at g) = given-possible (inr (inr (b, (true, at)))) g

  pub source-possible : {r p x : ℕ} → IsNotedEnd disputed r → Sources R r p x → IsPossible R (IsNotedEnd disputed) p x
  source-possible {r} end (inl at) = inl (r, at)
  source-possible {r} end (inr (none, inl (b, at, g))) = given-possible (inr (inr (r, at))) g
  source-possible {p = p} end (inr (none, inr (e, x))) = inr (subst (IsNotedEnd disputed) (sym e) end, subst (λ y. HasExport R y p) (sym e) x.0)

  pub clash-disputed : {r e u : ℕ} → IsNotedEnd disputed r → IsNotedEnd disputed e → Clash R r e u → IsDisputed disputed u
  clash-disputed {r} {e} {u} here there c =
      elim (are.alike u c.ours c.theirs (source-possible here c.ours_in) (source-possible there c.theirs_in)) [
        | inl same ↦ absurd (c.theirs_out (subst (λ x. Sources R r u x) same c.ours_in))
        | inr is ↦ is
      ]

  -- a constraint of a revision with wires that clashes is for a disputed package
  pub implied-disputed : {A : ℕ → Type 0} {r e u : ℕ} → HasWires R r → Implied R A r e u → Clash R r e u → IsDisputed disputed u
  implied-disputed {r = r} {e = e} wires implied clash =
      let end : IsWireEnd R r = inl wires in
      clash-disputed (are.ends r end) (are.ends e (implied-end R end implied)) clash

  -- so none clashes where no package is disputed of those for which it would
  pub agrees-unless : (A : ℕ → Type 0) (r : ℕ) → ((e u : ℕ) → Implied R A r e u → Clash R r e u → ¬ IsDisputed disputed u) → KeepsUsesAmong R A r
  agrees-unless A r none e u implied clash =
      let without : ¬ HasWires R r = λ wires. none e u implied clash (implied-disputed wires implied clash) in
      agrees-with-itself R r without A e u implied clash
