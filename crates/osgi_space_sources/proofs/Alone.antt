-- A revision without wires has all packages from itself, so it agrees with what it uses.
use Rattle.std.proofs.Common.{◌≡◌, ◌⊎◌, ℕ, inl, inr, List, [], ◌∷◌, refl, subst, Any, Contains}
use Rattle.osgi_space_rows.specs.Rows.{RowLists, imports_of, required_by}
use Rattle.osgi_space_rows.specs.declared.rows.Import.{Import}
use Rattle.osgi_space_sources.specs.computed.Clashes.{HasWires, KeepsUsesAmong}
use Rattle.osgi_space_sources.specs.laws.Adding.{any-none, any-of}
use Rattle.osgi_space_sources.specs.laws.Members.{here}
use Rattle.osgi_space_sources.proofs.Rows.{in-required, some-imported}
use Rattle.osgi_space_sources.specs.computed.Givens.{IsReached}
use Rattle.osgi_space_sources.specs.computed.Reach.{starts, steps}
use Rattle.osgi_space_sources.specs.computed.RowSources.{Clash, Implied, Sources, follows, seen}

module _ (R : RowLists) (r : ℕ) (none : ¬ HasWires R r) where
  from-itself : (p x : ℕ) → Sources R r p x → x ≡ r
  from-itself p x (inl i) = absurd (none (inl (p, x, i)))
  from-itself p x (inr (away, inl (c, q, g))) = absurd (none (inr (c, q)))
  from-itself p x (inr (away, inr (e, exports))) = e

  seen-by-itself : {A : ℕ → Type 0} {e u : ℕ} → Implied R A r e u → e ≡ r
  seen-by-itself (seen {e = e} {p = p} a s b uses) = from-itself p e s
  seen-by-itself (follows {d = d} {u = u} before s a uses) = from-itself u d (subst (λ e. Sources R e u d) (seen-by-itself before) s)

  pub agrees-with-itself : (A : ℕ → Type 0) → KeepsUsesAmong R A r
  agrees-with-itself A e u implied clash =
      let same : Clash R r r u = subst (λ e. Clash R r e u) (seen-by-itself implied) clash in
      same.ours_out same.ours_in

-- ---- which rows show wires

pub some-row : {X : Type 0} (xs : List X) → ¬ (xs ≡ []) → (x : X) × Contains xs x
some-row [] some = absurd (some refl)
some-row (x ∷ xs) some = (x, here x xs x refl)

not-there : {X : Type 0} (xs : List X) (x : X) → Contains xs x → ¬ (xs ≡ [])
not-there {X = X} xs x at none = any-none (λ (y : X). Unit {0}) (subst (λ ys. Any (λ (y : X). Unit {0}) ys) none (any-of (λ (y : X). Unit {0}) xs x at tt))

module _ (R : RowLists) (r : ℕ) where
  pub import-there : ¬ (imports_of R r ≡ []) → HasWires R r
  import-there some =
      let row = some-row (imports_of R r) some in
      let s = (some-imported R (λ p x. Unit {0}) r).0 (any-of (λ (row : Import). Unit {0}) (imports_of R r) row.0 row.1 tt) in
      inl (s.0, s.1, s.2)

  pub required-there : ¬ (required_by R r ≡ []) → HasWires R r
  required-there some =
      let row = some-row (required_by R r) some in
      let s = (in-required R r row.0).0 row.1 in
      inr (row.0.provider, (row.0.reexport, subst (Contains R.required) (λ i. record { revision = s.1 i; provider = row.0.provider; reexport = row.0.reexport }) s.0))

  pub wires-there : HasWires R r → ¬ (imports_of R r ≡ []) ⊎ ¬ (required_by R r ≡ [])
  wires-there (inl i) = inl (λ none. any-none (λ (row : Import). Unit {0}) (subst (λ xs. Any (λ (row : Import). Unit {0}) xs) none ((some-imported R (λ p x. Unit {0}) r).1 (i.0, i.1, i.2, tt))))
  wires-there (inr b) = inr (not-there (required_by R r) (record { revision = r; provider = b.0; reexport = b.1.0 }) ((in-required R r (record { revision = r; provider = b.0; reexport = b.1.0 })).1 (b.1.1, refl)))

  -- without a required bundle no bundle is reached
  pub none-reached : required_by R r ≡ [] → (b : ℕ) → ¬ IsReached R r b
  none-reached none b (starts (reexport, at)) =
      not-there (required_by R r) (record { revision = r; provider = b; reexport = reexport }) ((in-required R r (record { revision = r; provider = b; reexport = reexport })).1 (at, refl)) none
  none-reached none b (steps {x = from} before s) = none-reached none from before
