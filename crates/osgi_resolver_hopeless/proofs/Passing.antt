-- Where no bundle wire goes to the host, a constraint that comes through it follows, by rows, from the wires that go to it.
use Rattle.std.proofs.Common.{◌≡◌, ◌≢◌, ◌⊎◌, inl, inr, ℕ, List, [], refl, sym, ◌∙◌, subst, Contains}
use Rattle.osgi_base.specs.declared.ids.RevisionId.{RevisionId}
use Rattle.osgi_resolver_hopeless.proofs.Backwards.{holder-member}
use Rattle.osgi_resolver_hopeless.specs.computed.Through.{ComesThrough, Through, begins, goes_on}
use Rattle.osgi_resolver_path.specs.Wires.{IsWiredTo}
use Rattle.osgi_resolver_theory.proofs.Agree.{reexport-is_bundle}
use Rattle.osgi_resolver_theory.specs.Reasons.{Reaches}
use Rattle.osgi_space.proofs.Bridge.{clash-from, sources-from, uses-from}
use Rattle.osgi_space_rows.specs.Agree.{AreRowsOf}
use Rattle.osgi_space_rows.specs.Rows.{RowLists}
use Rattle.osgi_space_rows.specs.declared.rows.Import.{Import}
use Rattle.osgi_space_sources.specs.computed.Clashes.{IsClash}
use Rattle.osgi_space_sources.specs.computed.Pairs.{IsFollowing, IsUseAmong}
use Rattle.osgi_space_sources.specs.computed.Reach.{starts, steps}
use Rattle.osgi_space_sources.specs.computed.RowSources.{ExportUses}
use Rattle.osgi_space_sources.specs.declared.given.Given.{Given}
use Rattle.osgi_space_sources.specs.laws.Adding.{any-of}
use Rattle.osgi_world.specs.Candidates.{IsProblem}
use Rattle.osgi_world.specs.Decisions.{Made}
use Rattle.osgi_world.specs.DueDecisions.{members}
use Rattle.osgi_world.specs.Hopeless.{IsSettled, first, more}
use Rattle.osgi_world.specs.Lists.{In}
use Rattle.osgi_world.specs.Partial.{partial}
use Rattle.osgi_world.specs.Sources.{Clash, GivesPackage, Sources, itself, reexported, substituted}
use Rattle.osgi_world.specs.Wirings.{BundleWire, PackageWire}
use Rattle.osgi_world.specs.declared.problem.Problem.{Problem}

module _ (P : Problem) (L : IsProblem P) (D : Made) (h : RevisionId) (alone : (r : RevisionId) → ¬ BundleWire P.world.known (partial P D) r h) where
  -- only the host reaches it
  pub reaches-alone : (n : RevisionId) → Reaches P.world.known (partial P D) n h → n ≡ h
  reaches-alone n (inl same) = same
  reaches-alone n (inr (first b)) = absurd (alone n b)
  reaches-alone n (inr (more {c = c} l r)) = absurd (alone c (reexport-is_bundle r))

  -- where it is given as its own source, a wire for the package goes to it
  gives-wired : {p : List ℕ} {r c y : RevisionId} → BundleWire P.world.known (partial P D) r c → GivesPackage P.world.known (partial P D) p c y → y ≡ h → (b : RevisionId) × PackageWire P.world.known (partial P D) b p h
  gives-wired {p = p} w (substituted {b = b} at other has) same = (b, subst (PackageWire P.world.known (partial P D) b p) same at)
  gives-wired {r = r} w (itself e) same = absurd (alone r (subst (BundleWire P.world.known (partial P D) r) same w))
  gives-wired w (reexported re g) same = gives-wired (reexport-is_bundle re) g same

  source-wired : {r : RevisionId} {p : List ℕ} → r ≢ h → Sources P.world.known (partial P D) r p h → (b : RevisionId) × PackageWire P.world.known (partial P D) b p h
  source-wired {r = r} other (inl w) = (r, w)
  source-wired other (inr (none, inl (c, w, g))) = gives-wired w g refl
  source-wired other (inr (none, inr (e, own))) = absurd (other (sym e))

  module _ (there : In h (members P D)) (N : ℕ → List ℕ) (R : RowLists) (is : AreRowsOf P.world.known (partial P D) N R) (A : ℕ → Type 0) (among : (r : RevisionId) → IsSettled P D r → A r.0)
      (imports : List Import) (all : (row : Import) → Contains R.imports row → row.provider ≡ h.0 → IsWiredTo P D h row.revision → Contains imports row) where
    -- the wire has its row among these
    wire-row : (b : RevisionId) (p : List ℕ) → PackageWire P.world.known (partial P D) b p h → (i : ℕ) × (N i ≡ p) × Contains imports (record { revision = b.0; imported = i; provider = h.0 })
    wire-row b p w =
        let row = is.imports_from b.0 h.0 p w in
        let member = holder-member P L D b w.wire w.has (subst (λ y. In y (members P D)) (sym w.provider) there) in
        (row.0, row.1, all (record { revision = b.0; imported = row.0; provider = h.0 }) row.2 refl (member, (w.wire, w.has, w.provider)))

    through-follows : {e : RevisionId} {u : List ℕ} → Through P.world.known (partial P D) (IsSettled P D) h e u → (j : ℕ) × (N j ≡ u) × IsFollowing R A imports [] (record { «package» = j; source = e.0 })
    through-follows (begins {r = r} {p = p} {u = u} other s a x) =
        let w = source-wired other s in
        let row = wire-row w.0 p w.1 in
        let f = uses-from P.world.known (partial P D) N R is h p u x in
        let same : f.0 ≡ row.0 = is.names f.0 row.0 (f.2 ∙ sym row.1) in
        let g : Given = record { «package» = f.1; source = h.0 } in
        let uses : ExportUses R h.0 row.0 f.1 = subst (λ k. ExportUses R h.0 k f.1) same f.4 in
        let line : Import = record { revision = w.0.0; imported = row.0; provider = h.0 } in
        (f.1, f.3, starts (inl (any-of (λ (i : Import). IsUseAmong R A (record { «package» = i.imported; source = i.provider }) g) imports line row.2 (among h a, (refl, uses)))))
    through-follows (goes_on {e = e} {d = d} {u = u} {v = v} t s a x) =
        let before = through-follows t in
        let f = uses-from P.world.known (partial P D) N R is d u v x in
        let same : f.0 ≡ before.0 = is.names f.0 before.0 (f.2 ∙ sym before.1) in
        let source = sources-from P.world.known (partial P D) N R is (subst (λ q. Sources P.world.known (partial P D) e q d) (sym before.1) s) in
        let given : Given = record { «package» = before.0; source = d.0 } in
        (f.1, f.3, steps before.2 (given, (refl, source), among d a, (refl, subst (λ k. ExportUses R d.0 k f.1) same f.4)))

    -- a member whose constraint comes through the host is the host, or clashes with what follows
    pub through-clash : (m e : RevisionId) (u : List ℕ) → ComesThrough P D h m e u → Clash P.world.known (partial P D) m e u → (m ≡ h) ⊎ ((g : Given) × IsFollowing R A imports [] g × IsClash R m.0 g)
    through-clash m e u (inl reaches) c = inl (reaches-alone m reaches)
    through-clash m e u (inr (n, reaches, t)) c =
        let f = through-follows (subst (λ k. Through P.world.known (partial P D) (IsSettled P D) k e u) (reaches-alone n reaches) t) in
        inr (record { «package» = f.0; source = e.0 }, f.2, clash-from P.world.known (partial P D) N R is (subst (λ q. Clash P.world.known (partial P D) m e q) (sym f.1) c))
