-- What follows by the rows is what follows by the wirings whose rows they are: one lemma a notion.
use Rattle.std.proofs.Common.{◌≡◌, inl, inr, ℕ, List, ap, sym, ◌∙◌, subst}
use Rattle.osgi_base.specs.declared.ids.RevisionId.{RevisionId}
use Rattle.osgi_world.specs.Sources as relation
use Rattle.osgi_world.specs.Wirings as theory
use Rattle.osgi_world.specs.declared.wiring.Wiring.{Wiring}
use Rattle.osgi_world.specs.declared.world.Known.{Known}
use Rattle.osgi_space_rows.specs.Agree.{AreRowsOf, id}
use Rattle.osgi_space_rows.specs.Rows.{RowLists, Imports, OwnExport}
use Rattle.osgi_space_sources.specs.computed.RowSources.{Owns, HasExport, ExportUses, ImportsElsewhere, Exports, GivesPackage, substituted, itself, reexported, Sources, Implied, seen, follows, Clash}

module _ (K : List Known) (W : List Wiring) (N : ℕ → List ℕ) (R : RowLists) (is : AreRowsOf K W N R) where
  pub imports-to : (r p x : ℕ) → Imports R r p x → theory.PackageWire K W (id r) (N p) (id x)
  imports-to r p x = is.imports_to r p x

  pub imports-from : (r p x : ℕ) → theory.PackageWire K W (id r) (N p) (id x) → Imports R r p x
  imports-from r p x w = let f = is.imports_from r x (N p) w in subst (λ i. Imports R r i x) (is.names f.0 p f.1) f.2

  pub owns-to : (r o : ℕ) → Owns R r o → theory.Owns W (id r) (id o)
  owns-to r o (inl e) = inl (ap id e)
  owns-to r o (inr a) = inr ((is.attaches r o).0 a)

  pub owns-from : (r : ℕ) (o : RevisionId) → theory.Owns W (id r) o → Owns R r o.0
  owns-from r o (inl e) = inl (ap (λ (i : RevisionId). i.0) e)
  owns-from r o (inr a) = inr ((is.attaches r o.0).1 a)

  pub export-to : (r p : ℕ) → HasExport R r p → theory.HasExport K W (id r) (N p)
  export-to r p h =
      let at = is.exports_to h.0 p h.2 in
      record { owner = id h.0; index = at.0; has = (owns-to r h.0 h.1, at.1.0); export = at.1.1 }

  pub export-from : (r : ℕ) (p : ℕ) → theory.HasExport K W (id r) (N p) → HasExport R r p
  export-from r p h =
      let f = is.exports_from h.owner.0 h.index (N p) (h.has.1, h.export) in
      (h.owner.0, owns-from r h.owner h.has.0, subst (λ i. OwnExport R h.owner.0 i) (is.names f.0 p f.1) f.2)

  pub elsewhere-to : (r p : ℕ) → ImportsElsewhere R r p → theory.ImportsElsewhere K W (id r) (N p)
  elsewhere-to r p e = record { from = id e.0; imports = imports-to r p e.0 e.1; elsewhere = λ same. e.2 (ap (λ (i : RevisionId). i.0) same) }

  pub elsewhere-from : (r p : ℕ) → theory.ImportsElsewhere K W (id r) (N p) → ImportsElsewhere R r p
  elsewhere-from r p e = (e.from.0, imports-from r p e.from.0 e.imports, λ same. e.elsewhere (ap id same))

  pub exports-to : (r p : ℕ) → Exports R r p → theory.Exports K W (id r) (N p)
  exports-to r p x = record { exported = export-to r p x.0; stays = λ e. x.1 (elsewhere-from r p e) }

  pub exports-from : (r p : ℕ) → theory.Exports K W (id r) (N p) → Exports R r p
  exports-from r p x = (export-from r p x.exported, λ e. x.stays (elsewhere-to r p e))

  pub gives-to : {p b x : ℕ} → GivesPackage R p b x → relation.GivesPackage K W (N p) (id b) (id x)
  gives-to {p} (substituted at other has) = relation.substituted (imports-to _ p _ at) (λ same. other (ap (λ (i : RevisionId). i.0) same)) (export-to _ p has)
  gives-to {p} (itself e) = relation.itself (exports-to _ p e)
  gives-to {p} (reexported at g) = relation.reexported ((is.reexports _ _).0 at) (gives-to g)

  pub gives-from : {p : ℕ} {b x : RevisionId} → relation.GivesPackage K W (N p) b x → GivesPackage R p b.0 x.0
  gives-from {p} (relation.substituted {b = b} {x = x} at other has) = substituted (imports-from b.0 p x.0 at) (λ same. other (ap id same)) (export-from b.0 p has)
  gives-from {p} (relation.itself {b = b} e) = itself (exports-from b.0 p e)
  gives-from {p} (relation.reexported {b = b} {c = c} at g) = reexported ((is.reexports b.0 c.0).1 at) (gives-from g)

  pub sources-to : {r p x : ℕ} → Sources R r p x → relation.Sources K W (id r) (N p) (id x)
  sources-to {r} {p} (inl at) = inl (imports-to r p _ at)
  sources-to {r} {p} (inr (none, inl (b, at, g))) = inr ((λ y. none (y.0.0, imports-from r p y.0.0 y.1)), inl (id b, (is.requires r b).0 at, gives-to g))
  sources-to {r} {p} (inr (none, inr (e, x))) = inr ((λ y. none (y.0.0, imports-from r p y.0.0 y.1)), inr (ap id e, exports-to r p x))

  pub sources-from : {r p : ℕ} {x : RevisionId} → relation.Sources K W (id r) (N p) x → Sources R r p x.0
  sources-from {r} {p} {x} (inl at) = inl (imports-from r p x.0 at)
  sources-from {r} {p} (inr (none, inl (b, at, g))) = inr ((λ y. none (id y.0, imports-to r p y.0 y.1)), inl (b.0, (is.requires r b.0).1 at, gives-from g))
  sources-from {r} {p} (inr (none, inr (e, x))) = inr ((λ y. none (id y.0, imports-to r p y.0 y.1)), inr (ap (λ (i : RevisionId). i.0) e, exports-from r p x))

  pub uses-to : (e p u : ℕ) → ExportUses R e p u → theory.ExportUses K W (id e) (N p) (N u)
  uses-to e p u x =
      let at = is.uses_to x.0 p u x.2 in
      record { owner = id x.0; index = at.0; has = (owns-to e x.0 x.1, at.1.0); export = at.1.1; uses = at.2 }

  -- the numbers of the packages named p and u
  pub uses-from : (e : RevisionId) (p u : List ℕ) → theory.ExportUses K W e p u → (i j : ℕ) × (N i ≡ p) × (N j ≡ u) × ExportUses R e.0 i j
  uses-from e p u x =
      let f = is.uses_from x.owner.0 x.index p u (x.has.1, x.export) x.uses in
      (f.0, f.1, f.2, f.3, (x.owner.0, owns-from e.0 x.owner x.has.0, f.4))

  pub implied-to : {A : ℕ → Type 0} {B : RevisionId → Type 0} → ((x : ℕ) → A x → B (id x)) → {r e u : ℕ} → Implied R A r e u → relation.Implied K W B (id r) (id e) (N u)
  implied-to among (seen a s b x) = relation.seen (among _ a) (sources-to s) (among _ b) (uses-to _ _ _ x)
  implied-to among (follows i s b x) = relation.follows (implied-to among i) (sources-to s) (among _ b) (uses-to _ _ _ x)

  -- the number of the package named u
  pub implied-from : {A : ℕ → Type 0} {B : RevisionId → Type 0} → ((x : RevisionId) → B x → A x.0) → {r e : RevisionId} {u : List ℕ} → relation.Implied K W B r e u → (j : ℕ) × (N j ≡ u) × Implied R A r.0 e.0 j
  implied-from among {r = r} (relation.seen {e = e} {p = p} {u = u} a s b x) =
      let f = uses-from e p u x in
      (f.1, f.3, seen (among r a) (sources-from (subst (λ q. relation.Sources K W r q e) (sym f.2) s)) (among e b) f.4)
  implied-from {A = A} among {r = r} (relation.follows {e = e} {d = d} {u = u} {v = v} i s b x) =
      let before = implied-from among i in
      let f = uses-from d u v x in
      let same : before.0 ≡ f.0 = is.names before.0 f.0 (before.1 ∙ sym f.2) in
      (f.1, f.3, follows before.2 (sources-from (subst (λ q. relation.Sources K W e q d) (sym before.1) s)) (among d b) (subst (λ k. ExportUses R d.0 k f.1) (sym same) f.4))

  pub clash-to : {r e u : ℕ} → Clash R r e u → relation.Clash K W (id r) (id e) (N u)
  clash-to c = record { ours = id c.ours; ours_in = sources-to c.ours_in; ours_out = λ s. c.ours_out (sources-from s); theirs = id c.theirs; theirs_in = sources-to c.theirs_in; theirs_out = λ s. c.theirs_out (sources-from s) }

  pub clash-from : {r e u : ℕ} → relation.Clash K W (id r) (id e) (N u) → Clash R r e u
  clash-from c = record { ours = c.ours.0; ours_in = sources-from c.ours_in; ours_out = λ s. c.ours_out (sources-to s); theirs = c.theirs.0; theirs_in = sources-from c.theirs_in; theirs_out = λ s. c.theirs_out (sources-to s) }
