-- What two lists of wirings that hold the same for some revisions say of the sources and the pairs of these.
use Rattle.std.proofs.Common.{ℕ, inl, inr, ◌||◌, IsTrue, List}
use Rattle.osgi_base.specs.declared.ids.RevisionId.{RevisionId}
use Rattle.osgi_world.specs.Lookups.{capability_namespace}
use Rattle.osgi_world.specs.Satisfaction.{is_bundle, is_package}
use Rattle.osgi_world.specs.Sources.{GivesPackage, Implied, Sources, follows, itself, reexported, seen, substituted}
use Rattle.osgi_world.specs.Wirings.{Attached, BundleWire, ExportUses, Exports, HasCapability, HasExport, HasWire, ImportsElsewhere, OnOffer, Owns, PackageWire, Reexports}
use Rattle.osgi_world.specs.declared.wiring.CapRef.{CapRef}
use Rattle.osgi_world.specs.declared.wiring.Wire.{Wire}
use Rattle.osgi_world.specs.declared.wiring.Wiring.{Wiring}
use Rattle.osgi_world.specs.declared.world.Known.{Known}
use Rattle.osgi_resolver_theory.proofs.Lists.{or-left, or-right}

-- of r, W has no fragment, bundle wire or package wire that V has not
pub record Part (K : List Known) (W V : List Wiring) (r : RevisionId) : Type 0 where
  pub attached : (f : RevisionId) → Attached W r f → Attached V r f
  pub wires : (w : Wire) → HasWire W r w → IsTrue (is_bundle (capability_namespace K w.capability.owner w.capability.index) || is_package (capability_namespace K w.capability.owner w.capability.index)) → HasWire V r w

owns-part : {K : List Known} {W V : List Wiring} {r : RevisionId} → Part K W V r → (o : RevisionId) → Owns W r o → Owns V r o
owns-part p o (inl e) = inl e
owns-part p o (inr a) = inr (p.attached o a)

pub has-part : {K : List Known} {W V : List Wiring} {r : RevisionId} → Part K W V r → {o : RevisionId} {i : ℕ} → HasCapability K W r o i → HasCapability K V r o i
has-part p h = (owns-part p _ h.0, h.1)

pub package-part : {K : List Known} {W V : List Wiring} {r : RevisionId} → Part K W V r → {p : List ℕ} {x : RevisionId} → PackageWire K W r p x → PackageWire K V r p x
package-part {K = K} part w = record {
  wire = w.wire;
  has = part.wires w.wire w.has (or-right (is_bundle (capability_namespace K w.wire.capability.owner w.wire.capability.index)) (is_package (capability_namespace K w.wire.capability.owner w.wire.capability.index)) w.export.0);
  export = w.export;
  provider = w.provider;
}

pub bundle-part : {K : List Known} {W V : List Wiring} {r : RevisionId} → Part K W V r → {x : RevisionId} → BundleWire K W r x → BundleWire K V r x
bundle-part {K = K} part w = record {
  wire = w.wire;
  has = part.wires w.wire w.has (or-left (is_bundle (capability_namespace K w.wire.capability.owner w.wire.capability.index)) (is_package (capability_namespace K w.wire.capability.owner w.wire.capability.index)) w.bundle);
  bundle = w.bundle;
  provider = w.provider;
}

pub reexport-part : {K : List Known} {W V : List Wiring} {r : RevisionId} → Part K W V r → {x : RevisionId} → Reexports K W r x → Reexports K V r x
reexport-part {K = K} part w = record {
  wire = w.wire;
  has = part.wires w.wire w.has (or-left (is_bundle (capability_namespace K w.wire.capability.owner w.wire.capability.index)) (is_package (capability_namespace K w.wire.capability.owner w.wire.capability.index)) w.bundle);
  bundle = w.bundle;
  provider = w.provider;
  reexport = w.reexport;
}

pub elsewhere-part : {K : List Known} {W V : List Wiring} {r : RevisionId} → Part K W V r → {p : List ℕ} → ImportsElsewhere K W r p → ImportsElsewhere K V r p
elsewhere-part part e = record { from = e.from; imports = package-part part e.imports; elsewhere = e.elsewhere }

pub export-part : {K : List Known} {W V : List Wiring} {r : RevisionId} → Part K W V r → {p : List ℕ} → HasExport K W r p → HasExport K V r p
export-part part e = record { owner = e.owner; index = e.index; has = has-part part e.has; export = e.export }

pub uses-part : {K : List Known} {W V : List Wiring} {r : RevisionId} → Part K W V r → {p u : List ℕ} → ExportUses K W r p u → ExportUses K V r p u
uses-part part e = record { owner = e.owner; index = e.index; has = has-part part e.has; export = e.export; uses = e.uses }

pub exports-same : {K : List Known} {W V : List Wiring} {r : RevisionId} {p : List ℕ} → Part K W V r → Part K V W r → Exports K W r p → Exports K V r p
exports-same to from e = record { exported = export-part to e.exported; stays = λ x. e.stays (elsewhere-part from x) }

pub reexport-is_bundle : {K : List Known} {W : List Wiring} {r x : RevisionId} → Reexports K W r x → BundleWire K W r x
reexport-is_bundle w = record { wire = w.wire; has = w.has; bundle = w.bundle; provider = w.provider }

-- R holds the revisions of which W and V hold the same; it is closed under reexported wires
pub gives-same : {K : List Known} {W V : List Wiring} {p : List ℕ} (R : RevisionId → Type 0) → ((c : RevisionId) → R c → Part K W V c) → ((c : RevisionId) → R c → Part K V W c) →
    ((c d : RevisionId) → R c → Reexports K W c d → R d) → {b x : RevisionId} → R b → GivesPackage K W p b x → GivesPackage K V p b x
gives-same R to from closed b-in (substituted w other e) = substituted (package-part (to _ b-in) w) other (export-part (to _ b-in) e)
gives-same R to from closed b-in (itself e) = itself (exports-same (to _ b-in) (from _ b-in) e)
gives-same R to from closed b-in (reexported w g) = reexported (reexport-part (to _ b-in) w) (gives-same R to from closed (closed _ _ b-in w) g)

pub sources-same : {K : List Known} {W V : List Wiring} {p : List ℕ} (R : RevisionId → Type 0) → ((c : RevisionId) → R c → Part K W V c) → ((c : RevisionId) → R c → Part K V W c) →
    ((c d : RevisionId) → R c → Reexports K W c d → R d) → {r x : RevisionId} → Part K W V r → Part K V W r → ((c : RevisionId) → BundleWire K W r c → R c) → Sources K W r p x → Sources K V r p x
sources-same R to from closed here back starts (inl w) = inl (package-part here w)
sources-same R to from closed here back starts (inr (none, inl (c, w, g))) = inr ((λ y. none (y.0, package-part back y.1)), inl (c, bundle-part here w, gives-same R to from closed (starts c w) g))
sources-same R to from closed here back starts (inr (none, inr (same, e))) = inr ((λ y. none (y.0, package-part back y.1)), inr (same, exports-same here back e))

-- the same pairs, where the sources and the uses of A are the same
pub implied-same : {K : List Known} {W V : List Wiring} {A B : RevisionId → Type 0} → ((r : RevisionId) → A r → B r) → ((r : RevisionId) (p : List ℕ) (x : RevisionId) → A r → Sources K W r p x → Sources K V r p x) →
    ((e : RevisionId) (p u : List ℕ) → A e → ExportUses K W e p u → ExportUses K V e p u) → {r e : RevisionId} {u : List ℕ} → Implied K W A r e u → A e × Implied K V B r e u
implied-same up sources kept (seen ar s ae us) = (ae, seen (up _ ar) (sources _ _ _ ar s) (up _ ae) (kept _ _ _ ae us))
implied-same up sources kept (follows i s ad us) =
    let before = implied-same up sources kept i in
    (ad, follows before.1 (sources _ _ _ before.0 s) (up _ ad) (kept _ _ _ ad us))

-- the first revision of a pair is one of A
pub implied-starts : {K : List Known} {W : List Wiring} {A : RevisionId → Type 0} {r e : RevisionId} {u : List ℕ} → Implied K W A r e u → A r
implied-starts (seen ar s ae us) = ar
implied-starts (follows i s ad us) = implied-starts i

pub offer-same : {K : List Known} {W V : List Wiring} (c : CapRef) → Part K W V c.provider → Part K V W c.provider → OnOffer K W c → OnOffer K V c
offer-same c to from o = record { has = has-part to o.has; stays = λ p e x. o.stays p e (elsewhere-part from x) }
