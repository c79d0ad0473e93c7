-- A set of revisions that wires do not leave: its sources and pairs stay inside, and wirings outside it are of no matter.
use Rattle.std.proofs.Common.{ℕ, inl, inr, List, subst, sym}
use Rattle.osgi_base.specs.declared.ids.RevisionId.{RevisionId}
use Rattle.osgi_world.specs.Sources.{Clash, GivesPackage, Implied, Sources, follows, itself, reexported, seen, substituted}
use Rattle.osgi_world.specs.Wirings.{BundleWire, PackageWire, Reexports}
use Rattle.osgi_world.specs.declared.wiring.Wiring.{Wiring}
use Rattle.osgi_world.specs.declared.world.Known.{Known}
use Rattle.osgi_resolver_theory.proofs.Agree.{Part, implied-same, reexport-is_bundle, sources-same, uses-part}
use Rattle.osgi_resolver_theory.specs.Cuts.{IsInside}

pub package-inside : {K : List Known} {W : List Wiring} {R : RevisionId → Type 0} → IsInside W R → {r x : RevisionId} {p : List ℕ} → R r → PackageWire K W r p x → R x
package-inside {R = R} i r w = subst R w.provider (i _ w.wire r w.has)

pub bundle-inside : {K : List Known} {W : List Wiring} {R : RevisionId → Type 0} → IsInside W R → {r x : RevisionId} → R r → BundleWire K W r x → R x
bundle-inside {R = R} i r w = subst R w.provider (i _ w.wire r w.has)

pub reexport-inside : {K : List Known} {W : List Wiring} {R : RevisionId → Type 0} → IsInside W R → {r x : RevisionId} → R r → Reexports K W r x → R x
reexport-inside i r w = bundle-inside i r (reexport-is_bundle w)

pub gives-inside : {K : List Known} {W : List Wiring} {R : RevisionId → Type 0} {p : List ℕ} {b x : RevisionId} → IsInside W R → R b → GivesPackage K W p b x → R x
gives-inside i r (substituted w other e) = package-inside i r w
gives-inside i r (itself e) = r
gives-inside i r (reexported w g) = gives-inside i (reexport-inside i r w) g

pub sources-inside : {K : List Known} {W : List Wiring} {R : RevisionId → Type 0} {p : List ℕ} {r x : RevisionId} → IsInside W R → R r → Sources K W r p x → R x
sources-inside i r (inl w) = package-inside i r w
sources-inside i r (inr (none, inl (c, w, g))) = gives-inside i (bundle-inside i r w) g
sources-inside {R = R} i r (inr (none, inr (same, e))) = subst R (sym same) r

-- all pairs of a revision inside are made inside
pub implied-inside : {K : List Known} {W : List Wiring} {R A : RevisionId → Type 0} {r e : RevisionId} {u : List ℕ} → IsInside W R → R r → Implied K W A r e u → R e × Implied K W R r e u
implied-inside i r (seen ar s ae us) =
    let e = sources-inside i r s in
    (e, seen r s e us)
implied-inside i r (follows before s ad us) =
    let b = implied-inside i r before in
    let d = sources-inside i b.0 s in
    (d, follows b.1 s d us)

-- wirings that hold the same inside R give the same sources there
pub sources-agree : {K : List Known} {W V : List Wiring} (R : RevisionId → Type 0) → ((c : RevisionId) → R c → Part K W V c) → ((c : RevisionId) → R c → Part K V W c) → IsInside W R →
    {r x : RevisionId} {p : List ℕ} → R r → Sources K W r p x → Sources K V r p x
sources-agree R to from i r s = sources-same R to from (λ c d rc w. reexport-inside i rc w) (to _ r) (from _ r) (λ c w. bundle-inside i r w) s

-- so what violates uses inside R in one of them does so in the other: to remove wirings outside R breaks nothing
pub clash-agree : {K : List Known} {W V : List Wiring} (R : RevisionId → Type 0) → ((c : RevisionId) → R c → Part K W V c) → ((c : RevisionId) → R c → Part K V W c) → IsInside W R → IsInside V R →
    {A : RevisionId → Type 0} {r e : RevisionId} {u : List ℕ} → R r → Implied K W A r e u → Clash K W r e u → Implied K V R r e u × Clash K V r e u
clash-agree R to from i j r pair c =
    let inside = implied-inside i r pair in
    let moved = implied-same (λ x rx. rx) (λ x p y rx s. sources-agree R to from i rx s) (λ e p u re. uses-part (to e re)) inside.1 in (
      moved.1,
      record {
        ours = c.ours;
        ours_in = sources-agree R to from i r c.ours_in;
        ours_out = λ s. c.ours_out (sources-agree R from to j inside.0 s);
        theirs = c.theirs;
        theirs_in = sources-agree R to from i inside.0 c.theirs_in;
        theirs_out = λ s. c.theirs_out (sources-agree R from to j r s);
      },
    )
