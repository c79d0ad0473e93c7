-- Wirings that are dropped, with all that have a wire to them, leave consistent wirings.
use Rattle.std.proofs.Common.{◌≡◌, Bool, IsTrue, List, filter, sym, subst}
use Rattle.osgi_base.specs.declared.ids.RevisionId.{RevisionId}
use Rattle.osgi_world.specs.Consistency.{Consistent}
use Rattle.osgi_world.specs.Wirings.{HasWire, InForce, IsWorld}
use Rattle.osgi_world.specs.declared.wiring.Wire.{Wire}
use Rattle.osgi_world.specs.declared.wiring.Wiring.{Wiring}
use Rattle.osgi_world.specs.declared.world.Known.{Known}
use Rattle.osgi_resolver_theory.proofs.Lists.{filter-in, in-filter}
use Rattle.osgi_resolver_theory.proofs.Restrict.{cut-consistent}
use Rattle.osgi_resolver_theory.proofs.Twos.{two-unfilter}
use Rattle.osgi_resolver_theory.specs.Cuts.{IsCut}

-- the wirings that are kept
abbrev pub kept : (RevisionId → Bool) → List Wiring → List Wiring
kept keeps W = filter (λ g. keeps g.revision) W

keeps-in_force : (keeps : RevisionId → Bool) (W : List Wiring) (r : RevisionId) → InForce (kept keeps W) r → IsTrue (keeps r)
keeps-in_force keeps W r i = subst (λ x. IsTrue (keeps x)) i.revision (filter-in (λ (g : Wiring). keeps g.revision) W i.wiring i.stands).1

in_force-keeps : (keeps : RevisionId → Bool) (W : List Wiring) (r : RevisionId) → InForce W r → IsTrue (keeps r) → InForce (kept keeps W) r
in_force-keeps keeps W r i t = record { wiring = i.wiring; stands = in-filter (λ (g : Wiring). keeps g.revision) W i.wiring i.stands (subst (λ x. IsTrue (keeps x)) (sym i.revision) t); revision = i.revision }

-- what is kept has its wires to what is kept
pub kept-cut : (K : List Known) (keeps : RevisionId → Bool) (W : List Wiring) → Consistent K W → ((r : RevisionId) (w : Wire) → HasWire W r w → IsTrue (keeps r) → IsTrue (keeps w.capability.provider)) → IsCut (kept keeps W) W
kept-cut K keeps W c closed = record {
  in_force = λ r i. record { wiring = i.wiring; stands = (filter-in (λ (g : Wiring). keeps g.revision) W i.wiring i.stands).0; revision = i.revision };
  same = λ r i.
      let t = keeps-in_force keeps W r i in
      record {
        attached_to = λ f h. record { wiring = h.wiring; stands = (filter-in (λ (g : Wiring). keeps g.revision) W h.wiring h.stands).0; revision = h.revision; has = h.has };
        attached_from = λ f h. record { wiring = h.wiring; stands = in-filter (λ (g : Wiring). keeps g.revision) W h.wiring h.stands (subst (λ x. IsTrue (keeps x)) (sym h.revision) t); revision = h.revision; has = h.has };
        wires_to = λ w h. record { wiring = h.wiring; stands = (filter-in (λ (g : Wiring). keeps g.revision) W h.wiring h.stands).0; revision = h.revision; has = h.has };
        wires_from = λ w h. record { wiring = h.wiring; stands = in-filter (λ (g : Wiring). keeps g.revision) W h.wiring h.stands (subst (λ x. IsTrue (keeps x)) (sym h.revision) t); revision = h.revision; has = h.has };
      };
  inside = λ r w i h.
      let t = keeps-in_force keeps W r i in
      let there : HasWire W r w = record { wiring = h.wiring; stands = (filter-in (λ (g : Wiring). keeps g.revision) W h.wiring h.stands).0; revision = h.revision; has = h.has } in
      in_force-keeps keeps W w.capability.provider (c.coherent.rules.provided r w there) (closed r w there t);
}

pub kept-consistent : (K : List Known) (keeps : RevisionId → Bool) (W : List Wiring) → Consistent K W → ((r : RevisionId) (w : Wire) → HasWire W r w → IsTrue (keeps r) → IsTrue (keeps w.capability.provider)) → Consistent K (kept keeps W)
kept-consistent K keeps W c closed = cut-consistent K (kept keeps W) W c (kept-cut K keeps W c closed)
    (λ g i. c.coherent.rules.single g (filter-in (λ (g : Wiring). keeps g.revision) W g i).0) (λ g i. c.coherent.rules.one_version g (filter-in (λ (g : Wiring). keeps g.revision) W g i).0)

pub kept-world : (K : List Known) (keeps : RevisionId → Bool) (W : List Wiring) → IsWorld K W → IsWorld K (kept keeps W)
kept-world K keeps W w = record {
  known_once = w.known_once;
  known = λ g i. w.known g (filter-in (λ (g : Wiring). keeps g.revision) W g i).0;
  hosts = λ g i. w.hosts g (filter-in (λ (g : Wiring). keeps g.revision) W g i).0;
  once = λ t. w.once (two-unfilter (λ (g h : Wiring). g.revision ≡ h.revision) (λ (g : Wiring). keeps g.revision) W t);
}
