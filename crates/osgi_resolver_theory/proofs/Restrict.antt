-- Wirings that hold, of each revision that they have in force, what consistent wirings hold, are consistent.
use Rattle.std.proofs.Common.{◌≡◌, ℕ, inl, inr, List}
use Rattle.osgi_base.specs.declared.ids.RevisionId.{RevisionId}
use Rattle.osgi_world.specs.Consistency.{AreDouble, Consistent}
use Rattle.osgi_world.specs.Lists.{In, Two}
use Rattle.osgi_world.specs.Lookups.{symbolic_name}
use Rattle.osgi_world.specs.Wirings.{Attached, HasWire, InForce, Owns, PackageWire, InUse}
use Rattle.osgi_world.specs.declared.wiring.Wire.{Wire}
use Rattle.osgi_world.specs.declared.wiring.Wiring.{Wiring}
use Rattle.osgi_world.specs.declared.world.Known.{Known}
use Rattle.osgi_resolver_theory.proofs.Agree.{Part, implied-same, offer-same, package-part}
use Rattle.osgi_resolver_theory.proofs.Inside.{clash-agree}
use Rattle.osgi_resolver_theory.specs.Cuts.{IsCut, IsInside, SameOf}

pub same-to : {K : List Known} {W V : List Wiring} {r : RevisionId} → SameOf W V r → Part K W V r
same-to s = record { attached = s.attached_to; wires = λ w h t. s.wires_to w h }

pub same-from : {K : List Known} {W V : List Wiring} {r : RevisionId} → SameOf W V r → Part K V W r
same-from s = record { attached = s.attached_from; wires = λ w h t. s.wires_from w h }

pub attached-holder : {W : List Wiring} {r f : RevisionId} → Attached W r f → InForce W r
attached-holder h = record { wiring = h.wiring; stands = h.stands; revision = h.revision }

pub wire-holder : {W : List Wiring} {r : RevisionId} {w : Wire} → HasWire W r w → InForce W r
wire-holder h = record { wiring = h.wiring; stands = h.stands; revision = h.revision }

owns-to : {W V : List Wiring} {r : RevisionId} → SameOf W V r → (o : RevisionId) → Owns W r o → Owns V r o
owns-to s o (inl e) = inl e
owns-to s o (inr a) = inr (s.attached_to o a)

owns-from : {W V : List Wiring} {r : RevisionId} → SameOf W V r → (o : RevisionId) → Owns V r o → Owns W r o
owns-from s o (inl e) = inl e
owns-from s o (inr a) = inr (s.attached_from o a)

present-to : (W V : List Wiring) → IsCut W V → (r : RevisionId) → InUse W r → InUse V r
present-to W V c r (inl i) = inl (c.in_force r i)
present-to W V c r (inr a) = inr (a.0, (c.same a.0 (attached-holder a.1)).attached_to r a.1)

package-to : (K : List Known) (W V : List Wiring) → IsCut W V → (r : RevisionId) (p : List ℕ) (x : RevisionId) → PackageWire K W r p x → PackageWire K V r p x
package-to K W V c r p x w = package-part (same-to (c.same r (wire-holder w.has))) w

pub cut-consistent : (K : List Known) (W V : List Wiring) → Consistent K V → IsCut W V →
    ((g : Wiring) → In g W → ¬ Two (AreDouble K) g.wires) → ((g : Wiring) → In g W → ¬ Two (λ e f. (symbolic_name K) e ≡ (symbolic_name K) f) g.fragments) → Consistent K W
cut-consistent K W V k c single one_version = record {
  coherent = record {
    rules = record {
      asked = λ r w h.
          let s = c.same r (wire-holder h) in
          elim (k.coherent.rules.asked r w (s.wires_to w h)) [ inl x ↦ inl ((owns-from s w.requirement.owner x.0.0, x.0.1), x.1) | inr d ↦ inr d ];
      single = single;
      mandatory = λ r q i h n.
          let s = c.same r i in
          let w = k.coherent.rules.mandatory r q (c.in_force r i) (owns-to s q.owner h.0, h.1) n in
          (w.0, s.wires_from w.0 w.1, w.2);
      provided = λ r w h. c.inside r w (wire-holder h) h;
      offered = λ r w h.
          let s = c.same w.capability.provider (c.inside r w (wire-holder h) h) in
          offer-same w.capability (same-from s) (same-to s) (k.coherent.rules.offered r w ((c.same r (wire-holder h)).wires_to w h));
      not_owner = λ r w h. k.coherent.rules.not_owner r w ((c.same r (wire-holder h)).wires_to w h);
      one_provider = λ r p x y a b. k.coherent.rules.one_provider r p x y (package-to K W V c r p x a) (package-to K W V c r p y b);
      attached = λ r f h. k.coherent.rules.attached r f ((c.same r (attached-holder h)).attached_to f h);
      one_version = one_version;
      singletons = λ r s a b. k.coherent.rules.singletons r s (present-to W V c r a) (present-to W V c s b);
    };
    uses = λ r e u i pair clash.
        let inside-v : IsInside V (InForce W) = λ x w j h. c.inside x w j ((c.same x j).wires_from w h) in
        let moved = clash-agree (InForce W) (λ x j. same-to (c.same x j)) (λ x j. same-from (c.same x j)) c.inside inside-v i pair clash in
        let everywhere = implied-same {B = λ x. Unit {0}} (λ x s. tt) (λ x p y s h. h) (λ x p v s h. h) moved.0 in
        k.coherent.uses r e u (c.in_force r i) everywhere.1 moved.1;
  };
  satisfied = λ r w h. k.satisfied r w ((c.same r (wire-holder h)).wires_to w h);
}
