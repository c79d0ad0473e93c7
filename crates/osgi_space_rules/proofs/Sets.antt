-- The sets of an index, from what the wirings add to them.
use Rattle.std.proofs.Common.{◌≡◌, inl, inr, List, ap, sym, subst}
use Rattle.osgi_base.specs.declared.ids.RevisionId.{RevisionId}
use Rattle.osgi_space_rules.specs.computed.Growing.{Grows, Nothing, AnyOf}
use Rattle.osgi_space_rules.specs.computed.Indexed.{AreAttached, AreInForce, AreWired}
use Rattle.osgi_space_rules.specs.computed.Keys.{attachment, wired_place}
use Rattle.osgi_space_rules.specs.declared.keys.Attachment.{Attachment}
use Rattle.osgi_space_rules.specs.declared.keys.WiredPlace.{WiredPlace}
use Rattle.osgi_world.specs.Lists.{In}
use Rattle.osgi_world.specs.declared.wiring.ReqRef.{ReqRef}
use Rattle.osgi_world.specs.declared.wiring.Wiring.{Wiring}

pub in_force_is : (items : List RevisionId) (W : List Wiring) → Grows Nothing (λ key. In key items) (λ (g : Wiring) key. key ≡ g.revision) W → AreInForce items W
in_force_is items W grown r = (
  λ here. elim ((grown r).0 here) [ inl n ↦ absurd n | inr some ↦ record { wiring = some.0; stands = some.1; revision = sym some.2 } ],
  λ f. (grown r).1 (inr (f.wiring, f.stands, sym f.revision)),
)

pub attached_is : (items : List Attachment) (W : List Wiring) → Grows Nothing (λ key. In key items) (λ (g : Wiring) key. AnyOf (λ f. key ≡ attachment g.revision f) g.fragments) W → AreAttached items W
attached_is items W grown h f = (
  λ here. elim ((grown (attachment h f)).0 here) [
    | inl n ↦ absurd n
    | inr some ↦ record {
      wiring = some.0;
      stands = some.1;
      revision = sym (ap (λ (a : Attachment). a.host) some.2.2);
      has = subst (λ x. In x some.0.fragments) (sym (ap (λ (a : Attachment). a.fragment) some.2.2)) some.2.1;
    }
  ],
  λ a. (grown (attachment h f)).1 (inr (a.wiring, a.stands, (f, a.has, ap (λ r. attachment r f) (sym a.revision)))),
)

asked_same : (r s : RevisionId) (q n : ReqRef) → wired_place r q ≡ wired_place s n → n ≡ q
asked_same r s q n same = let back = sym same in λ i. record { owner = (back i).requirement.owner; index = (back i).requirement.index }

pub wired_is : (items : List WiredPlace) (W : List Wiring) → Grows Nothing (λ key. In key items) (λ (g : Wiring) key. AnyOf (λ w. key ≡ wired_place g.revision w.requirement) g.wires) W → AreWired items W
wired_is items W grown r q = (
  λ here. elim ((grown (wired_place r q)).0 here) [
    | inl n ↦ absurd n
    | inr some ↦ let w = some.2.0 in
        let same : wired_place r q ≡ wired_place some.0.revision w.requirement = some.2.2 in
        (w, record { wiring = some.0; stands = some.1; revision = sym (ap (λ (p : WiredPlace). p.revision) same); has = some.2.1 }, asked_same r some.0.revision q w.requirement same)
  ],
  λ is.
      let held = is.1 in
      let same : wired_place r q ≡ wired_place held.wiring.revision is.0.requirement = λ i. wired_place (sym held.revision i) (sym is.2 i) in
      (grown (wired_place r q)).1 (inr (held.wiring, held.stands, (is.0, held.has, same))),
)
