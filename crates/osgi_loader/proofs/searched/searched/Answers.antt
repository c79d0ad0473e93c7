-- The provider of the wire alone, or the required bundles and the revision itself.
use Rattle.std.proofs.Common.{◌≡◌, ◌≢◌, ◌==◌, ◌∙◌, Bool, true, false, not, ap, refl, subst, sym}
use Rattle.std.specs.Prelude.{Option, unwrap_or}
use Rattle.std.proofs.lemmas.Bool.{eq-eqb, eqb-true}
use Rattle.osgi_base.specs.declared.ids.RevisionId.{RevisionId}
use Rattle.osgi_ops.specs.Loading.{all_with_fragments, AreRequired}
use Rattle.osgi_loader.specs.computed.Wires.{provider_of, wires_of}
use Rattle.osgi_loader.proofs.Hosts.{searched-import, searched-own}
use Rattle.osgi_loader.proofs.searched.searched.Goals as goal

pub returns-then-ne : goal.returns-then-ne
returns-then-ne c =
    let world = c.args.wirings.now.world in
    let r = c.args.revision in
    let x = c.unwrap_or-provider.result in
    let is : x ≡ unwrap_or (provider_of world c.args.package.now r) r = c.unwrap_or-provider.ensures ∙ ap (λ (o : Option RevisionId). unwrap_or o r) c.provider_of.ensures.provider in
    let other : not (x.0 == r.0) ≡ true = sym c.ne.ensures ∙ c.if-ne.true in
    let elsewhere : x ≢ r = λ same. let bad : true ≡ false = sym other ∙ ap not (eq-eqb x.0 r.0 (ap (λ (y : RevisionId). y.0) same)) in cc bad in
    record { searched = rw c.in_ok-from_array.ensures.items (searched-import world c.args.wirings.now.issued c.requires.holds c.args.package.now r x is elsewhere) }

not-false : (t : Bool) → not t ≡ false → t ≡ true
not-false true e = refl
not-false false e = absurd (cc e)

pub returns : goal.returns
returns c =
    let world = c.args.wirings.now.world in
    let r = c.args.revision in
    let p = c.args.package.now in
    let x = c.unwrap_or-provider.result in
    let is : x ≡ unwrap_or (provider_of world p r) r = c.unwrap_or-provider.ensures ∙ ap (λ (o : Option RevisionId). unwrap_or o r) c.provider_of.ensures.provider in
    let one : (x.0 == r.0) ≡ true = not-false (x.0 == r.0) (sym c.ne.ensures ∙ c.if-ne.false) in
    let same : x ≡ r = λ i. record { 0 = eqb-true x.0 r.0 one i } in
    let hosts = c.in_ok-hosts.hosts.items in
    let required : AreRequired world p (wires_of world r) (all_with_fragments world hosts) = subst (λ ws. AreRequired world p ws (all_with_fragments world hosts)) c.wires_of.ensures.wires c.in_ok-hosts.ensures.required in
    record { searched = rw c.in_ok-push.ensures.items (searched-own world c.args.wirings.now.issued c.requires.holds p r hosts (sym is ∙ same) required) }
