-- The next of the name, and the first that is another fragment.
use Rattle.std.proofs.Common.{◌≡◌, ◌↔◌, ◌∙◌, ℕ, List, ap, refl, sym, subst, get_or}
use Rattle.osgi_base.specs.declared.ids.RevisionId.{RevisionId}
use Rattle.osgi_space_rules.proofs.Grow.{at_in, each_done, each_step}
use Rattle.osgi_space_rules.proofs.Items.{no_revision, there}
use Rattle.osgi_space_rules.proofs.OneValue.{not_true}
use Rattle.osgi_resolver_hopeless.proofs.Answering.{known-is, no, yes}
use Rattle.osgi_resolver_hopeless.proofs.Newly.{fragment-current, unknown-not_current}
use Rattle.osgi_resolver_hopeless.proofs.SameNames.{current-known, name-is}
use Rattle.osgi_resolver_hopeless.specs.computed.Stuck.{IsOtherFragment, SameName}
use Rattle.osgi_resolver_path.specs.Standing.{made}
use Rattle.osgi_world.specs.Lists.{In}
use Rattle.osgi_world.specs.Lookups.{is_current, symbolic_name, IsKnown}
use Rattle.osgi_world.specs.declared.world.Known.{Known}
use Rattle.osgi_world.specs.declared.world.World.{World}
use Rattle.osgi_resolver_hopeless.proofs.stuck.has_namesake.Goals as goal

pub returns-in_default : goal.returns-in_default
returns-in_default c = record {
  namesake = λ P L is_member i. no (λ h.
      let known = known-is c.args.path.now P L c.known_at.result.now c.known_at.ensures.known in
      let current = fragment-current P L.is (made P c.args.path.now) c.args.member c.args.fragment i in
      unknown-not_current c.known_at.result.now c.args.fragment (sym c.in_default.ensures.revision) (subst (λ (K : List Known). Rattle.std.proofs.Common.IsTrue (is_current K c.args.fragment)) (sym known) current));
}

pub loop-other-init : goal.loop-other-init
loop-other-init c = λ P L is_member t here. elim here [ ]

pub loop-other-preserved : goal.loop-other-preserved
loop-other-preserved c = λ P L is_member.
    let named = c.named-named.result.now in
    let i = c.loop-other.other-index in
    let within = c.loop-other-test.true in
    each_step (λ (t : RevisionId). ¬ IsOtherFragment P (made P c.args.path.now) c.args.member c.args.fragment t) named i (get_or named i no_revision) within (there named i no_revision within) (c.loop-other.invariant P L is_member)
    (λ o. not_true _ c.if-is_other_fragment.false ((c.is_other_fragment.ensures.other P L is_member).1 o))

pub returns-then-is_other_fragment : goal.returns-then-is_other_fragment
returns-then-is_other_fragment c =
    let s = c.args.path.now in
    let f = c.args.fragment in
    let named = c.named-named.result.now in
    let name : symbolic_name c.known_at.result.now f ≡ c.in-Some.says.now.name = name-is c.known_at.result.now f c.in-Some.says.now (sym c.in-Some.ensures.revision) in
    let same = ap (λ (K : List Known). symbolic_name K f) c.known_at.ensures.known in
    let are : (t : RevisionId) → In t named ↔ (IsKnown s.world.known t × (symbolic_name s.world.known t ≡ symbolic_name s.world.known f)) = λ t.
    subst (λ (n : List ℕ). In t named ↔ (IsKnown s.world.known t × (symbolic_name s.world.known t ≡ n))) (sym name ∙ same)
    (subst (λ (w : World). In t named ↔ (IsKnown w.known t × (symbolic_name w.known t ≡ c.in-Some.says.now.name))) c.offers.ensures.world (c.named-named.ensures.named t)) in
    let i = c.loop-other.other-index in
    let within = c.loop-other-test.true in
    let other = get_or named i no_revision in
    record {
      namesake = λ P L is_member j.
          let same_name : SameName s.world.known f other = sym ((are other).0 (at_in named i other within (there named i no_revision within))).1 in
          yes (other, (c.is_other_fragment.ensures.other P L is_member).0 c.if-is_other_fragment.true, subst (λ (K : List Known). SameName K f other) (known-is s P L s.world.known refl) same_name);
    }

pub returns : goal.returns
returns c =
    let s = c.args.path.now in
    let f = c.args.fragment in
    let named = c.named-named.result.now in
    let name : symbolic_name c.known_at.result.now f ≡ c.in-Some.says.now.name = name-is c.known_at.result.now f c.in-Some.says.now (sym c.in-Some.ensures.revision) in
    let same = ap (λ (K : List Known). symbolic_name K f) c.known_at.ensures.known in
    let are : (t : RevisionId) → In t named ↔ (IsKnown s.world.known t × (symbolic_name s.world.known t ≡ symbolic_name s.world.known f)) = λ t.
    subst (λ (n : List ℕ). In t named ↔ (IsKnown s.world.known t × (symbolic_name s.world.known t ≡ n))) (sym name ∙ same)
    (subst (λ (w : World). In t named ↔ (IsKnown w.known t × (symbolic_name w.known t ≡ c.in-Some.says.now.name))) c.offers.ensures.world (c.named-named.ensures.named t)) in
    record {
      namesake = λ P L is_member j. no (λ h.
          let known = known-is s P L s.world.known refl in
          let D = made P s in
          let none = each_done (λ (t : RevisionId). ¬ IsOtherFragment P D c.args.member f t) named c.loop-other.other-index c.loop-other-test.false (c.loop-other.invariant P L is_member) in
          let is_known : IsKnown s.world.known h.0 = subst (λ (K : List Known). IsKnown K h.0) (sym known) (current-known P.world.known h.0 (fragment-current P L.is D c.args.member h.0 h.1.0)) in
          let same_name : SameName s.world.known f h.0 = subst (λ (K : List Known). SameName K f h.0) (sym known) h.2 in
          none h.0 ((are h.0).1 (is_known, sym same_name)) h.1);
    }
