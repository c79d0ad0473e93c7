-- The next of the name, and the first that is another one.
use Rattle.std.proofs.Common.{◌≡◌, ◌↔◌, ◌∙◌, ℕ, List, ap, sym, subst, get_or}
use Rattle.osgi_base.specs.declared.ids.RevisionId.{RevisionId}
use Rattle.osgi_space_rules.proofs.Grow.{at_in, each_done, each_step}
use Rattle.osgi_space_rules.proofs.Items.{no_revision, there}
use Rattle.osgi_space_rules.proofs.OneValue.{not_true}
use Rattle.osgi_resolver_hopeless.proofs.Answering.{no, yes}
use Rattle.osgi_resolver_hopeless.proofs.SameNames.{name-is, rival-from, rival-of, unknown-no_singleton}
use Rattle.osgi_resolver_hopeless.specs.computed.Rivals.{IsCurrentSingleton, IsOther}
use Rattle.osgi_world.specs.Lists.{In}
use Rattle.osgi_world.specs.Lookups.{symbolic_name, IsKnown}
use Rattle.osgi_world.specs.declared.world.Known.{Known}
use Rattle.osgi_world.specs.declared.world.World.{World}
use Rattle.osgi_resolver_hopeless.proofs.rivals.has_rival.Goals as goal

pub returns-then-not-is_current_singleton : goal.returns-then-not-is_current_singleton
returns-then-not-is_current_singleton c = record {
  rival = no (λ h. not_true _ c.if-not-is_current_singleton.true (c.is_current_singleton.ensures.singleton.1 (subst (λ K. IsCurrentSingleton K c.args.revision) (sym c.known_at-known.ensures.known) (h.2.current.0, h.2.singletons.0))));
}

pub returns-in_default : goal.returns-in_default
returns-in_default c = record {
  rival = no (λ h.
      let single = c.is_current_singleton.ensures.singleton.0 c.if-not-is_current_singleton.false in
      unknown-no_singleton c.known_at-known.result.now c.args.revision (sym c.in_default.ensures.revision) single.1);
}

pub loop-other-init : goal.loop-other-init
loop-other-init c = λ t here. elim here [ ]

pub loop-other-preserved : goal.loop-other-preserved
loop-other-preserved c =
    let named = c.named-named.result.now in
    let i = c.loop-other.other-index in
    let within = c.loop-other-test.true in
    each_step (λ (t : RevisionId). ¬ IsOther c.args.path.now c.args.new.now c.args.revision t) named i (get_or named i no_revision) within (there named i no_revision within) c.loop-other.invariant
    (λ o. not_true _ c.if-is_other.false (c.is_other.ensures.other.1 o))

pub returns-then-is_other : goal.returns-then-is_other
returns-then-is_other c =
    let s = c.args.path.now in
    let r = c.args.revision in
    let named = c.named-named.result.now in
    let i = c.loop-other.other-index in
    let within = c.loop-other-test.true in
    let other = get_or named i no_revision in
    let name : symbolic_name c.known_at-known.result.now r ≡ c.in-Some.says.now.name = name-is c.known_at-known.result.now r c.in-Some.says.now (sym c.in-Some.ensures.revision) in
    let same = ap (λ (K : List Known). symbolic_name K r) c.known_at-known.ensures.known in
    let world = c.offers.ensures.world in
    let are : (t : RevisionId) → In t named ↔ (IsKnown s.world.known t × (symbolic_name s.world.known t ≡ symbolic_name s.world.known r)) = λ t.
    subst (λ (n : List ℕ). In t named ↔ (IsKnown s.world.known t × (symbolic_name s.world.known t ≡ n))) (sym name ∙ same)
    (subst (λ (w : World). In t named ↔ (IsKnown w.known t × (symbolic_name w.known t ≡ c.in-Some.says.now.name))) world (c.named-named.ensures.named t)) in
    let single = subst (λ K. IsCurrentSingleton K r) c.known_at-known.ensures.known (c.is_current_singleton.ensures.singleton.0 c.if-not-is_current_singleton.false) in
    record { rival = yes (rival-of s c.args.new.now r named are single other (at_in named i other within (there named i no_revision within)) (c.is_other.ensures.other.0 c.if-is_other.true)) }

pub returns : goal.returns
returns c =
    let s = c.args.path.now in
    let r = c.args.revision in
    let named = c.named-named.result.now in
    let name : symbolic_name c.known_at-known.result.now r ≡ c.in-Some.says.now.name = name-is c.known_at-known.result.now r c.in-Some.says.now (sym c.in-Some.ensures.revision) in
    let same = ap (λ (K : List Known). symbolic_name K r) c.known_at-known.ensures.known in
    let world = c.offers.ensures.world in
    let are : (t : RevisionId) → In t named ↔ (IsKnown s.world.known t × (symbolic_name s.world.known t ≡ symbolic_name s.world.known r)) = λ t.
    subst (λ (n : List ℕ). In t named ↔ (IsKnown s.world.known t × (symbolic_name s.world.known t ≡ n))) (sym name ∙ same)
    (subst (λ (w : World). In t named ↔ (IsKnown w.known t × (symbolic_name w.known t ≡ c.in-Some.says.now.name))) world (c.named-named.ensures.named t)) in
    let single = subst (λ K. IsCurrentSingleton K r) c.known_at-known.ensures.known (c.is_current_singleton.ensures.singleton.0 c.if-not-is_current_singleton.false) in
    let none = each_done (λ (t : RevisionId). ¬ IsOther s c.args.new.now r t) named c.loop-other.other-index c.loop-other-test.false c.loop-other.invariant in
    record { rival = no (λ h. let t = rival-from s c.args.new.now r named are single h in none t.0 t.1 t.2) }
