-- The next of the name, and all of them.
use Rattle.std.proofs.Common.{◌≡◌, ◌↔◌, ◌∙◌, ℕ, List, IsTrue, ap, refl, sym, subst, get_or}
use Rattle.osgi_base.specs.declared.ids.RevisionId.{RevisionId}
use Rattle.osgi_space_rules.proofs.Grow.{each_done, each_step}
use Rattle.osgi_space_rules.proofs.Items.{no_revision, there}
use Rattle.osgi_space_rules.proofs.OneValue.{not_true}
use Rattle.osgi_resolver_hopeless.proofs.SameNames.{current-known, name-is, unknown-no_singleton}
use Rattle.osgi_world.specs.Consistency.{AreRivals}
use Rattle.osgi_world.specs.Lists.{In}
use Rattle.osgi_world.specs.Lookups.{is_singleton, symbolic_name, IsKnown}
use Rattle.osgi_world.specs.declared.world.Known.{Known}
use Rattle.osgi_world.specs.declared.world.World.{World}
use Rattle.osgi_resolver_hopeless.proofs.rivals.may_have_rival.Goals as goal

pub returns-in_default : goal.returns-in_default
returns-in_default c = record {
  all = λ t r. absurd (unknown-no_singleton c.known_at.result.now c.args.revision (sym c.in_default.ensures.revision) (subst (λ (K : List Known). IsTrue (is_singleton K c.args.revision)) (sym c.known_at.ensures.known) r.singletons.0));
}

pub loop-other-init : goal.loop-other-init
loop-other-init c = λ t here. elim here [ ]

pub loop-other-preserved : goal.loop-other-preserved
loop-other-preserved c =
    let named = c.named-named.result.now in
    let i = c.loop-other.other-index in
    let within = c.loop-other-test.true in
    each_step (λ (t : RevisionId). ¬ AreRivals c.args.path.now.world.known c.args.revision t) named i (get_or named i no_revision) within (there named i no_revision within) c.loop-other.invariant
    (λ r. not_true _ c.if-may_be_rival.false (c.may_be_rival.ensures.all r))

pub returns-then-may_be_rival : goal.returns-then-may_be_rival
returns-then-may_be_rival c = record { all = λ t r. refl }

pub returns : goal.returns
returns c =
    let s = c.args.path.now in
    let f = c.args.revision in
    let named = c.named-named.result.now in
    let name : symbolic_name c.known_at.result.now f ≡ c.in-Some.says.now.name = name-is c.known_at.result.now f c.in-Some.says.now (sym c.in-Some.ensures.revision) in
    let same = ap (λ (K : List Known). symbolic_name K f) c.known_at.ensures.known in
    let are : (t : RevisionId) → In t named ↔ (IsKnown s.world.known t × (symbolic_name s.world.known t ≡ symbolic_name s.world.known f)) = λ t.
    subst (λ (n : List ℕ). In t named ↔ (IsKnown s.world.known t × (symbolic_name s.world.known t ≡ n))) (sym name ∙ same)
    (subst (λ (w : World). In t named ↔ (IsKnown w.known t × (symbolic_name w.known t ≡ c.in-Some.says.now.name))) c.offers.ensures.world (c.named-named.ensures.named t)) in
    let none = each_done (λ (t : RevisionId). ¬ AreRivals s.world.known f t) named c.loop-other.other-index c.loop-other-test.false c.loop-other.invariant in
    record { all = λ t r. absurd (none t ((are t).1 (current-known s.world.known t r.current.1, sym r.name)) r) }
