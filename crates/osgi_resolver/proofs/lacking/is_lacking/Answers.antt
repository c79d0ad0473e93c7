-- A requirement of the root that is needed is one of a member's payload, and the path has listed its candidates.
use Rattle.std.proofs.Common.{◌≡◌, ◌==◌, ◌∙◌, List, [], ◌∷◌, ◌<◌, ap, arith, inl, length, refl, subst, sym, true}
use Rattle.std.proofs.lemmas.Bool.{eqb-true, false≢true}
use Rattle.osgi_base.specs.declared.ids.RevisionId.{RevisionId}
use Rattle.osgi_resolver_hopeless.proofs.Answering.{known-is, no}
use Rattle.osgi_resolver_path.specs.Standing.{made}
use Rattle.osgi_resolver_theory.proofs.States.{in-payload, root-member}
use Rattle.osgi_world.specs.Lookups.{IsNeeded, requirement_count}
use Rattle.osgi_world.specs.declared.wiring.CapRef.{CapRef}
use Rattle.osgi_resolver.proofs.lacking.is_lacking.Goals as goal

none : (list : List CapRef) → (length list == 0) ≡ true → list ≡ []
none [] e = refl
none (c ∷ list) e = absurd (omega (arith, eqb-true (length (c ∷ list)) 0 e))

pub returns-then-not-is_needed : goal.returns-then-not-is_needed
returns-then-not-is_needed c = record {
  lacking = λ P L owner below.
      let known = known-is c.args.path.now P L c.known.result.now (c.known.ensures.known ∙ ap (λ w. w.known) c.offers.ensures.world) in
      no (λ lack. false≢true (sym c.if-not-is_needed.true ∙ c.is_needed.ensures.needed.1 (subst (λ K. IsNeeded K c.args.requirement) (sym known) lack.needed)));
}

pub returns : goal.returns
returns c = record {
  lacking = λ P L owner below.
      let D = made P c.args.path.now in
      let known = known-is c.args.path.now P L c.known.result.now (c.known.ensures.known ∙ ap (λ w. w.known) c.offers.ensures.world) in
      let needed = subst (λ K. IsNeeded K c.args.requirement) known (c.is_needed.ensures.needed.0 c.if-not-is_needed.false) in
      let own = subst (λ (r : RevisionId). c.args.requirement.index < requirement_count P.world.known r) (sym owner) below in
      let are = c.candidates.ensures.candidates P L P.root (root-member P D) (in-payload P D P.root c.args.requirement (inl owner) own) needed.effective in (
        λ t. record { owner = owner; known = below; needed = needed; none = sym are ∙ none c.candidates.result.now (sym c.is_empty.ensures ∙ t) },
        λ lack. c.is_empty.ensures ∙ ap (λ (list : List CapRef). length list == 0) (are ∙ lack.none),
      );
}
