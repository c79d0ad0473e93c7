-- What is needed cannot be met where it has no candidate, or may have several wires, all of which are refused.
use Rattle.std.proofs.Common.{◌==◌, inl, inr, List, length, sym, ◌∙◌, ap, subst, IsTrue}
use Rattle.std.proofs.lemmas.Bool.{false≢true}
use Rattle.osgi_space_rules.proofs.OneValue.{not_true}
use Rattle.osgi_space_sources.proofs.Lengths.{empty-true}
use Rattle.osgi_resolver_hopeless.proofs.Answering.{known-is, no, yes}
use Rattle.osgi_resolver_hopeless.specs.computed.Stuck.{AreRefused}
use Rattle.osgi_resolver_path.specs.Standing.{made}
use Rattle.osgi_world.specs.Lookups.{IsNeeded, is_multiple}
use Rattle.osgi_world.specs.declared.wiring.CapRef.{CapRef}
use Rattle.osgi_resolver_hopeless.proofs.unmet.cannot_be_met.Goals as goal

pub returns-then-not-is_needed : goal.returns-then-not-is_needed
returns-then-not-is_needed c = record {
  unmet = λ P L is_member i.
      let known = known-is c.args.path.now P L c.known_at-known.result.now c.known_at-known.ensures.known in
      no (λ u. not_true _ c.if-not-is_needed.true (c.is_needed.ensures.needed.1 (subst (λ K. IsNeeded K c.args.requirement) (sym known) u.needed)));
}

pub returns-then-is_empty : goal.returns-then-is_empty
returns-then-is_empty c = record {
  unmet = λ P L is_member i.
      let known = known-is c.args.path.now P L c.known_at-known.result.now c.known_at-known.ensures.known in
      let needed = subst (λ K. IsNeeded K c.args.requirement) known (c.is_needed.ensures.needed.0 c.if-not-is_needed.false) in
      let are = c.candidates-candidates.ensures.candidates P L c.args.member is_member i needed.effective in
      yes (record { needed = needed; no_wire = inl (sym are ∙ empty-true c.candidates-candidates.result.now (sym c.is_empty.ensures ∙ c.if-is_empty.true)) });
}

pub returns-then-not-is_multiple : goal.returns-then-not-is_multiple
returns-then-not-is_multiple c = record {
  unmet = λ P L is_member i.
      let known = known-is c.args.path.now P L c.known_at-known.result.now c.known_at-known.ensures.known in
      let needed = subst (λ K. IsNeeded K c.args.requirement) known (c.is_needed.ensures.needed.0 c.if-not-is_needed.false) in
      let are = c.candidates-candidates.ensures.candidates P L c.args.member is_member i needed.effective in
      no (λ u. elim u.no_wire [
        | inl none ↦ false≢true (sym c.if-is_empty.false ∙ c.is_empty.ensures ∙ ap (λ (cs : List CapRef). length cs == 0) (are ∙ none))
        | inr m ↦ not_true _ c.if-not-is_multiple.true (c.is_multiple.ensures.multiple ∙ subst (λ K. IsTrue (is_multiple K c.args.requirement)) (sym known) m.0)
      ]);
}

pub returns : goal.returns
returns c = record {
  unmet = λ P L is_member i.
      let known = known-is c.args.path.now P L c.known_at-known.result.now c.known_at-known.ensures.known in
      let needed = subst (λ K. IsNeeded K c.args.requirement) known (c.is_needed.ensures.needed.0 c.if-not-is_needed.false) in
      let are = c.candidates-candidates.ensures.candidates P L c.args.member is_member i needed.effective in
      let refused = c.are_refused.ensures.refused P L in
      let Refused : List CapRef → Type 0 = AreRefused (made P c.args.path.now) c.args.member c.args.requirement in
      let multiple : IsTrue (is_multiple P.world.known c.args.requirement) = subst (λ K. IsTrue (is_multiple K c.args.requirement)) known (sym c.is_multiple.ensures.multiple ∙ c.if-not-is_multiple.false) in (
        λ t. record { needed = needed; no_wire = inr (multiple, subst Refused are (refused.0 t)) },
        λ u. elim u.no_wire [
          | inl none ↦ absurd (false≢true (sym c.if-is_empty.false ∙ c.is_empty.ensures ∙ ap (λ (cs : List CapRef). length cs == 0) (are ∙ none)))
          | inr m ↦ refused.1 (subst Refused (sym are) m.1)
        ],
      );
}
