-- What is new has a rival, or none has.
use Rattle.std.proofs.Common.{inl, inr, refl, ◌∙◌, sym, subst}
use Rattle.osgi_space_rules.proofs.OneValue.{not_true}
use Rattle.osgi_resolver_hopeless.proofs.Answering.{known-is}
use Rattle.osgi_resolver_hopeless.proofs.Latest.{new-same, no-last}
use Rattle.osgi_world.specs.Consistency.{AreRivals}
use Rattle.osgi_resolver_hopeless.proofs.rivals.has_rivals.Goals as goal

pub returns-in_default : goal.returns-in_default
returns-in_default c = record {
  rivals = λ P L t. let f = t in cc;
  all = λ P last L h. absurd (no-last h.is_last.before last.value (sym h.is_last.word_is ∙ c.in_default.ensures.last));
}

pub returns-then-not-attached : goal.returns-then-not-attached
returns-then-not-attached c = record {
  rivals = λ P L t. let f = t in cc;
  all = λ P last L h.
      let s = c.args.path.now in
      let known = known-is s P L s.world.known refl in
      let one = h.rivals.new in
      let two = h.rivals.other in
      let r : AreRivals s.world.known one two = subst (λ K. AreRivals K one two) (sym known) h.rivals.rivals in
      let back : AreRivals s.world.known two one = record { different = λ e. r.different (sym e); name = sym r.name; current = (r.current.1, r.current.0); singletons = (r.singletons.1, r.singletons.0) } in
      let same = new-same P s last c.in-Some.last h.is_last (c.in-Some.ensures.last P L) in
      elim h.newly [
        | inl new ↦ elim (same one new) [
          | inl e ↦ absurd (not_true _ c.if-not-joined.true (c.may_one_have_rival-joined.ensures.all one two e r))
          | inr e ↦ absurd (not_true _ c.if-not-attached.true (c.may_one_have_rival-attached.ensures.all one two e r))
        ]
        | inr new ↦ elim (same two new) [
          | inl e ↦ absurd (not_true _ c.if-not-joined.true (c.may_one_have_rival-joined.ensures.all two one e back))
          | inr e ↦ absurd (not_true _ c.if-not-attached.true (c.may_one_have_rival-attached.ensures.all two one e back))
        ]
      ];
}

pub returns : goal.returns
returns c = record {
  rivals = λ P L t. (c.in_ok-has_any_rivals.ensures.rivals P L).0 t;
  all = λ P last L h. (c.in_ok-has_any_rivals.ensures.rivals P L).1 h.rivals;
}
