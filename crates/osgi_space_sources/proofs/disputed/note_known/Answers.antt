-- Each revision that is an end is noted, and what was noted before stays so.
use Rattle.std.proofs.Common.{◌∙◌, inl, inr, sym, subst}
use Rattle.std.proofs.lemmas.List.{take_all}
use Rattle.osgi_world.specs.Lists.{In}
use Rattle.osgi_world.specs.declared.world.Known.{Known}
use Rattle.osgi_space_rows.specs.Rows.{OwnExport}
use Rattle.osgi_space_rows.proofs.Payload.{in-more}
use Rattle.osgi_space_rows.proofs.Stepped.{in-one}
use Rattle.osgi_space_sources.specs.computed.Disputes.{IsNotedEnd, IsNoted}
use Rattle.osgi_space_sources.proofs.disputed.note_known.Goals as goal

pub loop-each-preserved : goal.loop-each-preserved
loop-each-preserved c =
    let each = c.each-item.result in
    let now = c.loop-each.possible.disputed in
    let note = c.in_ok-note_own.ensures in
    record {
      noted = λ k p at end own. elim ((in-more each k c.args.known.now c.loop-each.each-index c.loop-each-test.true c.each-item.is).0 at) [
        | inl before ↦ note.nothing_lost p k.id.0 (c.loop-each.invariant.noted k p before end own)
        | inr new ↦
            let same = in-one k each new in
            let still = subst (λ set. IsNotedEnd (record now { ends = set }) k.id.0) (sym c.loop-each.invariant.ends) end in
            subst (λ (j : Known). IsNoted c.note_own.new.possible p j.id.0) (sym same)
            (note.noted (subst (λ (j : Known). IsNotedEnd now j.id.0) same still) p (subst (λ (j : Known). OwnExport c.args.rows.now j.id.0 p) same own))
      ];
      kept = λ p x before. note.nothing_lost p x (c.loop-each.invariant.kept p x before);
      ends = note.ends ∙ c.loop-each.invariant.ends;
    }

pub returns-clause-noted : goal.returns-clause-noted
returns-clause-noted c = λ k p at end own.
    c.loop-each.invariant.noted k p (subst (In k) (sym (take_all c.loop-each.each-index c.args.known.now c.loop-each-test.false)) at) end own
