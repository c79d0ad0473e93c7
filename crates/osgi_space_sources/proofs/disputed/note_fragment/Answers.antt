-- Each row is noted, and what was noted before stays so.
use Rattle.std.proofs.Common.{◌==◌, ◌∙◌, Contains, refl, sym, subst}
use Rattle.std.proofs.lemmas.List.{get_or_default}
use Rattle.osgi_space_sources.specs.computed.Disputes.{IsNoted}
use Rattle.osgi_space_sources.specs.laws.Adding.{all-more, all-of}
use Rattle.osgi_space_rows.specs.declared.rows.Export.{Export}
use Rattle.std.proofs.lemmas.Bool.{eq-eqb}
use Rattle.osgi_space_sources.specs.laws.Members.{contains-filter}
use Rattle.osgi_space_sources.proofs.disputed.note_fragment.Goals as goal

pub loop-row-preserved : goal.loop-row-preserved
loop-row-preserved c =
    let rows = c.of_revision-row-items.result.now in
    let at = get_or_default rows c.loop-row.row-index _ _ c.loop-row-test.true in
    record {
      noted = all-more (λ (row : Export). IsNoted c.loop-row.possible row.exported c.args.host) (λ (row : Export). IsNoted c.note.new.self row.exported c.args.host) rows c.loop-row.row-index _ c.loop-row-test.true at
          (λ row before. c.in_ok-note.ensures.nothing_lost _ _ before) c.loop-row.invariant.noted c.in_ok-note.ensures.noted;
      kept = λ p x before. c.in_ok-note.ensures.nothing_lost p x (c.loop-row.invariant.kept p x before);
      ends = c.in_ok-note.ensures.ends ∙ c.loop-row.invariant.ends;
    }

pub returns-clause-noted : goal.returns-clause-noted
returns-clause-noted c = λ p at.
    let rows = c.of_revision-row-items.result.now in
    let row : Export = record { owner = c.args.fragment; exported = p } in
    all-of (λ (row : Export). IsNoted c.loop-row.possible row.exported c.args.host) rows c.loop-row.row-index c.loop-row-test.false c.loop-row.invariant.noted
    row (subst (λ xs. Contains xs row) (sym c.of_revision-row-items.ensures.rows) (contains-filter (λ (x : Export). x.owner == c.args.fragment) c.args.rows.now.exports row at (eq-eqb c.args.fragment c.args.fragment refl)))
