-- The exports of the revision and of each fragment are noted, and what was noted before stays so.
use Rattle.std.proofs.Common.{◌==◌, ◌∙◌, ℕ, inl, inr, List, refl, sym, subst, Contains}
use Rattle.std.proofs.lemmas.Bool.{eq-eqb}
use Rattle.std.proofs.lemmas.List.{get_or_default}
use Rattle.osgi_space_sources.specs.computed.Disputes.{IsNoted}
use Rattle.osgi_space_sources.specs.laws.Adding.{all-more, all-of}
use Rattle.osgi_space_sources.specs.laws.Members.{contains-filter}
use Rattle.osgi_space_rows.specs.Rows.{OwnExport}
use Rattle.osgi_space_rows.specs.declared.rows.Attachment.{Attachment}
use Rattle.osgi_space_sources.proofs.disputed.note_exports.Goals as goal

pub loop-row-preserved : goal.loop-row-preserved
loop-row-preserved c =
    let rows = c.of-row-items.result.now in
    let at = get_or_default rows c.loop-row.row-index _ _ c.loop-row-test.true in
    let note = c.in_ok-note_fragment-2.ensures in
    record {
      own = λ p own. note.nothing_lost p c.args.revision (c.loop-row.invariant.own p own);
      noted = all-more (λ (row : Attachment). (p : ℕ) → OwnExport c.args.rows.now row.fragment p → IsNoted c.loop-row.possible p c.args.revision)
          (λ (row : Attachment). (p : ℕ) → OwnExport c.args.rows.now row.fragment p → IsNoted c.note_fragment-in-loop-row.new.possible p c.args.revision) rows c.loop-row.row-index _ c.loop-row-test.true at
          (λ row before p own. note.nothing_lost _ _ (before p own)) c.loop-row.invariant.noted note.noted;
      kept = λ p x before. note.nothing_lost p x (c.loop-row.invariant.kept p x before);
      ends = note.ends ∙ c.loop-row.invariant.ends;
    }

pub returns-clause-noted : goal.returns-clause-noted
returns-clause-noted c = λ p has. elim has.1 [
  | inl same ↦ c.loop-row.invariant.own p (subst (λ o. OwnExport c.args.rows.now o p) same has.2)
  | inr attached ↦
      let rows = c.of-row-items.result.now in
      let row : Attachment = record { host = c.args.revision; fragment = has.0 } in
      all-of (λ (row : Attachment). (p : ℕ) → OwnExport c.args.rows.now row.fragment p → IsNoted c.loop-row.possible p c.args.revision) rows c.loop-row.row-index c.loop-row-test.false c.loop-row.invariant.noted
      row (subst (λ (xs : List Attachment). Contains xs row) (sym c.of-row-items.ensures.rows) (contains-filter (λ (i : Attachment). i.host == c.args.revision) c.args.rows.now.attached row attached (eq-eqb c.args.revision c.args.revision refl))) p has.2
]
