-- Each attachment is noted, and what was noted before stays so.
use Rattle.std.proofs.Common.{◌∙◌, ℕ}
use Rattle.std.proofs.lemmas.List.{get_or_default}
use Rattle.osgi_space_sources.specs.computed.Disputes.{IsNoted}
use Rattle.osgi_space_sources.specs.laws.Adding.{all-more, all-of}
use Rattle.osgi_space_rows.specs.Rows.{OwnExport}
use Rattle.osgi_space_rows.specs.declared.rows.Attachment.{Attachment}
use Rattle.osgi_space_sources.proofs.disputed.note_fragments.Goals as goal

pub loop-row-preserved : goal.loop-row-preserved
loop-row-preserved c =
    let rows = c.args.attached.now in
    let at = get_or_default rows c.loop-row.row-index _ _ c.loop-row-test.true in
    record {
      noted = all-more (λ (row : Attachment). (p : ℕ) → OwnExport c.args.rows.now row.fragment p → IsNoted c.loop-row.possible p row.host)
          (λ (row : Attachment). (p : ℕ) → OwnExport c.args.rows.now row.fragment p → IsNoted c.note_fragment.new.possible p row.host) rows c.loop-row.row-index _ c.loop-row-test.true at
          (λ row before p own. c.in_ok-note_fragment.ensures.nothing_lost _ _ (before p own)) c.loop-row.invariant.noted c.in_ok-note_fragment.ensures.noted;
      kept = λ p x before. c.in_ok-note_fragment.ensures.nothing_lost p x (c.loop-row.invariant.kept p x before);
      ends = c.in_ok-note_fragment.ensures.ends ∙ c.loop-row.invariant.ends;
    }

pub returns-clause-noted : goal.returns-clause-noted
returns-clause-noted c = λ h f p at own.
    all-of (λ (row : Attachment). (p : ℕ) → OwnExport c.args.rows.now row.fragment p → IsNoted c.loop-row.possible p row.host) c.args.attached.now c.loop-row.row-index c.loop-row-test.false c.loop-row.invariant.noted
    (record { host = h; fragment = f }) at p own
