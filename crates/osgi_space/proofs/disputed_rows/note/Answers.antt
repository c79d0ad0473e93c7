-- What a row adds is noted.
use Rattle.std.proofs.Common.{◌≡◌, ◌∙◌, ap, sym, subst}
use Rattle.osgi_space_sources.specs.computed.Disputes.{AreNoted, NotesMore}
use Rattle.osgi_space_sources.specs.laws.Noted.{extends-ends, extends-same, noted-attachment, noted-import, noted-required}
use Rattle.osgi_space_rows.specs.Rows.{OwnExport, RowLists, with_attachment, with_import, with_required}
use Rattle.osgi_space_rows.specs.Worlds.{with_added}
use Rattle.osgi_space.proofs.disputed_rows.note.Goals as goal

pub returns-in_ok-note_package_wire-in-Import : goal.returns-in_ok-note_package_wire-in-Import
returns-in_ok-note_package_wire-in-Import c =
    let old = c.args.possible.now in
    let new = c.note_package_wire.new.possible in
    let row = c.in-Import.row in
    let note = c.in_ok-note_package_wire-in-Import.ensures in
    record {
      noted = λ R is before.
          let more : c.args.rows.now ≡ with_import R row = is ∙ ap (with_added R) c.in-Import.is in
          subst (λ (S : RowLists). AreNoted S new) (sym more)
          (noted-import R old new before row (subst (λ (S : RowLists). NotesMore S old new) more note.extends) note.noted note.ends);
      extends = note.extends;
    }

pub returns-in_ok-note_fragment-in-Attachment : goal.returns-in_ok-note_fragment-in-Attachment
returns-in_ok-note_fragment-in-Attachment c =
    let old = c.args.possible.now in
    let new = c.note_fragment.new.possible in
    let row = c.in-Attachment.row in
    let note = c.in_ok-note_fragment-in-Attachment.ensures in
    record {
      noted = λ R is before.
          let more : c.args.rows.now ≡ with_attachment R row = is ∙ ap (with_added R) c.in-Attachment.is in
          subst (λ (S : RowLists). AreNoted S new) (sym more)
          (noted-attachment R old new before row (extends-ends (with_attachment R row) old new note.nothing_lost note.ends) (λ p own. note.noted p (subst (λ (S : RowLists). OwnExport S row.fragment p) (sym more) own)));
      extends = extends-ends c.args.rows.now old new note.nothing_lost note.ends;
    }

pub returns-in_ok-note_bundle_wire-in-Required : goal.returns-in_ok-note_bundle_wire-in-Required
returns-in_ok-note_bundle_wire-in-Required c =
    let old = c.args.possible.now in
    let new = c.note_bundle_wire.new.possible in
    let row = c.in-Required.row in
    let note = c.in_ok-note_bundle_wire-in-Required.ensures in
    record {
      noted = λ R is before.
          let more : c.args.rows.now ≡ with_required R row = is ∙ ap (with_added R) c.in-Required.is in
          subst (λ (S : RowLists). AreNoted S new) (sym more)
          (noted-required R old new before row (subst (λ (S : RowLists). NotesMore S old new) more note.extends) note.ends);
      extends = note.extends;
    }

pub returns-in-Nothing : goal.returns-in-Nothing
returns-in-Nothing c = record {
  noted = λ R is before.
      let more : c.args.rows.now ≡ R = is ∙ ap (with_added R) c.in-Nothing.is in
      subst (λ (S : RowLists). AreNoted S c.args.possible.now) (sym more) before;
  extends = extends-same c.args.rows.now c.args.possible.now;
}

pub returns-in_err-note_fragment-in-Attachment-clause-extends : goal.returns-in_err-note_fragment-in-Attachment-clause-extends
returns-in_err-note_fragment-in-Attachment-clause-extends c = extends-ends c.args.rows.now c.args.possible.now c.note_fragment.new.possible c.note_fragment.ensures.nothing_lost c.note_fragment.ensures.ends
