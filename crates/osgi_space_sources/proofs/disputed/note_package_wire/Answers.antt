-- The wire and its ends are noted, one after another.
use Rattle.osgi_space_sources.specs.laws.Noted.{extends-ends, extends-then}
use Rattle.osgi_space_sources.proofs.disputed.note_package_wire.Goals as goal

pub returns : goal.returns
returns c =
    let R = c.args.rows.now in
    let first = extends-ends R c.args.possible.now c.note.new.self c.note.ensures.nothing_lost c.note.ensures.ends in
    record {
      noted = c.note_end-2.ensures.extends.sources _ _ (c.note_end.ensures.extends.sources _ _ c.in_ok-note.ensures.noted);
      ends = (c.note_end-2.ensures.extends.ends _ c.in_ok-note_end.ensures.noted, c.in_ok-note_end-2.ensures.noted);
      extends = extends-then R first (extends-then R c.note_end.ensures.extends c.note_end-2.ensures.extends);
    }

pub returns-in_err-note_end-2-clause-extends : goal.returns-in_err-note_end-2-clause-extends
returns-in_err-note_end-2-clause-extends c =
    let R = c.args.rows.now in
    let first = extends-ends R c.args.possible.now c.note.new.self c.note.ensures.nothing_lost c.note.ensures.ends in
    extends-then R first (extends-then R c.note_end.ensures.extends c.note_end-2.ensures.extends)
