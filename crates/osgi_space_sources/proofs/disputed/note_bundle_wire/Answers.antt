-- Both ends are noted, one after the other.
use Rattle.osgi_space_sources.specs.laws.Noted.{extends-then}
use Rattle.osgi_space_sources.proofs.disputed.note_bundle_wire.Goals as goal

pub returns : goal.returns
returns c = record {
  ends = (c.note_end-2.ensures.extends.ends _ c.in_ok-note_end.ensures.noted, c.in_ok-note_end-2.ensures.noted);
  extends = extends-then c.args.rows.now c.note_end.ensures.extends c.note_end-2.ensures.extends;
}

pub returns-in_err-note_end-2-clause-extends : goal.returns-in_err-note_end-2-clause-extends
returns-in_err-note_end-2-clause-extends c = extends-then c.args.rows.now c.note_end.ensures.extends c.note_end-2.ensures.extends
