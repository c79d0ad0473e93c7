-- The ends of each wire are noted, and what was noted before stays so.
use Rattle.std.proofs.Common.{arith}
use Rattle.std.proofs.lemmas.List.{get_or_default}
use Rattle.osgi_space_sources.specs.computed.Disputes.{IsNotedEnd}
use Rattle.osgi_space_sources.specs.declared.disputed.Possible.{Possible}
use Rattle.osgi_space_sources.specs.laws.Adding.{all-more, all-of}
use Rattle.osgi_space_sources.specs.laws.Noted.{extends-same, extends-then}
use Rattle.osgi_space_rows.specs.declared.rows.Required.{Required}
use Rattle.osgi_space_sources.proofs.disputed.note_bundle_wires.Goals as goal

abbrev AreEnds : Possible → Required → Type 0
AreEnds possible row = IsNotedEnd possible.disputed row.revision × IsNotedEnd possible.disputed row.provider

pub loop-row-init : goal.loop-row-init
loop-row-init c = record { noted = λ k row lt. absurd (omega (arith, lt)); extends = extends-same c.args.rows.now c.args.possible.now }

pub loop-row-preserved : goal.loop-row-preserved
loop-row-preserved c =
    let rows = c.args.required.now in
    let at = get_or_default rows c.loop-row.row-index _ _ c.loop-row-test.true in
    let more = c.note_bundle_wire.ensures.extends in
    record {
      noted = all-more (AreEnds c.loop-row.possible) (AreEnds c.note_bundle_wire.new.possible) rows c.loop-row.row-index _ c.loop-row-test.true at
          (λ row before. (more.ends _ before.0, more.ends _ before.1)) c.loop-row.invariant.noted c.in_ok-note_bundle_wire.ensures.ends;
      extends = extends-then c.args.rows.now c.loop-row.invariant.extends more;
    }

pub returns-in_err-note_bundle_wire-clause-extends : goal.returns-in_err-note_bundle_wire-clause-extends
returns-in_err-note_bundle_wire-clause-extends c = extends-then c.args.rows.now c.loop-row.invariant.extends c.note_bundle_wire.ensures.extends

pub returns-clause-ends : goal.returns-clause-ends
returns-clause-ends c = λ row at. all-of (AreEnds c.loop-row.possible) c.args.required.now c.loop-row.row-index c.loop-row-test.false c.loop-row.invariant.noted row at
