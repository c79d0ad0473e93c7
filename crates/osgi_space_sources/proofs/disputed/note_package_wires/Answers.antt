-- Each wire is noted, and what was noted before stays so.
use Rattle.std.proofs.Common.{arith}
use Rattle.std.proofs.lemmas.List.{get_or_default}
use Rattle.osgi_space_sources.specs.computed.Disputes.{IsNotedEnd, IsNoted}
use Rattle.osgi_space_sources.specs.declared.disputed.Possible.{Possible}
use Rattle.osgi_space_sources.specs.laws.Adding.{all-more, all-of}
use Rattle.osgi_space_sources.specs.laws.Noted.{extends-same, extends-then}
use Rattle.osgi_space_rows.specs.declared.rows.Import.{Import}
use Rattle.osgi_space_sources.proofs.disputed.note_package_wires.Goals as goal

abbrev IsDone : Possible → Import → Type 0
IsDone possible row = IsNoted possible row.imported row.provider × IsNotedEnd possible.disputed row.revision × IsNotedEnd possible.disputed row.provider

pub loop-row-init : goal.loop-row-init
loop-row-init c = record { noted = λ k row lt. absurd (omega (arith, lt)); extends = extends-same c.args.rows.now c.args.possible.now }

pub loop-row-preserved : goal.loop-row-preserved
loop-row-preserved c =
    let rows = c.args.imports.now in
    let at = get_or_default rows c.loop-row.row-index _ _ c.loop-row-test.true in
    let more = c.note_package_wire.ensures.extends in
    record {
      noted = all-more (IsDone c.loop-row.possible) (IsDone c.note_package_wire.new.possible) rows c.loop-row.row-index _ c.loop-row-test.true at
          (λ row before. (more.sources _ _ before.0, more.ends _ before.1, more.ends _ before.2)) c.loop-row.invariant.noted (c.in_ok-note_package_wire.ensures.noted, c.in_ok-note_package_wire.ensures.ends.0, c.in_ok-note_package_wire.ensures.ends.1);
      extends = extends-then c.args.rows.now c.loop-row.invariant.extends more;
    }

pub returns-in_err-note_package_wire-clause-extends : goal.returns-in_err-note_package_wire-clause-extends
returns-in_err-note_package_wire-clause-extends c = extends-then c.args.rows.now c.loop-row.invariant.extends c.note_package_wire.ensures.extends

pub returns-clause-noted : goal.returns-clause-noted
returns-clause-noted c = λ r p x at.
    all-of (IsDone c.loop-row.possible) c.args.imports.now c.loop-row.row-index c.loop-row-test.false c.loop-row.invariant.noted (record { revision = r; imported = p; provider = x }) at
