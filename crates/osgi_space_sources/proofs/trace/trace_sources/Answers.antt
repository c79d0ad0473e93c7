-- One source more; what was traced stays so.
use Rattle.std.proofs.Common.{get_or}
use Rattle.std.proofs.lemmas.List.{get_or_default}
use Rattle.osgi_space_sources.specs.computed.Amongst.{IsAmong}
use Rattle.osgi_space_sources.specs.computed.Disputes.{IsDisputed}
use Rattle.osgi_space_sources.specs.computed.Traces.{IsTracedTo}
use Rattle.osgi_space_sources.specs.declared.given.Given.{Given}
use Rattle.osgi_space_sources.proofs.Tracing.{keeps-same, keeps-then, to-kept}
use Rattle.osgi_space_sources.proofs.Whole.{each-more, each-none, each-whole}
use Rattle.osgi_space_sources.proofs.trace.trace_sources.Goals as goal

pub loop-source-init : goal.loop-source-init
loop-source-init c = record {
  kept = keeps-same c.args.trace.now;
  traced = each-none (IsTracedTo c.args.rows.now (IsAmong c.args.among) (IsDisputed c.args.disputed.now) c.args.trace.now c.args.export) c.args.sources.now;
}

pub loop-source-preserved : goal.loop-source-preserved
loop-source-preserved c =
    let R = c.args.rows.now in
    let A = IsAmong c.args.among in
    let D = IsDisputed c.args.disputed.now in
    let h = c.args.export in
    let sources = c.args.sources.now in
    let i = c.loop-source.source-index in
    let source : Given = get_or sources i (record { «package» = 0; source = 0 }) in
    let old = c.loop-source.trace in
    let new = c.trace_source.new.trace in
    record {
      kept = keeps-then c.loop-source.invariant.kept c.in_ok-trace_source.ensures.kept;
      traced = each-more (IsTracedTo R A D old h) (IsTracedTo R A D new h) sources i source c.loop-source-test.true (get_or_default sources i _ source c.loop-source-test.true)
          (to-kept R A D old new c.in_ok-trace_source.ensures.kept h) c.loop-source.invariant.traced c.in_ok-trace_source.ensures.traced;
    }

pub returns-clause-traced : goal.returns-clause-traced
returns-clause-traced c =
    each-whole (IsTracedTo c.args.rows.now (IsAmong c.args.among) (IsDisputed c.args.disputed.now) c.loop-source.trace c.args.export) c.args.sources.now c.loop-source.source-index c.loop-source-test.false c.loop-source.invariant.traced
