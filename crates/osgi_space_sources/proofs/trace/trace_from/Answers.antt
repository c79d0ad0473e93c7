-- The next export is traced; when none is left, all are.
use Rattle.std.proofs.Common.{◌<◌, List, length, get_or, arith, subst, sym, Contains}
use Rattle.osgi_space_sources.specs.computed.Amongst.{IsAmong}
use Rattle.osgi_space_sources.specs.computed.Disputes.{IsDisputed}
use Rattle.osgi_space_sources.specs.computed.Traces.{AreTraced, IsTraced}
use Rattle.osgi_space_sources.specs.declared.given.Given.{Given}
use Rattle.osgi_space_sources.specs.declared.trace.Trace.{Trace}
use Rattle.osgi_space_sources.specs.laws.Adding.{item-at}
use Rattle.osgi_space_sources.proofs.Tracing.{traced-kept}
use Rattle.osgi_space_sources.proofs.Whole.{done-all, done-next, done-start, for-one, grown-kept}
use Rattle.osgi_space_sources.proofs.trace.trace_from.Goals as goal

pub loop-next-init : goal.loop-next-init
loop-next-init c =
    let t = c.of-trace.result in
    record {
      begins = λ h at. subst (λ (found : List Given). Contains found h) (sym c.of-trace.ensures.exports) at;
      traced = done-start (IsTraced c.args.rows.now (IsAmong c.args.among) (IsDisputed c.args.disputed.now) t) t.exports;
    }

pub loop-next-preserved : goal.loop-next-preserved
loop-next-preserved c =
    let R = c.args.rows.now in
    let A = IsAmong c.args.among in
    let D = IsDisputed c.args.disputed.now in
    let old = c.loop-next.trace in
    let new = c.trace_export.new.trace in
    let keeps = c.in_ok-trace_export.ensures.kept in
    let next = c.loop-next.next in
    let slice = c.items.result.now in
    let none : Given = record { «package» = 0; source = 0 } in
    let within : next < length old.exports = omega arith in
    record {
      begins = λ h at. grown-kept old.exports new.exports keeps.exports h (c.loop-next.invariant.begins h at);
      traced = done-next (IsTraced R A D old) (IsTraced R A D new) old.exports new.exports next (get_or slice next none) within (item-at old.exports slice next none c.items.ensures.items within) keeps.exports
          (traced-kept R A D old new keeps) c.loop-next.invariant.traced c.in_ok-trace_export.ensures.traced;
    }

pub returns : goal.returns
returns c =
    let t = c.loop-next.trace in
    let before = c.loop-next.invariant in
    record {
      exports = for-one (λ (trace : Trace). (h : Given) → Contains c.args.exports h → Contains trace.exports h) t before.begins;
      traced = for-one (AreTraced c.args.rows.now (IsAmong c.args.among) (IsDisputed c.args.disputed.now)) t
          (done-all (IsTraced c.args.rows.now (IsAmong c.args.among) (IsDisputed c.args.disputed.now) t) t.exports c.loop-next.next (omega arith) before.traced);
    }
