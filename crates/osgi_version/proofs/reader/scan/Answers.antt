-- One byte more runs to the next state.
use Rattle.std.proofs.Common.{arith, sym, ◌∙◌}
use Rattle.osgi_version.specs.computed.Run.{advance}
use Rattle.osgi_version.specs.laws.Running.{run_more}
use Rattle.osgi_version.proofs.reader.scan.Goals as goal

pub loop-at-preserved : goal.loop-at-preserved
loop-at-preserved g c = record {
  prefix = run_more (advance g.M.Reader.is_fine g.M.Reader.step c.args.strict) g.M.Reader.start c.loop-at.state c.in-Some.after c.args.bytes.now c.loop-at.at (omega arith) c.loop-at.invariant.prefix (sym c.advance.ensures.next ∙ c.in-Some.is);
  counted = omega (arith, c.in-Some.ensures.held);
}
