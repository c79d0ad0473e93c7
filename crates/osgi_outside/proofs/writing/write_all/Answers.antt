-- That the loop keeps it: the bytes of one more write come after those written before.
use Rattle.std.proofs.Common.{◌+◌, ◌≤◌, length, length-drop, arith}
use Rattle.osgi_outside.proofs.Written.{Appends-after}
use Rattle.osgi_outside.proofs.writing.write_all.Goals as goal

pub loop-done-preserved : goal.loop-done-preserved
loop-done-preserved g c =
    let le : c.loop-done.done + c.in_ok-done.field-0 ≤ length c.args.bytes.now = omega (arith, c.in_ok-done.ensures.bound, length-drop c.loop-done.done c.args.bytes.now) in
    record {
      within = le;
      later = omega (arith, c.in_ok-done.ensures.cause.later);
      written = Appends-after _ _ _ _ _ _ c.loop-done.invariant.written c.in_ok-done.ensures.bytes;
    }
