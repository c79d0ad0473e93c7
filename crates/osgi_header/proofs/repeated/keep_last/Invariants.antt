-- Of the headers after those that are left, the ones that count were kept, and all names seen.
use Rattle.std.proofs.Common.{◌≡◌, drop, length, take}
use Rattle.std.specs.Prelude.{reverse}
use Rattle.osgi_header.specs.Headers.{counting}
use Rattle.osgi_header.proofs.Repeating.{AreNames}
use Rattle.osgi_header.proofs.repeated.keep_last.Given as goal

abbrev pub invariant-loop-header : goal.invariant-loop-header
invariant-loop-header l = record {
  left : l.left.items ≡ take (length l.left.items) l.fn.headers.items;
  kept : reverse l.kept.items ≡ counting (drop (length l.left.items) l.fn.headers.items);
  seen : AreNames l.seen.keys (drop (length l.left.items) l.fn.headers.items);
}

abbrev pub decreases-loop-header : goal.decreases-loop-header
decreases-loop-header l = length l.left.items
