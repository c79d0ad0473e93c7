-- The counts of the last state cut the text where its grammar does.
use Rattle.osgi_version.proofs.RangeCut.{cut_at, plain_readable}
use Rattle.osgi_version.proofs.bounds.cut.Goals as goal

pub returns-in-Closed : goal.returns-in-Closed
returns-in-Closed c = record {
  parts = cut_at c.args.bytes.now c.in-Closed.k c.in-Closed.n c.in-Closed.h c.in-Closed.field-3 (rw c.in-Closed.is at c.requires.runs) _ _ _ _ _ _ _
      c.split_at.ensures.back c.split_at-in-Closed.ensures.back c.split_at-in-Closed-2.ensures.front c.split_at-in-Closed-2.ensures.back c.split_at-in-Closed-3.ensures.back c.split_at-in-Closed-4.ensures.front c.split_at-in-Closed-4.ensures.back;
}

pub returns-in_default : goal.returns-in_default
returns-in_default c = record { parts = plain_readable c.args.bytes.now c.args.state c.requires.runs c.requires.end (λ k n h w e. c.in_default.not-Closed k n h w e) }
