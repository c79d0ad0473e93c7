-- The requirement that stands there is named.
use Rattle.std.proofs.Common.{sym}
use Rattle.osgi_ops.specs.declared.refusal.Unmet.TheVariants as unmet
use Rattle.osgi_reply_resolving.proofs.resolving.unmet.Goals as goal

pub returns : goal.returns
returns c = record {
  said = rw c.in-NoCandidate.is
      (c.in-Some.requirement.now, sym c.in-Some.ensures.requirement, λ i. unmet.NoCandidate (c.in_ok-copy.ensures.same i) (c.in_ok-copy-2.ensures.same i));
}
