-- The new owner, and the others.
use Rattle.osgi_resolver_decisions.proofs.Owners.{right-more, right-same}
use Rattle.osgi_resolver_decisions.proofs.lists.Lists.learn.Goals as goal

pub invariant_of-self : goal.invariant_of-self
invariant_of-self c = λ P in_it. right-same P c.self.inside.by_owner c.insert.new.self c.in_err-insert.ensures.unchanged (c.self.invariant P in_it)

pub invariant_of-self-2 : goal.invariant_of-self-2
invariant_of-self-2 c = λ P in_it. right-more P c.self.inside.by_owner c.insert.new.self c.args.owner c.in_ok-owned.owned c.in_ok-insert.ensures.put (c.in_ok-owned.ensures.right P in_it) (c.self.invariant P in_it)
