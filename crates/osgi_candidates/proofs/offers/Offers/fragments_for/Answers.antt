-- The list is that of the problem.
use Rattle.osgi_candidates.proofs.Attaching.{attachable_same}
use Rattle.osgi_candidates.proofs.offers.Offers.fragments_for.Goals as goal

pub returns : goal.returns
returns c = record { fragments = λ P L same. attachable_same P c.args.self.now c.args.host c.in_ok-list.list.items L same c.in_ok-list.ensures.exact }
