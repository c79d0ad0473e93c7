-- The list is that of the problem.
use Rattle.osgi_candidates.proofs.Answering.{candidates_same}
use Rattle.osgi_candidates.proofs.offers.Offers.candidates.Goals as goal

pub returns : goal.returns
returns c = record { candidates = λ P L same has. candidates_same P c.args.self.now c.args.requirement c.in_ok-list.list.items L same has c.in_ok-list.ensures.exact }
