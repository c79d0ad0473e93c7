-- What is known of a fragment stays known.
use Rattle.osgi_resolver_path.proofs.moves.learn_new.Goals as goal

pub returns-clause-attached : goal.returns-clause-attached
returns-clause-attached c h f e = c.in_ok-learn_joining.ensures.nothing_lost.owners f (c.in_ok-learn_attached.ensures.known h f e)
