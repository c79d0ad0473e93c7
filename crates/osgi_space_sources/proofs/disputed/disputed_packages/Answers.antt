-- Two possible sources of one package are the first of it, or it is disputed.
use Rattle.osgi_space_sources.specs.laws.Noted.{noted-disputed}
use Rattle.osgi_space_sources.proofs.disputed.disputed_packages.Goals as goal

pub returns : goal.returns
returns c = record { disputed = noted-disputed c.args.rows.now c.in_ok-possible.possible c.in_ok-possible.ensures.noted }
