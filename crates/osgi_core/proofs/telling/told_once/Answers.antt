-- By the world that each entry leaves and what is seen of it.
use Rattle.osgi_stage.proofs.ToldOnce.{told-once}
use Rattle.osgi_core.proofs.telling.told_once.Goals as goal

pub returns : goal.returns
returns c = record { once = told-once }
