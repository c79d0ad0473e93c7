-- The next place is served.
use Rattle.std.proofs.Common.{rules}
use Rattle.osgi_hall.proofs.CallSteps.{turns_over}
use Rattle.osgi_hall.proofs.hall.Hall.give_turn.Goals as goal

pub fetch_add-served-requires : goal.fetch_add-served-requires
fetch_add-served-requires g c = let d = c.requires.done in (search rules, search rules, turns_over _ _ _ _ _ _ _ d.0 d.1 d.2 d.3)
