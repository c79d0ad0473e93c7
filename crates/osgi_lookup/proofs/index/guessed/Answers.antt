-- The revision at the place has the id.
use Rattle.std.proofs.Common.{rules}
use Rattle.osgi_lookup.proofs.Searched.{known_there}
use Rattle.osgi_lookup.proofs.index.guessed.Goals as goal

pub returns-in-Some : goal.returns-in-Some
returns-in-Some c = record { known = known_there c.args.all.now c.requires.rising c.args.id c.in_ok-place.place c.in-Some.known c.in-Some.ensures.lookup (search rules) }
