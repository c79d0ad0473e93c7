-- What is computed says whether the capability satisfies the requirement.
use Rattle.std.proofs.lemmas.Bool.Decides.{Decides-at}
use Rattle.osgi_capability.proofs.Meaning.{satisfied_decides}
use Rattle.osgi_capability.proofs.satisfying.satisfies.Goals as goal

pub returns : goal.returns
returns c =
    record { satisfies = Decides-at _ _ c.is_satisfied.ensures.satisfied (satisfied_decides c.args.requirement.now c.args.capability.now c.args.name.now c.args.version.now) }
