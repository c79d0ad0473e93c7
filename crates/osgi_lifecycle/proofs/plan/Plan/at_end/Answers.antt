-- A plan that asks for nothing.
use Rattle.std.proofs.Common.{refl}
use Rattle.osgi_lifecycle.specs.Pendings.{pending_of}
use Rattle.osgi_lifecycle.proofs.plan.Plan.at_end.Goals as goal

pub returns : goal.returns
unfolding pending_of
returns c = record { fresh = refl }
