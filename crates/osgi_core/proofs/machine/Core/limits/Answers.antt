-- A depot with the same rows makes the same setting.
use Rattle.std.proofs.Common.{ap}
use Rattle.osgi_ops.specs.Settings.{bounds_of}
use Rattle.osgi_core.proofs.machine.Core.limits.Goals as goal

pub returns : goal.returns
returns c = record { limits = rw (← c.self.view_is) (λ depot same. ap (λ rows. record { bounds = bounds_of c.self.inside.limits; depot = rows }) same) }
