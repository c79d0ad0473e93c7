-- What keeps the constraints breaks none.
use Rattle.osgi_space_sources.proofs.Whole.{breaks-iff}
use Rattle.osgi_space_sources.proofs.breaking.breaks_uses.Goals as goal

pub returns : goal.returns
returns c = record { breaks = breaks-iff c.in_ok-keeps_uses.field-0 c.in_ok-keeps_uses.ensures.uses }
