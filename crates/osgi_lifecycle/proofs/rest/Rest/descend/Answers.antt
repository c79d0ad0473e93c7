-- One level down.
use Rattle.std.proofs.Common.{sym}
use Rattle.osgi_lifecycle.proofs.Going.{descend-more}
use Rattle.osgi_lifecycle.proofs.rest.Rest.descend.Goals as goal

pub returns : goal.returns
returns c = record { left = sym (descend-more c.args.level c.args.to c.if-level-to.false) }
