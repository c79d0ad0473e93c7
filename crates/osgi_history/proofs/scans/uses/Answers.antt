-- Where no use began with a make, all uses are by what all share.
use Rattle.std.proofs.Common.{◌∙◌, sym}
use Rattle.osgi_ops.specs.laws.Services.{uses-plain}
use Rattle.osgi_history.proofs.scans.uses.Goals as goal

pub returns : goal.returns
returns c = record { uses = λ none. c.uses_shared.ensures.uses ∙ sym (uses-plain c.args.user c.args.service c.args.entries.now none) }
