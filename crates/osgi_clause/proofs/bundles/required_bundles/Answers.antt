-- Each clause makes something.
use Rattle.osgi_clause.specs.Faults.{bundle_faults}
use Rattle.osgi_clause.specs.Members.{IsRequiredBundle}
use Rattle.osgi_clause.proofs.Made.{all_taken_if}
use Rattle.osgi_clause.proofs.bundles.required_bundles.Goals as goal

pub returns : goal.returns
returns c = record { walked = all_taken_if bundle_faults IsRequiredBundle c.args.clauses.now c.members.result c.members.ensures.walked }
