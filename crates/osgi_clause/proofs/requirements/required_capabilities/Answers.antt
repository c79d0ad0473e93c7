-- Each clause makes something.
use Rattle.osgi_clause.specs.Faults.{required_faults}
use Rattle.osgi_clause.specs.Members.{IsRequired}
use Rattle.osgi_clause.proofs.Made.{all_taken_if}
use Rattle.osgi_clause.proofs.requirements.required_capabilities.Goals as goal

pub returns : goal.returns
returns c = record { walked = all_taken_if required_faults IsRequired c.args.clauses.now c.members.result c.members.ensures.walked }
