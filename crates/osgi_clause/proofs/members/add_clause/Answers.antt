-- A clause has a fault, or it makes nothing, or one item for each of its paths.
use Rattle.std.proofs.Common.{subst}
use Rattle.osgi_clause.specs.computed.Answers.{IsTemplate}
use Rattle.osgi_clause.proofs.Made.{template_only}
use Rattle.osgi_clause.proofs.members.add_clause.Goals as goal

pub returns-in_ok-add_made-in-Ok : goal.returns-in_ok-add_made-in-Ok
returns-in_ok-add_made-in-Ok g c =
    let reader = g.R.ClauseReader in
    let clause = c.args.clause.now in
    let made = subst (IsTemplate (reader.faults clause) (reader.makes clause) reader.named) c.in-Ok.is c.in_ok-template.ensures.template in
    record {
      added = (made.0, (_, c.in_ok-add_made-in-Ok.ensures.added, template_only reader.makes reader.takes clause (reader.named c.in-Ok.template) made.1));
    }

pub returns-in-Err : goal.returns-in-Err
returns-in-Err g c =
    let reader = g.R.ClauseReader in
    let clause = c.args.clause.now in
    record { added = subst (IsTemplate (reader.faults clause) (reader.makes clause) reader.named) c.in-Err.is c.in_ok-template.ensures.template }
