-- By the kind of the decision.
use Rattle.std.proofs.Common.{sym, subst}
use Rattle.osgi_resolver_decisions.specs.DecisionOf.{decision_of}
use Rattle.osgi_resolver_decisions.specs.computed.Asks.{decisions_in}
use Rattle.osgi_resolver_decisions.specs.declared.decision_ref.DecisionRef.{DecisionRef}
use Rattle.osgi_resolver_path.specs.computed.Afters.{IsAskedAfter}
use Rattle.osgi_resolver_path.specs.computed.Attached.{AreAttached}
use Rattle.osgi_world.specs.Decisions.{host}
use Rattle.osgi_resolver_path.proofs.moves.asks_after.Goals as goal

pub returns-in_ok-asks_with-in-Attach-clause-asks : goal.returns-in_ok-asks_with-in-Attach-clause-asks
returns-in_ok-asks_with-in-Attach-clause-asks c P D in_it =
    let asks = decisions_in c.in_ok-asks_with-in-Attach.field-0 in
    let says : DecisionRef → Type 0 = λ r. AreAttached c.args.rows.now D (host (decision_of r)) → IsAskedAfter P D (decision_of r) c.args.value asks in
    subst says (sym c.in-Attach.is) (λ rows. c.in_ok-asks_with-in-Attach.ensures.asks P D in_it rows)
