-- The state of a history that replays.
use Rattle.std.proofs.Common.{rules, ◌≡◌, ◌∙◌}
use Rattle.osgi_history.proofs.Lives.{number-replayed}
use Rattle.osgi_legal.specs.States.{state_at}
use Rattle.osgi_ops.specs.Bundles.{number_of}
use Rattle.osgi_history.proofs.states.state.Goals as goal

pub returns-then-not-is_resolved-clause-replayed : goal.returns-then-not-is_resolved-clause-replayed
returns-then-not-is_resolved-clause-replayed c =
    let is : 2 ≡ number_of (state_at c.args.entries.now c.args.bundle) = search rules in
    λ setting world replayed. is ∙ number-replayed setting world c.args.entries.now c.args.bundle replayed

pub returns-clause-replayed : goal.returns-clause-replayed
returns-clause-replayed c =
    let is : c.put_last-put.result ≡ number_of (state_at c.args.entries.now c.args.bundle) = search rules in
    λ setting world replayed. is ∙ number-replayed setting world c.args.entries.now c.args.bundle replayed
