-- How a plan begins.
use Rattle.std.proofs.Common.{◌≡◌, ◌∙◌, [], ap, sym, unwrap_or}
use Rattle.osgi_session.specs.Beginnings.{later_text}
use Rattle.osgi_lifecycle.specs.Pendings.{pending_of}
use Rattle.osgi_lifecycle.proofs.Beginning.{opened}
use Rattle.osgi_lifecycle.proofs.plan.Plan.of.Goals as goal
use Rattle.osgi_lifecycle.proofs.plan.Plan.of.Goals.{in-Some, in-None}

pub returns : goal.returns
unfolding pending_of
returns c =
    let text : c.match-later.text ≡ unwrap_or (later_text c.args.owner c.args.command) [] =
    elim c.match-later.branch [
      | in-Some w ↦ w.text-is ∙ ap (λ t. unwrap_or t []) (sym w.in-Some.is ∙ c.into_op-op.ensures.later)
      | in-None w ↦ w.text-is ∙ (w.empty-text.ensures.bytes ∙ ap (λ t. unwrap_or t []) (sym w.in-None.is ∙ c.into_op-op.ensures.later))
    ] in
    record { fresh = opened c.args.owner c.args.command c.first-at.result c.into_op-op.result.0 (record { text = c.match-later.text; bundles = c.new.result; place = 0 }) c.first-at.ensures.plan c.into_op-op.ensures.operation text }
