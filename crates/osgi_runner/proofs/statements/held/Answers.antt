-- The latest binding is the first from the end.
use Rattle.std.proofs.Common.{ap, sym, ◌∙◌, reverse}
use Rattle.std.specs.Prelude.{Option, unwrap_or}
use Rattle.osgi_base.specs.declared.ids.ServiceId.{ServiceId}
use Rattle.osgi_runner.proofs.Bound.{held-found}
use Rattle.osgi_session.specs.Runs.{no_service}
use Rattle.osgi_runner.proofs.statements.held.Goals as goal

pub returns : goal.returns
returns c = record {
  held = c.unwrap_or.ensures ∙ ap (λ (o : Option ServiceId). unwrap_or o no_service) c.latest.ensures.latest ∙ sym (held-found (reverse c.args.bindings.now) c.args.var.now);
}
