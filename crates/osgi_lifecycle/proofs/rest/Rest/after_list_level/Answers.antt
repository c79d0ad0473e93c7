-- The listed bundles are stopped.
use Rattle.std.proofs.Common.{◌∙◌, [], ap, sym, unwrap_or}
use Rattle.osgi_lifecycle.proofs.Going.{stopping-listed}
use Rattle.osgi_lifecycle.proofs.rest.Rest.after_list_level.Goals as goal

pub returns : goal.returns
returns c = record {
  left = c.stop_at_level.ensures.left ∙ stopping-listed c.args.reply c.args.level c.args.to c.put_bundles.new.self (sym c.if-is_refusal.ensures.refused) (c.put_bundles.ensures.ahead ∙ ap (λ ids. unwrap_or ids []) c.into_ids.ensures.ids);
}
