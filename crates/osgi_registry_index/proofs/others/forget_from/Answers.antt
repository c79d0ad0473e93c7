-- The uses of the others.
use Rattle.osgi_registry_index.proofs.Forgotten.{forgotten}
use Rattle.osgi_registry_index.proofs.others.forget_from.Goals as goal

pub returns : goal.returns
returns c = record {
  forgotten = forgotten c.args.user.0 c.args.uses.now.entries _ c.shift_remove.ensures.entries c.shift_remove.ensures.updates.1;
}
