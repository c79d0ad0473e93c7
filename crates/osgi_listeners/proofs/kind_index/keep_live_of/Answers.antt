-- What the closure keeps is live.
use Rattle.std.proofs.Common.{rules}
use Rattle.std.proofs.lemmas.Fn.{filter_same}
use Rattle.osgi_listeners.proofs.kind_index.keep_live_of.Goals as goal

pub returns : goal.returns
returns c = record { kept = filter_same _ _ _ (λ x b f' k. search rules) _ _ c.retain.ensures.filtered }
