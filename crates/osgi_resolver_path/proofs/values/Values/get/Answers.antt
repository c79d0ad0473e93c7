-- The value at the key.
use Rattle.std.proofs.Common.{ap, ◌∙◌}
use Rattle.osgi_resolver_path.specs.computed.Valued.{value_by}
use Rattle.osgi_resolver_path.proofs.Valued.{at-key}
use Rattle.osgi_resolver_path.proofs.values.Values.get.Goals as goal

pub returns : goal.returns
returns c = record { value = c.copied.ensures ∙ c.get.ensures.value ∙ at-key c.args.self.now.by_key c.key_of.result ∙ ap (value_by c.args.self.now.by_key) c.key_of.ensures.key }
