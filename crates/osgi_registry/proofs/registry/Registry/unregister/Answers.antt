-- A service taken out.
use Rattle.osgi_registry.specs.laws.Standing.{stands_taken}
use Rattle.osgi_registry.proofs.registry.Registry.unregister.Goals as goal

pub returns-clause-stands : goal.returns-clause-stands
returns-clause-stands c = λ history tag stands. stands_taken history c.args.self.now _ tag c.args.owner c.args.service stands c.take_out.ensures.rows c.take_out.ensures.issued
