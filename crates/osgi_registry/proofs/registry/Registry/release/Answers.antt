-- A bundle's services and uses are let go.
use Rattle.std.proofs.Common.{ap, ◌∙◌}
use Rattle.osgi_registry.specs.laws.Standing.{stands_released}
use Rattle.osgi_registry.proofs.registry.Registry.release.Goals as goal

pub returns-clause-stands : goal.returns-clause-stands
returns-clause-stands c = λ history e cleaned stands.
    stands_released history c.args.self.now c.clear.new.self c.args.bundle e cleaned stands (ap (λ r. r.rows) c.clear.ensures.same ∙ c.let_go_all.ensures.rows) (ap (λ r. r.issued) c.clear.ensures.same ∙ c.let_go_all.ensures.issued)
