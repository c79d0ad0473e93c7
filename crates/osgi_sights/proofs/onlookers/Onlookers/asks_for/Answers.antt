-- A listener of kind service asks where the service is assignable for each class.
use Rattle.osgi_sights.specs.Sights.{added_of}
use Rattle.osgi_sights.proofs.Answers.{asks_from}
use Rattle.osgi_sights.proofs.onlookers.Onlookers.asks_for.Goals as goal

pub returns-in-Service : goal.returns-in-Service
returns-in-Service c = record { asks = asks_from c.are_assignable.result c.args.self.now.wirings.now.world (added_of c.args.row.now) c.args.service.now c.in-Service.is c.are_assignable.ensures.assignable }
