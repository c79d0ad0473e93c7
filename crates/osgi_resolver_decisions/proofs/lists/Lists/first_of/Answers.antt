-- What is known of the owner.
use Rattle.std.proofs.Common.{◌∙◌, ap}
use Rattle.osgi_resolver_decisions.specs.computed.Asks.{decisions_in}
use Rattle.osgi_resolver_decisions.proofs.lists.Lists.first_of.Goals as goal

pub returns-in_ok-share-in-Some : goal.returns-in_ok-share-in-Some
returns-in_ok-share-in-Some c = record { first = λ P in_it knows current. ap decisions_in c.in_ok-share-in-Some.ensures.same ∙ (c.in-Some.ensures.right P in_it).first_is current }
