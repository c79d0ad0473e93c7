-- What is known of the owner.
use Rattle.osgi_resolver_decisions.proofs.lists.Lists.is_sure.Goals as goal

pub returns-in-Some : goal.returns-in-Some
returns-in-Some c = record { sure = λ t P in_it knows current. (c.in-Some.ensures.right P in_it).sure_is current t }
