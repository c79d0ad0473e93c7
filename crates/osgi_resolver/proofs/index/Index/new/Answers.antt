-- What covers nothing follows each world.
use Rattle.osgi_resolver.proofs.index.Index.new.Goals as goal

pub returns : goal.returns
returns c = record { follows = λ world. record { offers = c.new.ensures.follows world.known world.wirings; rows = c.new-2.ensures.follows world.known world.wirings } }
