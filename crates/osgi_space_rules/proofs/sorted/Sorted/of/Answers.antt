-- A sort keeps the items.
use Rattle.osgi_space_rules.proofs.Found.{same_items}
use Rattle.osgi_space_rules.proofs.sorted.Sorted.of.Goals as goal

pub returns : goal.returns
returns g c = record { items = same_items c.args.items.items c.sort.new.self.items c.sort.ensures.permutation }
