-- What the loop of `total` keeps true.
use Rattle.std.proofs.Common.{◌≡◌, ◌+◌, length, drop}
use Rattle.std.specs.List.{concat}
use Rattle.osgi_links.specs.Held.{contents}
use Rattle.osgi_links.proofs.building.total.Given as goal

abbrev pub invariant-loop-list : goal.invariant-loop-list
invariant-loop-list l = l.items + length (concat (contents (drop l.list-index l.lists))) ≡ length (concat (contents l.lists))
