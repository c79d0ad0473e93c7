-- What the loop of `push_values` keeps true.
use Rattle.std.proofs.Common.{◌≡◌, ◌+◌, ◌++◌, length, drop}
use Rattle.std.specs.List.{concat}
use Rattle.osgi_links.specs.Held.{contents}
use Rattle.osgi_links.specs.computed.Chain.{values_of}
use Rattle.osgi_links.specs.computed.Straight.{IsStraight}
use Rattle.osgi_links.proofs.building.push_values.Given as goal

abbrev pub invariant-loop-list : goal.invariant-loop-list
invariant-loop-list l = record {
  count : l.at ≡ length l.nodes.links;
  room : (l.nodes.start ≡ l.fn.nodes.start) × (l.nodes.room ≡ l.fn.nodes.room);
  left : l.at + length (concat (contents (drop l.list-index l.lists))) ≡ length (concat (contents l.lists));
  values : values_of l.nodes.links ++ concat (contents (drop l.list-index l.lists)) ≡ concat (contents l.lists);
  straight : IsStraight l.nodes.links;
}
