-- What the loop of `push_bounds` keeps true.
use Rattle.std.proofs.Common.{◌≡◌, ◌+◌, ◌++◌, length, drop}
use Rattle.std.specs.List.{concat}
use Rattle.osgi_links.specs.Held.{contents}
use Rattle.osgi_links.specs.computed.Chain.{values_of}
use Rattle.osgi_links.specs.computed.Straight.{IsStraight, bounds_from}
use Rattle.osgi_links.proofs.building.push_bounds.Given as goal

abbrev pub invariant-loop-list : goal.invariant-loop-list
invariant-loop-list l = record {
  count : l.at ≡ length l.nodes.links;
  at : l.at ≡ l.first + l.list-index;
  room : (l.nodes.start ≡ l.fn.nodes.start) × (l.nodes.room ≡ l.fn.nodes.room);
  left : l.bound + length (concat (contents (drop l.list-index l.lists))) ≡ length (concat (contents l.lists));
  values : values_of l.nodes.links ++ bounds_from l.bound (contents (drop l.list-index l.lists)) ≡ values_of l.fn.nodes.links ++ bounds_from 0 (contents l.lists);
  straight : IsStraight l.nodes.links;
}
