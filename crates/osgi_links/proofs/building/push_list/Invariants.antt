-- What the loop of `push_list` keeps true.
use Rattle.std.proofs.Common.{◌≡◌, ◌+◌, ◌++◌, length, take}
use Rattle.osgi_links.specs.computed.Chain.{values_of}
use Rattle.osgi_links.specs.computed.Straight.{IsStraight}
use Rattle.osgi_links.proofs.building.push_list.Given as goal

abbrev pub invariant-loop-value : goal.invariant-loop-value
invariant-loop-value l = record {
  at : l.at ≡ l.first + l.value-index;
  count : l.at ≡ length l.nodes.links;
  room : (l.nodes.start ≡ l.fn.nodes.start) × (l.nodes.room ≡ l.fn.nodes.room);
  values : values_of l.nodes.links ≡ values_of l.fn.nodes.links ++ take l.value-index l.list;
  straight : IsStraight l.nodes.links;
}
