-- What the nodes own, and what a `&` to them holds.
use Rattle.std.specs.Prelude.{ℕ, ◌+◌, ◌-◌, ◌*◌, List, [], ◌∷◌, length}
use base.Fraction.{full_share}
use base.Fml.{Lft, Fml, ftrue, fsep}
use denote.Sharing.{nothing, beside}
use denote.RawPtr.{Ptr, block_ptr, null_ptr, lies_at, room_for, ◌+ₚ◌}
use denote.Struct.Lending.{lent_at}
use Rattle.osgi_links.specs.declared.nodes.Node.{Node}
use Rattle.osgi_links.specs.contracts.nodes.Node.{the_row}
use Rattle.osgi_links.specs.computed.Blocks.{block_type}
use Rattle.osgi_links.specs.computed.Chain.{Link}

-- where the node of this number lies
abbrev pub place_of : Ptr → ℕ → Ptr
place_of (block_ptr b o) k = block_ptr b (k * 48 + o)
place_of null_ptr k = null_ptr

-- the node of this number, with pointers into the block that begins at start
abbrev pub node_of : Ptr → ℕ → Link → Node
node_of start k link = record { prev = place_of start link.prev; next = place_of start link.next; number = k; under = link.under; row = link.row; value = link.value }

-- the nodes from the number k on
abbrev pub nodes_of : Ptr → ℕ → List Link → List Node
nodes_of start k [] = []
nodes_of start k (link ∷ links) = node_of start k link ∷ nodes_of start (k + 1) links

-- nodes one after another, from p on
abbrev pub nodes_at : Ptr → List Node → Fml
nodes_at p [] = ftrue
nodes_at p (x ∷ xs) = fsep (lies_at the_row full_share p x) (nodes_at (p +ₚ 48) xs)

-- the same behind a `&`
abbrev pub nodes_at_lent : Ptr → List Node → Lft → Fml
nodes_at_lent p [] = nothing
nodes_at_lent p (x ∷ xs) = beside (lent_at the_row p x) (nodes_at_lent (p +ₚ 48) xs)

-- the nodes, and room for the others
abbrev pub nodes_own : Ptr → List Link → ℕ → Fml
nodes_own start links room = fsep (nodes_at start (nodes_of start 0 links)) (room_for (block_type (room - length links)) (place_of start (length links)))

abbrev pub nodes_lent : Ptr → List Link → Lft → Fml
nodes_lent start links = nodes_at_lent start (nodes_of start 0 links)
