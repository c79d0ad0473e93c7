-- A `&` to the nodes lends each node. Assumes `Logic`.
use mathlib.Core.List.{List, [], ◌∷◌}
use Prim.Native.Nat.{◌-◌}
use lib.ListN.{length}
use seplogic.Ra.Ura.{Ura}
use base.Fml.{Lft, ftrue}
use types.Logic.{Logic}
use contract.BorrowLft.{⊑_static}
use denote.Sharing.{ShrLaws}
use denote.SharingLaws.{nothing_shr_laws, beside_shr_laws}
use denote.RawPtr.{Ptr, room_for, ◌+ₚ◌}
use denote.Shares.{Shares, Shares-less}
use denote.Param.Shared.{copy_shared}
use denote.Struct.Field.{RawPtr-field}
use denote.Struct.Laws.{RawPtr-copy}
use denote.Struct.Lending.{lent_at, lent_at_shr_laws, Lends, Lends-lies, Lends-first, Lends-nothing, Lends-both, of_Lends}
use Rattle.osgi_links.specs.declared.nodes.Node.{Node}
use Rattle.osgi_links.specs.contracts.nodes.Node.{the_row as R}
use Rattle.osgi_links.proofs.nodes.Node.TheLaws.{the_row_laws as L}
use Rattle.osgi_links.specs.computed.Blocks.{block_type}
use Rattle.osgi_links.specs.computed.Ownership.{nodes_at, nodes_at_lent, nodes_of, place_of}
use Rattle.osgi_links.specs.contracts.nodes.Nodes as C
use Rattle.osgi_links.proofs.nodes.Nodes.TheLaw.Statement.{statement}

nodes_laws : (p : Ptr) (xs : List Node) → ShrLaws (nodes_at_lent p xs)
nodes_laws p [] = nothing_shr_laws
nodes_laws p (x ∷ xs) = beside_shr_laws (lent_at R p x) (nodes_at_lent (p +ₚ 48) xs) (lent_at_shr_laws R L.shr_laws p x) (nodes_laws (p +ₚ 48) xs)

module _ {M : Type 1} {𝓤 : Ura M} (𝓛 : Logic 𝓤) (l : Lft) (s : Shares 𝓛 R l) where
  Lends-nodes : (p : Ptr) (xs : List Node) → Lends 𝓛 (nodes_at p xs) (nodes_at_lent p xs) l
  Lends-nodes p [] = Lends-nothing 𝓛 ftrue l
  Lends-nodes p (x ∷ xs) = Lends-both 𝓛 _ (nodes_at (p +ₚ 48) xs) (lent_at R p x) (nodes_at_lent (p +ₚ 48) xs) l (Lends-lies 𝓛 R l p x (s x)) (Lends-nodes (p +ₚ 48) xs)

pub shares : statement
shares = of_Lends C.struct C.the_codes C.the_heap C.the_lent
    (λ d p. nodes_laws d.start (nodes_of d.start 0 d.links))
    (copy_shared RawPtr-field RawPtr-copy, tt)
    (λ M 𝓤 𝓛 d p.
    let l = (C.the_row).lives in let xs = nodes_of d.start 0 d.links in
    Lends-first 𝓛 (nodes_at d.start xs) (room_for (block_type (d.room - length d.links)) (place_of d.start (length d.links))) (nodes_at_lent d.start xs) l
    (Lends-nodes 𝓛 l (Shares-less 𝓛 R R.lives l (⊑_static l) (L.shares 𝓛)) d.start xs))
