-- Nodes in memory are nodes by numbers.
use Prim.Native.Nat.{zero, suc}
use Rattle.std.proofs.Common.{◌≡◌, ℕ, ◌+◌, ◌<◌, List, [], ◌∷◌, ◌++◌, length, set, get_or, refl, ap, ◌∙◌, arith}
use denote.RawPtr.{Ptr}
use Rattle.osgi_links.specs.declared.nodes.Node.{Node}
use Rattle.osgi_links.specs.computed.Chain.{Link, link_at}
use Rattle.osgi_links.specs.computed.Ownership.{node_of, nodes_of}

pub nodes_of-length : (start : Ptr) (k : ℕ) (links : List Link) → length (nodes_of start k links) ≡ length links
nodes_of-length start k [] = refl
nodes_of-length start k (link ∷ links) = ap suc (nodes_of-length start (k + 1) links)

get_from : (start : Ptr) (k : ℕ) (links : List Link) (i : ℕ) (d : Node) → i < length links → get_or (nodes_of start k links) i d ≡ node_of start (k + i) (link_at links i)
get_from start k [] i d h = absurd (let h' : i < 0 = h in omega (arith, h'))
get_from start k (link ∷ links) zero d h = let e : k ≡ k + 0 = omega arith in ap (λ n. node_of start n link) e
get_from start k (link ∷ links) (suc i) d h =
    let e : k + 1 + i ≡ k + suc i = omega arith in
    get_from start (k + 1) links i d (let h' : suc i < suc (length links) = h in omega (arith, h')) ∙ ap (λ n. node_of start n (link_at links i)) e

pub get_of : (start : Ptr) (links : List Link) (i : ℕ) (d : Node) → i < length links → get_or (nodes_of start 0 links) i d ≡ node_of start i (link_at links i)
get_of start links i d h = let e : 0 + i ≡ i = omega arith in get_from start 0 links i d h ∙ ap (λ n. node_of start n (link_at links i)) e

set_from : (start : Ptr) (k : ℕ) (links : List Link) (i : ℕ) (l : Link) → set (nodes_of start k links) i (node_of start (k + i) l) ≡ nodes_of start k (set links i l)
set_from start k [] i l = refl
set_from start k (link ∷ links) zero l = let e : k + 0 ≡ k = omega arith in ap (λ n. node_of start n l ∷ nodes_of start (k + 1) links) e
set_from start k (link ∷ links) (suc i) l =
    let e : k + suc i ≡ k + 1 + i = omega arith in
    ap (λ n. node_of start k link ∷ set (nodes_of start (k + 1) links) i (node_of start n l)) e ∙ ap (λ t. node_of start k link ∷ t) (set_from start (k + 1) links i l)

pub set_of : (start : Ptr) (links : List Link) (i : ℕ) (l : Link) → set (nodes_of start 0 links) i (node_of start i l) ≡ nodes_of start 0 (set links i l)
set_of start links i l = let e : i ≡ 0 + i = omega arith in ap (λ n. set (nodes_of start 0 links) i (node_of start n l)) e ∙ set_from start 0 links i l

push_from : (start : Ptr) (k : ℕ) (links : List Link) (l : Link) → nodes_of start k links ++ node_of start (k + length links) l ∷ [] ≡ nodes_of start k (links ++ l ∷ [])
push_from start k [] l = let e : k + 0 ≡ k = omega arith in ap (λ n. node_of start n l ∷ []) e
push_from start k (link ∷ links) l =
    let e : k + suc (length links) ≡ k + 1 + length links = omega arith in
    ap (λ n. node_of start k link ∷ (nodes_of start (k + 1) links ++ node_of start n l ∷ [])) e ∙ ap (λ t. node_of start k link ∷ t) (push_from start (k + 1) links l)

pub push_of : (start : Ptr) (links : List Link) (at : ℕ) (l : Link) → at ≡ length links → nodes_of start 0 links ++ node_of start at l ∷ [] ≡ nodes_of start 0 (links ++ l ∷ [])
push_of start links at l is = let e : at ≡ 0 + length links = omega (arith, is) in ap (λ n. nodes_of start 0 links ++ node_of start n l ∷ []) e ∙ push_from start 0 links l
