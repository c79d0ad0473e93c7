-- What the nodes of rows stand for, and what is true of them.
use Prim.Native.Nat.{zero, suc}
use Rattle.std.specs.Prelude.{◌≡◌, ℕ, ◌+◌, ◌-◌, ◌^◌, ◌<◌, ◌≤◌, true, false, cond, ltb, List, [], ◌∷◌, drop, length, map, take, Option, None, Some}
use Rattle.osgi_links.specs.declared.rows.Rows.TheInside.{Inside}
use Rattle.osgi_links.specs.Held.{Held, count_up, has}
use Rattle.osgi_links.specs.computed.Chain.{Link, next_at, prev_at, row_at, under_at, value_at, values_of}

-- rows from the numbers of their first items
abbrev pub rows_from : ℕ → List ℕ → List (List ℕ)
rows_from first [] = []
rows_from first (next ∷ bounds) = count_up first (next - first) ∷ rows_from next bounds

abbrev pub rows_between : List ℕ → List (List ℕ)
rows_between [] = []
rows_between (first ∷ bounds) = rows_from first bounds

-- the nodes on the stack, from the top down
abbrev pub stack : List Link → ℕ → ℕ → List ℕ
stack links zero top = []
stack links (suc depth) top = top ∷ stack links depth (under_at links top)

abbrev pub item_at : List Link → ℕ → ℕ
item_at links node = node - row_at links node - 1

abbrev pub seen_of : List Link → ℕ → ℕ → ℕ → Held
seen_of links items depth top =
    record {
      rows = rows_between (drop items (values_of links));
      values = take items (values_of links);
      removed = map (item_at links) (stack links depth top);
    }

abbrev pub seen : Inside → Held
seen a = seen_of (a.block.nodes.links) a.items a.depth a.top

-- `next` is the first node after the node that is not out
pub record IsNext (out : List ℕ) (node next : ℕ) : Type 0 where
  pub above : node < next
  pub stays : has out next ≡ false
  pub skips : (k : ℕ) → node < k → k < next → has out k ≡ true

-- `prev` is the last node before the node that is not out
pub record IsPrev (out : List ℕ) (node prev : ℕ) : Type 0 where
  pub below : prev < node
  pub stays : has out prev ≡ false
  pub skips : (k : ℕ) → prev < k → k < node → has out k ≡ true

-- the links of each node that is not out lead to its neighbours
abbrev pub IsLinked : (ℕ → ℕ) → (ℕ → ℕ) → ℕ → List ℕ → Type 0
IsLinked nx pv count out =
    (node : ℕ) → node < count → has out node ≡ false
    → (node + 1 < count → IsNext out node (nx node)) × (0 < node → IsPrev out node (pv node))

-- the links of each node on the stack lead to the neighbours that it had
abbrev pub Remembers : (ℕ → ℕ) → (ℕ → ℕ) → List ℕ → Type 0
Remembers nx pv [] = Unit {0}
Remembers nx pv (node ∷ out) = (has out node ≡ false) × (IsNext out node (nx node) × (IsPrev out node (pv node) × Remembers nx pv out))

-- the node is an item of the row that it names
pub record IsHome (links : List Link) (items node : ℕ) : Type 0 where
  pub row_in : items + row_at links node + 1 < length links
  pub above : value_at links (items + row_at links node) + row_at links node < node
  pub below : node < value_at links (items + row_at links node + 1) + row_at links node + 1

-- no link leads out of the nodes
abbrev pub IsInside : List Link → Type 0
IsInside links = (node : ℕ) → node < length links → (prev_at links node < length links) × (next_at links node < length links)

-- how many of the numbers below n are not in the list
abbrev pub left : ℕ → List ℕ → ℕ
left zero out = 0
left (suc n) out = cond (has out n) (left n out) (left n out + 1)

-- what is true of the nodes when these are out: the first nodes have the values of items, the others the numbers of rows' first items
pub record IsSound_at (links : List Link) (items : ℕ) (out : List ℕ) : Type 0 where
  pub counted : items < length links
  pub small : length links < 2 ^ 64
  pub rising : (r s : ℕ) → r ≤ s → items + s < length links → value_at links (items + r) ≤ value_at links (items + s)
  pub ended : (r : ℕ) → items + r < length links → value_at links (items + r) ≤ items
  pub inside : IsInside links
  pub linked : IsLinked (next_at links) (prev_at links) (length links) out
  pub remembered : Remembers (next_at links) (prev_at links) out
  pub homes : (node : ℕ) → has out node ≡ true → IsHome links items node
  pub all_counted : length out + left (length links) out ≡ length links

abbrev pub IsSound : Inside → Type 0
IsSound a = IsSound_at (a.block.nodes.links) a.items (stack (a.block.nodes.links) a.depth a.top)

-- the item behind the node, if it is in the row
abbrev pub item_behind : List Link → ℕ → ℕ → ℕ → Option ℕ
item_behind links items row node =
    let item = next_at links node - row - 1 in cond (ltb item (value_at links (items + row + 1))) (Some item) None
