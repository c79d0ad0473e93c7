-- The nodes of all rows by numbers.
use Rattle.std.specs.Prelude.{ℕ, Bool, cond, List, map, slice_index_or, slice_set}
use Rattle.osgi_links.specs.declared.nodes.Shown.{Shown}

-- a node by numbers: its neighbours in the chain, the node below it on the stack, its row there, and its value
pub record Link : Type 0 where
  pub prev : ℕ
  pub next : ℕ
  pub under : ℕ
  pub row : ℕ
  pub value : ℕ

abbrev pub no_link : Link
no_link = record { prev = 0; next = 0; under = 0; row = 0; value = 0 }

abbrev pub link_at : List Link → ℕ → Link
link_at links k = slice_index_or links k no_link

abbrev pub next_at : List Link → ℕ → ℕ
next_at links k = (link_at links k).next

abbrev pub prev_at : List Link → ℕ → ℕ
prev_at links k = (link_at links k).prev

abbrev pub under_at : List Link → ℕ → ℕ
under_at links k = (link_at links k).under

abbrev pub row_at : List Link → ℕ → ℕ
row_at links k = (link_at links k).row

abbrev pub value_at : List Link → ℕ → ℕ
value_at links k = (link_at links k).value

abbrev pub values_of : List Link → List ℕ
values_of links = map (λ (x : Link). x.value) links

-- a node at no place of the stack
abbrev pub fresh_link : ℕ → ℕ → ℕ → Link
fresh_link prev next value = record { prev = prev; next = next; under = 0; row = 0; value = value }

abbrev pub with_next : List Link → ℕ → ℕ → List Link
with_next links k next = slice_set links k (record (link_at links k) { next = next })

abbrev pub with_prev : List Link → ℕ → ℕ → List Link
with_prev links k prev = slice_set links k (record (link_at links k) { prev = prev })

abbrev pub with_place : List Link → ℕ → ℕ → ℕ → List Link
with_place links k under row = slice_set links k (record (link_at links k) { under = under; row = row })

-- the nodes once `at` is put between its neighbours, or taken out from there, and its place on the stack is written
abbrev pub with_linked : List Link → ℕ → Bool → ℕ → ℕ → List Link
with_linked links at is_linked under row =
    let prev = prev_at links at in let next = next_at links at in
    with_place (with_prev (with_next links prev (cond is_linked at next)) next (cond is_linked at prev)) at under row

-- what a look at a node shows
abbrev pub shown_at : List Link → ℕ → Shown
shown_at links k = record { next = next_at links k; under = under_at links k; row = row_at links k; value = value_at links k }
