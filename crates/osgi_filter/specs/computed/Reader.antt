-- What the reader computes, on lists, from left to right. An Err says how many bytes are left where it stops. No public
-- promise speaks of this. The laws in `Reading` show that `read_filter` gives the readings of the grammar.
use Rattle.std.specs.Prelude.{ℕ, zero, suc, Option, Bool, true, false, ◌==◌, ◌||◌, ◌&&◌, List, [], ◌∷◌, ◌++◌, length, drop, Result, Ok, Err, if◌then◌else◌}
use Rattle.std.specs.Result.{result_ok}
use Rattle.osgi_model.specs.declared.filter.Test.{Test}
use Rattle.osgi_model.specs.declared.filter.Test.TheVariants.{Equal, Approx, AtLeast, AtMost, Present, Pieces}
use Rattle.osgi_model.specs.declared.filter.Filter.{Filter, roll-Filter}
use Rattle.osgi_model.specs.declared.filter.Filter.TheOpen.{And, Or, Not, Item}
use Rattle.osgi_version.specs.Bytes.{is_blank}
use Rattle.osgi_model.specs.Filters.{is_item_name_byte, is_plain}

infixl 10 ◌>>=◌
abbrev pub ◌>>=◌ : {A B : Type 0} → Result A ℕ → (A → Result B ℕ) → Result B ℕ
(Ok x) >>= f = f x
(Err e) >>= f = Err e

abbrev pub skip : List ℕ → List ℕ
skip [] = []
skip (b ∷ bs) = if is_blank b then skip bs else b ∷ bs

-- the bytes after one that is wanted
abbrev pub after : ℕ → List ℕ → Result (List ℕ) ℕ
after wanted [] = Err 0
after wanted (b ∷ bs) = if b == wanted then Ok bs else Err (length (b ∷ bs))

-- the bytes of a name, and what follows the white space after it
abbrev pub name_at : List ℕ → List ℕ → List ℕ → Result (List ℕ × List ℕ) ℕ
name_at name spaces [] = Err 0
name_at name spaces (b ∷ bs) = if is_item_name_byte b then (if is_blank b then name_at name (spaces ++ b ∷ []) bs else name_at (name ++ (spaces ++ b ∷ [])) [] bs) else Ok (name, b ∷ bs)

-- a piece, of which `start` was read, up to the byte that ends it, and what is left from there; `\` is 92
abbrev pub piece_at : Bool → Bool → List ℕ → List ℕ → Result (List ℕ × List ℕ) ℕ
piece_at stars escaped start [] = Err 0
piece_at stars true start (b ∷ bs) = piece_at stars false (start ++ b ∷ []) bs
piece_at stars false start (b ∷ bs) =
    if is_plain stars b then piece_at stars false (start ++ b ∷ []) bs
    else if b == 92 then piece_at stars true start bs
    else Ok (start, b ∷ bs)

-- the pieces of a value, and what follows its ); `\` is 92, `*` 42 and `)` 41
abbrev pub value_at : Bool → Bool → List (List ℕ) → List ℕ → List ℕ → Result (List (List ℕ) × List ℕ) ℕ
value_at cut escaped pieces piece [] = Err 0
value_at cut true pieces piece (b ∷ bs) = value_at cut false pieces (piece ++ b ∷ []) bs
value_at cut false pieces piece (b ∷ bs) =
    if is_plain cut b then value_at cut false pieces (piece ++ b ∷ []) bs
    else if b == 92 then value_at cut true pieces piece bs
    else if b == 42 then value_at cut false (pieces ++ piece ∷ []) [] bs
    else if b == 41 then Ok (pieces ++ piece ∷ [], bs)
    else Err (length (b ∷ bs))

-- what follows a piece, `*` (42) or `)` (41), where `before` are those before it
abbrev pub ended_piece : Bool → List (List ℕ) → List ℕ → List ℕ → Result (List (List ℕ) × List ℕ) ℕ
ended_piece stars before piece [] = Err 0
ended_piece stars before piece (b ∷ bs) = if b == 42 then value_at stars false (before ++ piece ∷ []) [] bs else (after 41 (b ∷ bs) >>= λ r. Ok (before ++ piece ∷ [], r))

-- ---- items

-- `~` (126), `>` (62) or `<` (60)
abbrev pub is_order : ℕ → Bool
is_order b = b == 126 || b == 62 || b == 60

-- the test that such a byte begins
abbrev pub order_test : ℕ → List ℕ → Test
order_test b value = if b == 126 then Approx value else if b == 62 then AtLeast value else AtMost value

abbrev pub is_empty : List ℕ → Bool
is_empty [] = true
is_empty (b ∷ bs) = false

-- a `)` (41) stands first
abbrev pub closes : List ℕ → Bool
closes [] = false
closes (b ∷ bs) = b == 41

-- after a first piece and its *
abbrev pub starred_at : List ℕ → List ℕ → Result (Test × List ℕ) ℕ
starred_at first bytes =
    if is_empty first && closes bytes then Ok (Present, drop 1 bytes)
    else (value_at true false (first ∷ []) [] bytes >>= λ v. Ok (Pieces v.0, v.1))

-- after a first piece: `*` (42), or the `)` (41) of the item
abbrev pub equal_from : List ℕ → List ℕ → Result (Test × List ℕ) ℕ
equal_from first [] = Err 0
equal_from first (b ∷ bs) = if b == 42 then starred_at first bs else (after 41 (b ∷ bs) >>= λ r. Ok (Equal first, r))

abbrev pub equal_at : List ℕ → Result (Test × List ℕ) ℕ
equal_at bytes = piece_at true false [] bytes >>= λ p. equal_from p.0 p.1

-- a value in which stars do not cut, up to its `)` (41)
abbrev pub plain_at : List ℕ → Result (List ℕ × List ℕ) ℕ
plain_at bytes = piece_at false false [] bytes >>= λ p. after 41 p.1 >>= λ r. Ok (p.0, r)

-- a test that begins with such a byte and `=` (61)
abbrev pub order_at : ℕ → List ℕ → Result (Test × List ℕ) ℕ
order_at b bytes = after 61 bytes >>= λ r. plain_at r >>= λ v. Ok (order_test b v.0, v.1)

-- a test, which begins with `=` (61) or such a byte
abbrev pub signed_at : List ℕ → Result (Test × List ℕ) ℕ
signed_at [] = Err 0
signed_at (b ∷ bs) = if b == 61 then equal_at bs else if is_order b then order_at b bs else Err (length (b ∷ bs))

abbrev pub named_at : List ℕ → List ℕ → Result (Filter × List ℕ) ℕ
named_at [] rest = Err (length rest)
named_at (c ∷ cs) rest = signed_at rest >>= λ t. Ok (roll-Filter (Item (c ∷ cs) t.0), t.1)

abbrev pub item_at : List ℕ → Result (Filter × List ℕ) ℕ
item_at bytes = name_at [] [] (skip bytes) >>= λ n. named_at n.0 n.1

-- ---- one level, where `below` reads the filters below it

-- `!` (33), `&` (38) or `|` (124)
abbrev pub is_composing : ℕ → Bool
is_composing b = b == 33 || b == 38 || b == 124

-- a `(` (40) stands first
abbrev pub opens : List ℕ → Bool
opens [] = false
opens (b ∷ bs) = b == 40

-- the filter that `&` (38) or `|` makes of these
abbrev pub listed : ℕ → List Filter → Filter
listed b fs = if b == 38 then roll-Filter (And fs) else roll-Filter (Or fs)

-- a `)` (41) after the operands, or one more of them
abbrev pub operand : (List ℕ → Result (Filter × List ℕ) ℕ) → (List Filter → List ℕ → Result (List Filter × List ℕ) ℕ) → List Filter → List ℕ → Result (List Filter × List ℕ) ℕ
operand below next fs [] = Err 0
operand below next fs (b ∷ bs) = if b == 41 then Ok (fs, bs) else (below (b ∷ bs) >>= λ x. next (fs ++ x.0 ∷ []) x.1)

abbrev pub operands_at : (List ℕ → Result (Filter × List ℕ) ℕ) → ℕ → List Filter → List ℕ → Result (List Filter × List ℕ) ℕ
operands_at below zero fs bytes = Err (length bytes)
operands_at below (suc n) fs bytes = operand below (operands_at below n) fs (skip bytes)

-- each operand takes a byte, so there are at most as many as bytes
abbrev pub listing : (List ℕ → Result (Filter × List ℕ) ℕ) → List Filter → List ℕ → Result (List Filter × List ℕ) ℕ
listing below fs bytes = operands_at below (length bytes) fs bytes

-- the filter after a `!`, and the `)` (41) after it
abbrev pub not_at : (List ℕ → Result (Filter × List ℕ) ℕ) → List ℕ → Result (Filter × List ℕ) ℕ
not_at below bytes = below bytes >>= λ x. after 41 (skip x.1) >>= λ r. Ok (roll-Filter (Not x.0), r)

-- what follows a `!` (33), `&` or `|`
abbrev pub composed_at : (List ℕ → Result (Filter × List ℕ) ℕ) → ℕ → List ℕ → Result (Filter × List ℕ) ℕ
composed_at below b bytes = if b == 33 then not_at below bytes else (operands_at below (length bytes) [] bytes >>= λ x. Ok (listed b x.0, x.1))

abbrev pub inside : (List ℕ → Result (Filter × List ℕ) ℕ) → List ℕ → Result (Filter × List ℕ) ℕ
inside below [] = Err 0
inside below (b ∷ bs) = if is_composing b && opens (skip bs) then composed_at below b (skip bs) else item_at (b ∷ bs)

-- a filter, which begins with `(` (40)
abbrev pub level_at : (List ℕ → Result (Filter × List ℕ) ℕ) → List ℕ → Result (Filter × List ℕ) ℕ
level_at below bytes = after 40 bytes >>= inside below

unfoldable pub filter_at : ℕ → List ℕ → Result (Filter × List ℕ) ℕ
filter_at zero bytes = Err (length bytes)
filter_at (suc n) bytes = level_at (filter_at n) bytes

abbrev pub ended : Filter → List ℕ → Result Filter ℕ
ended f [] = Ok f
ended f (b ∷ bs) = Err (length (b ∷ bs))

abbrev pub whole_at : List ℕ → Result Filter ℕ
whole_at bytes = filter_at 64 (skip bytes) >>= λ x. ended x.0 (skip x.1)

-- the filter that a text reads as
abbrev pub read_filter : List ℕ → Option Filter
read_filter text = result_ok (whole_at text)
