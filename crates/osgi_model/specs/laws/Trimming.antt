-- What is left of a text without the white space round it.
use Rattle.std.proofs.Common.{◌≡◌, ℕ, ◌+◌, ◌-◌, ◌<◌, ◌≤◌, List, [], ◌∷◌, ◌++◌, length, get_or, take, drop, ap, sym, ◌∙◌, refl, arith, length-append, length-drop}
use Rattle.std.specs.Prelude.{Bool, true, false, reverse}
use Rattle.std.specs.Char.{is_ascii_whitespace}
use Rattle.std.specs.List.{AllPass, prefix_len, suffix_len}
use Rattle.std.proofs.Math.ListN.{get_or-append}
use Rattle.std.proofs.Math.Seq.{drop-append_seam, take-append_seam}
use Rattle.std.proofs.lemmas.Bool.{cond-false, cond-true}
use Rattle.std.proofs.lemmas.List.{get_or-append_right, get_or-drop, get_or-reverse, get_or-take, length-take-le, take-append-drop}
use Rattle.std.proofs.lemmas.List.Elements.{All-head, All-tail}
use Rattle.std.proofs.lemmas.List.Sums.{prefix_len-le-length, prefix_len_passes, suffix_len-le-length, suffix_len_is}
use Rattle.osgi_model.specs.computed.LongReader.{trimmed}

front_passes : (p : ℕ → Bool) (xs : List ℕ) → AllPass p (take (prefix_len p xs) xs)
front_passes p xs = λ k d below.
    let len : length (take (prefix_len p xs) xs) ≡ prefix_len p xs = length-take-le (prefix_len p xs) xs (prefix_len-le-length p xs) in
    let lt : k < prefix_len p xs = omega (arith, len, below) in
    ap p (get_or-take (prefix_len p xs) xs k d lt) ∙ prefix_len_passes p xs k d lt

back_passes : (p : ℕ → Bool) (xs : List ℕ) → AllPass p (drop (length xs - suffix_len p xs) xs)
back_passes p xs = λ k d below.
    let n : ℕ = length xs - suffix_len p xs in
    let most : suffix_len p xs ≤ length xs = suffix_len-le-length p xs in
    let len : length (drop n xs) ≡ length xs - n = length-drop n xs in
    let j : ℕ = length xs - 1 - (n + k) in
    let mirrored : get_or (reverse xs) j d ≡ get_or xs (n + k) d
    = get_or-reverse xs j d (omega (arith, len, below)) ∙ ap (λ i. get_or xs i d) (omega (arith, len, below)) in
    ap p (get_or-drop n xs k d ∙ sym mirrored) ∙ prefix_len_passes p (reverse xs) j d (omega (arith, len, below, most))

-- a text, and what is left of it without the white space round it
pub record Trims (text : List ℕ) : Type 0 where
  pub before : List ℕ
  pub remainder : List ℕ
  pub is : text ≡ before ++ (trimmed text ++ remainder)
  pub white_before : AllPass is_ascii_whitespace before
  pub white_after : AllPass is_ascii_whitespace remainder

pub trims : (text : List ℕ) → Trims text
trims text =
    let prefix : ℕ = prefix_len is_ascii_whitespace text in
    let begun : List ℕ = drop prefix text in
    let end : ℕ = length begun - suffix_len is_ascii_whitespace begun in
    record {
      before = take prefix text;
      remainder = drop end begun;
      is = sym (ap (λ l. take prefix text ++ l) (take-append-drop end begun) ∙ take-append-drop prefix text);
      white_before = front_passes is_ascii_whitespace text;
      white_after = back_passes is_ascii_whitespace begun;
    }

-- a text that neither begins nor ends with white space, and is not empty
pub record IsTight (text : List ℕ) : Type 0 where
  pub some : 0 < length text
  pub first : is_ascii_whitespace (get_or text 0 0) ≡ false
  pub last : is_ascii_whitespace (get_or text (length text - 1) 0) ≡ false

stops_at_once : (p : ℕ → Bool) (xs : List ℕ) → 0 < length xs → p (get_or xs 0 0) ≡ false → prefix_len p xs ≡ 0
stops_at_once p [] some fails = refl
stops_at_once p (x ∷ xs) some fails = cond-false (p x) _ _ fails

prefix_len-front : (p : ℕ → Bool) (prefix rest : List ℕ) → AllPass p prefix → prefix_len p rest ≡ 0 → prefix_len p (prefix ++ rest) ≡ length prefix
prefix_len-front p [] rest all stops = stops
prefix_len-front p (x ∷ prefix) rest all stops =
    let more : prefix_len p (prefix ++ rest) ≡ length prefix = prefix_len-front p prefix rest (All-tail (λ y. p y ≡ true) x prefix all) stops in
    cond-true (p x) _ _ (All-head (λ y. p y ≡ true) x prefix all) ∙ omega (arith, more)

begins_tight : (text remainder : List ℕ) → IsTight text → is_ascii_whitespace (get_or (text ++ remainder) 0 0) ≡ false
begins_tight text remainder tight = ap is_ascii_whitespace (get_or-append text remainder 0 0 tight.some) ∙ tight.first

white_end : (text remainder : List ℕ) → IsTight text → AllPass is_ascii_whitespace remainder →
    suffix_len is_ascii_whitespace (text ++ remainder) ≡ length (text ++ remainder) - length text
white_end text remainder tight white =
    let len = length-append text remainder in
    suffix_len_is is_ascii_whitespace (text ++ remainder) (length text) 0 (omega (arith, len))
    (λ k from below.
    ap is_ascii_whitespace (get_or-append_right text remainder (length text) k 0 refl from) ∙ white (k - length text) 0 (omega (arith, len, below, from)))
    (λ some. ap is_ascii_whitespace (get_or-append text remainder 0 (length text - 1) (omega arith)) ∙ tight.last)

-- such a text is what is left where white space stands round it
pub trimmed-tight : (before text remainder : List ℕ) → IsTight text → AllPass is_ascii_whitespace before → AllPass is_ascii_whitespace remainder →
    trimmed (before ++ (text ++ remainder)) ≡ text
trimmed-tight before text remainder tight white_before white_after =
    let all : List ℕ = before ++ (text ++ remainder) in
    let prefix : prefix_len is_ascii_whitespace all ≡ length before
    = prefix_len-front is_ascii_whitespace before (text ++ remainder) white_before
    (stops_at_once is_ascii_whitespace (text ++ remainder) (omega (arith, tight.some, length-append text remainder)) (begins_tight text remainder tight)) in
    let begun : drop (prefix_len is_ascii_whitespace all) all ≡ text ++ remainder
    = ap (λ n. drop n all) prefix ∙ drop-append_seam before (text ++ remainder) in
    let end : length (text ++ remainder) - suffix_len is_ascii_whitespace (text ++ remainder) ≡ length text
    = omega (arith, white_end text remainder tight white_after, length-append text remainder) in
    ap (λ l. take (length l - suffix_len is_ascii_whitespace l) l) begun ∙ ap (λ n. take n (text ++ remainder)) end ∙ take-append_seam text remainder
