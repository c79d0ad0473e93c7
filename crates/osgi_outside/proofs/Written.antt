-- Known bytes that grow twice.
use Rattle.std.proofs.Common.{◌≡◌, ℕ, ◌+◌, ◌-◌, List, Option, None, Some, length, take, drop, length-drop, append_assoc, arith}
use Rattle.std.specs.Io.KnownBytes.{Appends, Keeps}
use Rattle.std.proofs.Math.Seq.{take-add}
use Rattle.std.proofs.lemmas.List.{take_all}
use Rattle.std.proofs.lemmas.Grind.{common_steps}

-- the slice `&xs[i..]` is `take (length xs - i) (drop i xs)`
pub Appends-after : (o m n : Option (List ℕ)) (xs : List ℕ) (i k : ℕ) → Appends o m (take i xs) → Appends m n (take k (take (length xs - i) (drop i xs))) → Appends o n (take (i + k) xs)
Appends-after None m n xs i k p q = tt
Appends-after (Some a) None n xs i k p q = absurd p
Appends-after (Some a) (Some b) None xs i k p q = absurd q
Appends-after (Some a) (Some b) (Some c) xs i k p q =
    let e : take (length xs - i) (drop i xs) ≡ drop i xs = take_all (length xs - i) (drop i xs) (omega (arith, length-drop i xs)) in
    rw (take-add i k xs, ← append_assoc a (take i xs) (take k (drop i xs)), ← p, ← e) q

pub Appends-kept : (o m n : Option (List ℕ)) (xs : List ℕ) → Appends o m xs → Keeps m n → Appends o n xs
Appends-kept None m n xs p q = tt
Appends-kept (Some a) None n xs p q = absurd p
Appends-kept (Some a) (Some b) None xs p q = absurd q
Appends-kept (Some a) (Some b) (Some c) xs p q = grind (arith, common_steps)

pub ruleset grown = (Appends-after, Appends-kept)
