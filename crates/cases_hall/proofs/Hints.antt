-- What a hint shows of a counter, and that a view may be handed in as one.
use Rattle.std.proofs.Common.{◌≡◌, ◌≤◌, ◌+◌, ℕ, List, [], length, length-append, ap, sym, ◌∙◌, arith}
use Rattle.std.proofs.lemmas.List.{append-nil}
use Rattle.osgi_hall.specs.declared.entry.Entry.{Entry}
use Rattle.osgi_hall.specs.Histories.{TellsOfPrefix}
use Rattle.cases_hall.specs.declared.counter.Answer.{Answer}
use Rattle.cases_hall.specs.Totals.{HintsCount}

-- a counter that had as many entries as it may have still has so many
pub still_full : (limit count : ℕ) (history : List (Entry ℕ Answer)) → count ≡ limit → length history ≤ limit → TellsOfPrefix (HintsCount limit) history count → length history ≡ limit
still_full limit count history is within told =
    let whole : length history ≡ length told.0 + length told.1.0 = ap length told.1.1 ∙ length-append told.0 told.1.0 in
    let had : length told.0 ≡ count = told.2 in
    omega arith

-- what has been seen is a prefix of itself
pub seen_counts : (limit count : ℕ) (seen : List (Entry ℕ Answer)) → length seen ≡ count → TellsOfPrefix (HintsCount limit) seen count
seen_counts limit count seen told = (seen, ([], sym (append-nil seen)), told)
