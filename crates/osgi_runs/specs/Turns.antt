-- Who leaves something to be handed hands again: turn by turn, whoever else takes turns in between.
use Rattle.std.specs.Prelude.{ℕ, ◌≡◌, ◌⊎◌, ◌||◌, Bool, true, false, List, [], ◌∷◌, ⊤}
use Rattle.osgi_ops.specs.Brackets.{brackets}
use Rattle.osgi_ops.specs.declared.entry.Entry.{Entry}
use Rattle.osgi_ops.specs.declared.op.Op.{Op}
use Rattle.osgi_ops.specs.declared.op.Op.TheVariants.{EndHand}
use Rattle.osgi_ops.specs.declared.reply.Reply.{Reply}
use Rattle.osgi_runs.specs.Bound.{finds_nothing}
use Rattle.osgi_session.specs.Plans.{stirs}

-- the end of a listener's turn
abbrev pub is_end_of_hand : Op → Bool
is_end_of_hand (EndHand listener) = true
is_end_of_hand _ = false

-- after this call something may be to be handed: something may have been seen, or a listener is free again
abbrev pub leaves_some : Op → Reply → Bool
leaves_some o reply = stirs o reply || is_end_of_hand o

-- one of the entries is a Hand of this caller that finds nothing
abbrev pub HandsToNothing : ℕ → List Entry → Type 0
HandsToNothing caller [] = ⊥
HandsToNothing caller (e ∷ later) = ((e.tag.caller ≡ caller) × (finds_nothing e.op e.reply ≡ true)) ⊎ HandsToNothing caller later

-- who leaves something to be handed, by what it did or since it ends a listener's turn, hands again: behind that entry it has a Hand that
-- finds nothing. Whoever came in between may have handed some of it, and then hands again for itself
abbrev pub HandsAgain : List Entry → Type 0
HandsAgain [] = ⊤
HandsAgain (e ∷ later) = (leaves_some e.op e.reply ≡ true → HandsToNothing e.tag.caller later) × HandsAgain later

-- so it is, and in the end no bracket is open
pub record HandsAgainAndCloses (history : List Entry) : Type 0 where
  pub again : HandsAgain history
  pub closed : brackets history ≡ []
