-- What a source that was read to its end had.
use Rattle.std.specs.Prelude.{ℕ, ◌<◌, ◌≤◌, List, length, Option, IfSome}
use Rattle.std.specs.Io.KnownBytes.{Consumes, IsAtEnd}
use Rattle.osgi_outside.specs.Causes.{Rose}
use Rattle.osgi_outside.specs.declared.input.Input.{Input}
use Rattle.osgi_outside.specs.declared.input.Input.TheVariants.{All, TooMuch, Failed}

-- what reading up to `limit` bytes answers, where `before` was left and then `after`, and the source's
-- count of faults was `from` and then `to`
abbrev pub IsInput : ℕ → Option (List ℕ) → Option (List ℕ) → ℕ → ℕ → Input → Type 0
IsInput limit before after from to (All bytes) = Consumes before after bytes × IsAtEnd after × (length bytes ≤ limit)
IsInput limit before after from to TooMuch = IfSome before (λ xs. limit < length xs)
IsInput limit before after from to Failed = Rose from to
