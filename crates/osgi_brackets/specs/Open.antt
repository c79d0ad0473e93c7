-- Which brackets are open, how they change, and that they are those of a history.
use Rattle.std.specs.Prelude.{ℕ, ◌≡◌, ◌==◌, ◌<◌, ◌≤◌, if◌then◌else◌, List, [], ◌∷◌, length, map, reverse, Option, None, Some, IsSomeAnd, vec_capacity, vec_len}
use Rattle.std.specs.Option.{option_map_or}
use Rattle.osgi_base.specs.NumberMaps.{value_at}
use Rattle.osgi_base.specs.declared.ids.Tag.{Tag}
use Rattle.osgi_ops.specs.Brackets.{Bracket, bracket, brackets_of, Cause}
use Rattle.osgi_ops.specs.OwnBrackets.{without_first}
use Rattle.osgi_ops.specs.declared.entry.Entry.{Entry}
use Rattle.osgi_ops.specs.declared.limits.TheConstants.{MAX_BRACKETS}
use Rattle.osgi_brackets.specs.declared.bracket.OpenBracket.{OpenBracket}
use Rattle.osgi_brackets.specs.declared.brackets.Brackets.{Brackets}
use Rattle.osgi_brackets.specs.Kinds.{bracket_of}

-- what is kept of a caller, the innermost last
abbrev pub kept_of : Brackets → ℕ → List OpenBracket
kept_of brackets caller = option_map_or (λ own. own.items) (value_at brackets.callers caller) []

-- the open brackets of a caller, the innermost first
abbrev pub open_of : Brackets → ℕ → List Bracket
open_of brackets caller = map (bracket_of caller) (reverse (kept_of brackets caller))

abbrev pub innermost_of : List Bracket → Option Bracket
innermost_of [] = None
innermost_of (b ∷ outer) = Some b

-- the caller has as many brackets open as it may
abbrev pub HoldsMost : ℕ → Brackets → Type 0
HoldsMost caller brackets = MAX_BRACKETS ≤ length (open_of brackets caller)

-- the tag's caller has this one more, within those that it had; no other caller's change
abbrev pub Opens : Brackets → Brackets → Tag → Cause → Type 0
Opens old new tag cause = (caller : ℕ) → open_of new caller ≡ (if tag.caller == caller then bracket tag cause ∷ open_of old caller else open_of old caller)

-- the caller has all but its innermost; no other caller's change
abbrev pub Closes : Brackets → Brackets → ℕ → Type 0
Closes old new closing = (caller : ℕ) → open_of new caller ≡ (if closing == caller then without_first (open_of old caller) else open_of old caller)

abbrev pub HoldsSame : Brackets → Brackets → Type 0
HoldsSame old new = (caller : ℕ) → open_of new caller ≡ open_of old caller

-- one more bracket of the caller takes no memory
abbrev pub HasRoom : ℕ → Brackets → Type 0
HasRoom caller brackets = IsSomeAnd (value_at brackets.callers caller) (λ own. vec_len own < vec_capacity own)

-- they are those that are open in the history
abbrev pub StandsFor : List Entry → Brackets → Type 0
StandsFor history brackets = (caller : ℕ) → open_of brackets caller ≡ brackets_of caller history
