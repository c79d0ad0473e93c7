-- What values by numbers hold.
use Rattle.std.specs.Prelude.{◌≡◌, ℕ, ◌==◌, cond, ltb, Option, None, Some, OnSome, slice_index_or}
use Rattle.std.specs.BTreeMap.{get}
use Rattle.std.specs.Borrow.{Fml, LendsSo, MutBor, RattleType}
use Rattle.std.specs.Ordering.{nat_cmp}
use Rattle.osgi_base.specs.declared.number_map.NumberMap.{NumberMap}
use Rattle.osgi_base.specs.declared.number_map.TheConstants.{LOW}
use Rattle.osgi_base.specs.contracts.number_map.NumberMap.{the_row}

-- the value of the number
abbrev pub value_at : {T : Type 0} → NumberMap T → ℕ → Option T
value_at map number = cond (ltb number LOW) (slice_index_or map.low.items number None) (get nat_cmp map.high number)

-- the number has this value, and each other number the one that it had
abbrev pub Puts : {T : Type 0} → NumberMap T → NumberMap T → ℕ → T → Type 0
Puts old new number value = (n : ℕ) → value_at new n ≡ cond (number == n) (Some value) (value_at old n)

abbrev pub HoldsSame : {T : Type 0} → NumberMap T → NumberMap T → Type 0
HoldsSame old new = (n : ℕ) → value_at new n ≡ value_at old n

-- the map ends with the last value written through the result as the number's value
abbrev pub LendsValue : (T : RattleType) → MutBor (NumberMap T.Denot) → ℕ → Option (MutBor T.Denot) → Fml
LendsValue T map number result = LendsSo (the_row T) T map result (λ new value. OnSome result (Puts map.now new number value)) (HoldsSame map.now)
