-- Ends in memory: which of their calls fail.
use Rattle.std.specs.Prelude.{ℕ, ◌+◌, ◌-◌, ◌^◌, ◌==◌, min, Bool, List, if◌then◌else◌}
use Rattle.std.specs.List.{list_any}

-- the numbers of the calls that are to fail, counted from 1, and how many calls were made and failed
pub record ScriptState : Type 0 where
  pub fail : List ℕ
  pub calls : ℕ
  pub faults : ℕ

-- a count of one more, which stands still at the greatest `u64`
abbrev pub one_more : ℕ → ℕ
one_more n = min (n + 1) (2 ^ 64 - 1)

-- whether the next call is to fail
abbrev pub is_failing : ScriptState → Bool
is_failing s = list_any (λ n. n == one_more s.calls) s.fail

-- what holds after the next call
abbrev pub after_call : ScriptState → ScriptState
after_call s = record { fail = s.fail; calls = one_more s.calls; faults = if is_failing s then one_more s.faults else s.faults }

-- a source in memory
pub record SourceState : Type 0 where
  pub left : List ℕ
  pub script : ScriptState

-- a sink in memory; `starved` counts the writes that failed where memory ran out
pub record SinkState : Type 0 where
  pub written : List ℕ
  pub flushed : List ℕ
  pub script : ScriptState
  pub starved : ℕ
