-- When an object that counts its faults may answer one.
use Rattle.std.specs.Prelude.{ℕ, ◌+◌, ◌-◌, ◌^◌, ◌≤◌, min, refl, Result, OnErr}
use Rattle.std.specs.Coded.{Coded, code_by, coded×, coded_ℕ}

-- the count is greater than before, or stands at the greatest `u64`
abbrev pub Rose : ℕ → ℕ → Type 0
Rose before now = min (before + 1) (2 ^ 64 - 1) ≤ now

-- the count did not fall, and rose where the call failed
pub record HasCause {T E : Type 0} (before now : ℕ) (result : Result T E) : Type 0 where
  pub later : before ≤ now
  pub failed : OnErr result (Rose before now)

-- something, and how often it has failed
pub record Counting (X : Type 0) : Type 0 where
  pub inner : X
  pub faults : ℕ

abbrev pub counting_code : {X : Type 0} → Coded X → Coded (Counting X)
counting_code {X} code = code_by (X × ℕ) (coded× code coded_ℕ) (λ c. (c.inner, c.faults)) (λ p. record { inner = p.0; faults = p.1 }) (λ _. refl)
