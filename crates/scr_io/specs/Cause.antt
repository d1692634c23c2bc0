-- Why a call may say that reading or writing failed (this project's own).
use Rattle.std.specs.Prelude.{ℕ, ◌+◌, ◌-◌, ◌^◌, ◌≤◌, min, Result, OnErr}

-- a count after one more, which stops at the end of `u64`
abbrev pub risen : ℕ → ℕ
risen count = min (count + 1) (2 ^ 64 - 1)

-- a count of faults rose by one or more; one that stood at the end of `u64` counts as risen
abbrev pub Rose : ℕ → ℕ → Type 0
Rose before now = risen before ≤ now

-- the call failed only where the count rose in it
abbrev pub HasCause : {T E : Type 0} → ℕ → ℕ → Result T E → Type 0
HasCause before now result = OnErr result (Rose before now)
