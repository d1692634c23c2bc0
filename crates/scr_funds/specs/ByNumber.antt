-- Holders by numbers (this project's own): the funds come first, in the order of their rows, and the securities after
-- them.
use Rattle.std.specs.Prelude.{ℕ, ◌≤◌, ◌<◌, ◌^◌, All, List, Vec, length, map, slice_index}
use Rattle.std.specs.Global.{Global}
use Rattle.std.specs.List.{enumerate_from}
use Rattle.scr_funds.specs.LookThrough.{Weighted, Shared}

-- the rows of the funds: the numbers of the components with their weights, in the order of the record
abbrev pub weighted_rows : List (Vec (ℕ × ℕ) Global) → List (Weighted ℕ)
weighted_rows rows = map (λ row. row.items) rows

-- each row with the number of its fund
abbrev pub numbered : List (Weighted ℕ) → List (Shared ℕ)
numbered rows = enumerate_from 0 rows

-- what is held directly under a number
abbrev pub held_at : List ℕ → ℕ → ℕ
held_at held k = slice_index held k

-- at most 1,000 components of numbers below the size, each of a weight of 1 to 10^9
pub record IsRow (size : ℕ) (row : Weighted ℕ) : Type 0 where
  pub few : length row ≤ 1000
  pub below : All (λ component. component.0 < size) row
  pub positive : All (λ component. 1 ≤ component.1) row
  pub small : All (λ component. component.1 ≤ 10 ^ 9) row

-- components and funds with names for numbers, in the same order
abbrev pub renamed : {A : Type 0} → (ℕ → A) → Weighted ℕ → Weighted A
renamed name components = map (λ component. (name component.0, component.1)) components

abbrev pub named : {A : Type 0} → (ℕ → A) → List (Shared ℕ) → List (Shared A)
named name funds = map (λ fund. (name fund.0, renamed name fund.1)) funds
