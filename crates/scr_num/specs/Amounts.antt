-- How large the ends of an amount, which is not negative, are (this project's own).
use Rattle.std.specs.Prelude.{ℕ, ◌≤◌, pos, ◌≤ℤ◌, List, [], ◌∷◌, sum_by, unsigned_abs}
use Rattle.scr_num.specs.Rounding.{Ends}

-- ends in order, neither of which is negative or above `most`
pub record IsAmount (most : ℕ) (e : Ends) : Type 0 where
  pub not_negative : pos 0 ≤ℤ e.low
  pub ordered : e.low ≤ℤ e.high
  pub low_size : unsigned_abs e.low ≤ most
  pub high_size : unsigned_abs e.high ≤ most

-- each within its own number
abbrev pub AreAmounts : List ℕ → List Ends → Type 0
AreAmounts [] [] = Unit {0}
AreAmounts (most ∷ mosts) (e ∷ es) = IsAmount most e × AreAmounts mosts es
AreAmounts [] (e ∷ es) = ⊥
AreAmounts (most ∷ mosts) [] = ⊥
