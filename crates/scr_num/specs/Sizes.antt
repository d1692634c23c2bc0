-- How large ends of either sign are, one by one and together (this project's own).
use Rattle.std.specs.Prelude.{ℕ, ◌≤◌, List, sum_by, unsigned_abs}
use Rattle.scr_num.specs.Rounding.{Ends}

-- neither end is further from 0 than `most`
pub record IsWithin (most : ℕ) (ends : Ends) : Type 0 where
  pub low : unsigned_abs ends.low ≤ most
  pub high : unsigned_abs ends.high ≤ most

-- neither the low nor the high ends, without their signs, sum to more than `most`
pub record AreTogether (most : ℕ) (list : List Ends) : Type 0 where
  pub lows : sum_by (λ e. unsigned_abs e.low) list ≤ most
  pub highs : sum_by (λ e. unsigned_abs e.high) list ≤ most
