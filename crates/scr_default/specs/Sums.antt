-- Sums over the first so many places (this project's own).
use Rattle.std.specs.Prelude.{ℕ, zero, suc}

-- the sum of a term for each place below n; `none` and `add` say in which numbers
module _ {B : Type 0} (none : B) (add : B → B → B) (term : ℕ → B) where
  unfoldable pub sum_below : ℕ → B
  sum_below zero = none
  sum_below (suc n) = add (sum_below n) (term n)
