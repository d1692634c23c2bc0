-- Sums over the rows before a place, as loops keep them.
use Rattle.std.proofs.Common.{◌≡◌, ◌∙◌, ℕ, ◌+◌, ◌<◌, ◌≤◌, Bool, true, false, List, Some, count_by, drop, get_or, length, slice_get, sum_by, take, ap, sym, arith}
use Rattle.std.specs.Prelude.{max}
use Rattle.std.proofs.lemmas.List.{drop_more}
use Rattle.std.proofs.lemmas.List.Sums.{count_by_more_no, count_by_more_yes, sum_by_more, sum_by_more_le}
use Rattle.std.proofs.lemmas.Option.{get_or_from_slice_get, slice_get_within}
use Rattle.scr_sheet.specs.BalanceSheet.{greatest}

module _ {X : Type 0} (xs : List X) (k : ℕ) (x : X) (at : slice_get xs k ≡ Some x) where
  within : k < length xs
  within = slice_get_within xs k x at

  here : get_or xs k x ≡ x
  here = get_or_from_slice_get xs k x x at

  -- the sum before the next place
  pub sum-more : (f : X → ℕ) → sum_by f (take (k + 1) xs) ≡ sum_by f (take k xs) + f x
  sum-more f = sum_by_more f xs k x within ∙ ap (λ (y : X). sum_by f (take k xs) + f y) here

  -- it is within the whole
  pub sum-within : (f : X → ℕ) → sum_by f (take k xs) + f x ≤ sum_by f xs
  sum-within f = omega (arith, sum_by_more_le f xs k x within, ap f here)

  -- how many pass a test before the next place
  pub count-yes : (p : X → Bool) → p x ≡ true → count_by p (take (k + 1) xs) ≡ count_by p (take k xs) + 1
  count-yes p passes = count_by_more_yes p xs k x within (ap p here ∙ passes)

  pub count-no : (p : X → Bool) → p x ≡ false → count_by p (take (k + 1) xs) ≡ count_by p (take k xs)
  count-no p fails = count_by_more_no p xs k x within (ap p here ∙ fails)

-- the greatest so far, and those from the next place on
pub greatest-more : {X : Type 0} (f : X → ℕ) (xs : List X) (k : ℕ) (d : X) (so_far : ℕ) → k < length xs
    → max (max (f (get_or xs k d)) so_far) (greatest f (drop (k + 1) xs)) ≡ max so_far (greatest f (drop k xs))
greatest-more {X} f xs k d so_far lt =
    turned (f (get_or xs k d)) so_far (greatest f (drop (k + 1) xs))
    ∙ ap (λ (ys : List X). max so_far (greatest f ys)) (sym (drop_more xs k d lt))
  where
    turned : (a b c : ℕ) → max (max a b) c ≡ max b (max a c)
    turned a b c = omega arith
