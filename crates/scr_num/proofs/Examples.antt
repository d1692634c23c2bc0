-- Worked examples, by computation.
use Rattle.std.proofs.Common.{◌≡◌, ℕ, pos, negsuc, [], ◌∷◌, refl, inr, lit<, lit≤, ap₂, sym}
use Rattle.std.specs.Int.Signed.{le_z_yes}
use Rattle.scr_num.specs.Fraction.{over, whole}
use Rattle.scr_num.specs.Table.{Table, row_sum, sum_over}
use Rattle.scr_num.specs.Figure.{Frac, RootOf, AtMost, AtLeast}
use Rattle.scr_num.specs.Rounding.{Ends, exact_ends, floor_div, ceil_div, floor_root_from, floor_root, ceil_root_from, ceil_root, low_form, high_form, quad_ends}
use Rattle.scr_num.proofs.Roots.{floor_root-unique, ceil_root-unique}

-- halves of 7 and of -7, and 10 and -10 in thirds
floor_of_half : floor_div (pos 7) 2 ≡ pos 3
floor_of_half = refl

floor_of_negative_half : floor_div (negsuc 6) 2 ≡ negsuc 3
floor_of_negative_half = refl

ceil_of_negative_half : ceil_div (negsuc 6) 2 ≡ negsuc 2
ceil_of_negative_half = refl

-- the root of 2 lies between 1 and 2
root_of_two : floor_root 2 ≡ 1
unfolding floor_root floor_root_from
root_of_two = refl

root_above_two : ceil_root 2 ≡ 2
unfolding ceil_root ceil_root_from
root_above_two = refl

-- 7/5 is at most the root of 2, and 3/2 at least
root_of_two_from_below : AtMost (over (pos 7) 5 (lit< tt)) (RootOf (Frac (whole (pos 2))))
unfolding AtMost
root_of_two_from_below = inr (whole (pos 2), record { cross = le_z_yes tt }, record { cross = le_z_yes tt })

root_of_two_from_above : AtLeast (over (pos 3) 2 (lit< tt)) (RootOf (Frac (whole (pos 2))))
unfolding AtMost
root_of_two_from_above =
    (record { cross = le_z_yes tt }, (whole (pos 2), record { cross = le_z_yes tt }, record { cross = le_z_yes tt }))

-- Two parts 3 and 4 with a correlation of -1/2: the form is 9 - 12 + 16, and its root lies between 3 and 4.
opposed : Table
opposed = record { den = 2; rows = (pos 2 ∷ negsuc 0 ∷ []) ∷ (negsuc 0 ∷ pos 2 ∷ []) ∷ [] }

opposed_root : quad_ends (exact_ends (pos 3) ∷ exact_ends (pos 4) ∷ []) opposed ≡ record { low = pos 3; high = pos 4 }
unfolding opposed quad_ends low_form high_form sum_over row_sum floor_root floor_root_from ceil_root ceil_root_from
opposed_root = refl

-- Types 1 and 2 of an equity book, 390 and 245 euros in thousandths of a cent, with the correlation 3/4: the root lies
-- between 596.19 and 596.20 euros.
equity : Table
equity = record { den = 4; rows = (pos 4 ∷ pos 3 ∷ []) ∷ (pos 3 ∷ pos 4 ∷ []) ∷ [] }

equity_root : quad_ends (exact_ends (pos 39000000) ∷ exact_ends (pos 24500000) ∷ []) equity
    ≡ record { low = pos 59619627; high = pos 59619628 }
unfolding equity quad_ends low_form high_form sum_over row_sum
equity_root =
    ap₂ (λ (x : ℕ) (y : ℕ). let r : Ends = record { low = pos x; high = pos y } in r)
    (sym (floor_root-unique 3554500000000000 59619627 (lit≤ tt) (lit< tt)))
    (sym (ceil_root-unique 3554500000000000 59619627 (lit< tt) (lit≤ tt)))

equity_in_cents : floor_div (pos 59619627) 1000 ≡ pos 59619
equity_in_cents = refl

equity_in_cents_above : ceil_div (pos 59619628) 1000 ≡ pos 59620
equity_in_cents_above = refl
