-- Outward rounding, this project's own: each operator answers the narrowest pair of whole ends that
-- encloses what the ends handed in enclose; a root over a table with negative cells may answer a wider one. The
-- arithmetic of the code and the model share these definitions, which speak of one operator at a time.
use Rattle.std.specs.Prelude.{List, ℕ, zero, suc, ◌*◌, ◌/◌, ℤ, pos, negsuc, ◌+ℤ◌, ◌-ℤ◌, ◌*ℤ◌, neg_ℤ, nat_le}
use Rattle.std.specs.Prelude.{if◌then◌else◌}
use Rattle.std.specs.Int.{int_max, int_min}
use Rattle.scr_num.specs.Table.{Table, sum_over}
use Rattle.scr_num.specs.declared.span.Span.{Span}

-- the two ends of a span, as whole numbers of its unit
pub record Ends : Type 0 where
  pub low : ℤ
  pub high : ℤ

abbrev pub ends : Span → Ends
ends span = record { low = span.low; high = span.high }

-- one number, known exactly
abbrev pub exact_ends : ℤ → Ends
exact_ends v = record { low = v; high = v }

-- all sums of a number of each
abbrev pub add_ends : Ends → Ends → Ends
add_ends a b = record { low = a.low +ℤ b.low; high = a.high +ℤ b.high }

-- all differences of a number of each
abbrev pub sub_ends : Ends → Ends → Ends
sub_ends a b = record { low = a.low -ℤ b.high; high = a.high -ℤ b.low }

-- the greater, and the smaller, of a number of each: end by end
abbrev pub max_ends : Ends → Ends → Ends
max_ends a b = record { low = int_max a.low b.low; high = int_max a.high b.high }

abbrev pub min_ends : Ends → Ends → Ends
min_ends a b = record { low = int_min a.low b.low; high = int_min a.high b.high }

-- the numbers of either, and those between
abbrev pub hull_ends : Ends → Ends → Ends
hull_ends a b = record { low = int_min a.low b.low; high = int_max a.high b.high }

-- the greatest whole number whose product with d is at most z
abbrev pub floor_div : ℤ → ℕ → ℤ
floor_div (pos n) d = pos (n / d)
floor_div (negsuc n) d = negsuc (n / d)

-- the least whole number whose product with d is at least z
abbrev pub ceil_div : ℤ → ℕ → ℤ
ceil_div z d = neg_ℤ (floor_div (neg_ℤ z) d)

-- all products with the fraction num/den
abbrev pub scale_ends : Ends → ℕ → ℕ → Ends
scale_ends a num den = record {
  low = floor_div (a.low *ℤ pos num) den;
  high = ceil_div (a.high *ℤ pos num) den;
}

-- the number, or 0 where it is below 0
abbrev pub or_zero : ℤ → ℕ
or_zero (pos n) = n
or_zero (negsuc _) = 0

-- from `top` down, the first number whose square is at most n
unfoldable pub floor_root_from : (n top : ℕ) → ℕ
floor_root_from n zero = 0
floor_root_from n (suc k) = if nat_le (suc k * suc k) n then suc k else floor_root_from n k

-- the greatest whole number whose square is at most n
unfoldable pub floor_root : ℕ → ℕ
floor_root n = floor_root_from n n

-- from `top` down, the last number whose square is at least n
unfoldable pub ceil_root_from : (n top : ℕ) → ℕ
ceil_root_from n zero = 0
ceil_root_from n (suc k) = if nat_le n (k * k) then ceil_root_from n k else suc k

-- the least whole number whose square is at least n
unfoldable pub ceil_root : ℕ → ℕ
ceil_root n = ceil_root_from n n

-- the square roots of all numbers of at least 0
abbrev pub root_ends : Ends → Ends
root_ends a = record { low = pos (floor_root (or_zero a.low)); high = pos (ceil_root (or_zero a.high)) }

-- The least and the greatest value, within ends that are not negative, of a cell times the part of its row times the
-- part of its column: it is least with both lows, and with both highs where the cell is negative.
abbrev pub low_term : ℤ → Ends → Ends → ℤ
low_term (pos c) x y = pos c *ℤ (x.low *ℤ y.low)
low_term (negsuc c) x y = negsuc c *ℤ (x.high *ℤ y.high)

abbrev pub high_term : ℤ → Ends → Ends → ℤ
high_term (pos c) x y = pos c *ℤ (x.high *ℤ y.high)
high_term (negsuc c) x y = negsuc c *ℤ (x.low *ℤ y.low)

-- the sums of these over all cells of a table, between which lies the sum of the products of any parts within their
-- ends
unfoldable pub low_form : Table → List Ends → ℤ
low_form table parts = sum_over (pos 0) ◌+ℤ◌ low_term table.rows parts parts

unfoldable pub high_form : Table → List Ends → ℤ
high_form table parts = sum_over (pos 0) ◌+ℤ◌ high_term table.rows parts parts

-- the roots of the two sums over the table's denominator; a sum below 0 counts as 0
unfoldable pub quad_ends : List Ends → Table → Ends
quad_ends parts table = root_ends (record {
  low = floor_div (low_form table parts) table.den;
  high = ceil_div (high_form table parts) table.den;
})
