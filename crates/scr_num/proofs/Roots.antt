-- The two roots of a natural number: what each is, and that nothing else is.
use Rattle.std.proofs.Common.{refl, ◌≡◌, ℕ, zero, suc, ◌+◌, ◌*◌, ◌<◌, ◌≤◌, nat_le, inl, inr, arith, leb-true, leb-false, mul-le-mul, le_refl}
use Rattle.std.proofs.lemmas.Bool.{cond_both, cases_lt}
use Rattle.scr_num.specs.Rounding.{floor_root_from, floor_root, ceil_root_from, ceil_root}

-- ---- the floor
square_from : (n top : ℕ) → floor_root_from n top * floor_root_from n top ≤ n
unfolding floor_root_from
square_from n zero = omega arith
square_from n (suc k) =
    cond_both (nat_le (suc k * suc k) n) (suc k) (floor_root_from n k) (λ x. x * x ≤ n) (λ e. leb-true _ _ e)
    (λ _. square_from n k)

next_square_from : (n top : ℕ) → n < suc top * suc top → n < suc (floor_root_from n top) * suc (floor_root_from n top)
unfolding floor_root_from
next_square_from n zero h = h
next_square_from n (suc k) h =
    cond_both (nat_le (suc k * suc k) n) (suc k) (floor_root_from n k) (λ x. n < suc x * suc x) (λ _. h)
    (λ e. next_square_from n k (leb-false _ _ e))

pub floor_root-square : (n : ℕ) → floor_root n * floor_root n ≤ n
unfolding floor_root
floor_root-square n = square_from n n

pub floor_root-zero : floor_root 0 ≡ 0
floor_root-zero = none (floor_root 0) (floor_root-square 0)
  where
    none : (r : ℕ) → r * r ≤ 0 → r ≡ 0
    none zero h = refl
    none (suc r) h = absurd (omega arith)

pub floor_root-next : (n : ℕ) → n < suc (floor_root n) * suc (floor_root n)
unfolding floor_root
floor_root-next n = next_square_from n n (omega arith)

-- of two numbers with squares in order, the roots are in order
pub root_below : (a b : ℕ) → a * a < suc b * suc b → a ≤ b
root_below a b h = elim (cases_lt b a) [ inl k ↦ absurd (omega (arith, mul-le-mul k k)) | inr k ↦ k ]

-- the other way round
pub root_above : (a b : ℕ) → a * a < b * b → a < b
root_above a b h = elim (cases_lt a b) [ inl k ↦ k | inr k ↦ absurd (omega (arith, mul-le-mul k k)) ]

pub floor_root-greatest : (n k : ℕ) → k * k ≤ n → k ≤ floor_root n
floor_root-greatest n k h = root_below k (floor_root n) (omega (arith, floor_root-next n))

pub floor_root-unique : (n r : ℕ) → r * r ≤ n → n < (r + 1) * (r + 1) → r ≡ floor_root n
floor_root-unique n r low high =
    let a : r ≤ floor_root n = root_below r (floor_root n) (omega (arith, floor_root-next n)) in
    let b : floor_root n ≤ r = root_below (floor_root n) r (omega (arith, floor_root-square n)) in
    omega arith

-- ---- the ceiling
from_square : (n top : ℕ) → n ≤ top * top → n ≤ ceil_root_from n top * ceil_root_from n top
unfolding ceil_root_from
from_square n zero h = h
from_square n (suc k) h =
    cond_both (nat_le n (k * k)) (ceil_root_from n k) (suc k) (λ x. n ≤ x * x) (λ e. from_square n k (leb-true _ _ e))
    (λ _. h)

from_least : (n top k : ℕ) → n ≤ k * k → ceil_root_from n top ≤ k
unfolding ceil_root_from
from_least n zero k h = omega arith
from_least n (suc j) k h =
    cond_both (nat_le n (j * j)) (ceil_root_from n j) (suc j) (λ x. x ≤ k) (λ _. from_least n j k h)
    (λ e. root_above j k (omega (arith, leb-false n (j * j) e)))

pub ceil_root-square : (n : ℕ) → n ≤ ceil_root n * ceil_root n
unfolding ceil_root
ceil_root-square n = from_square n n (square_le n)
  where
    square_le : (n : ℕ) → n ≤ n * n
    square_le zero = omega arith
    square_le (suc k) = omega arith

pub ceil_root-least : (n k : ℕ) → n ≤ k * k → ceil_root n ≤ k
unfolding ceil_root
ceil_root-least n k h = from_least n n k h

-- a root that is exact, and the next number above one that is not
pub ceil_root-unique : (n r : ℕ) → r * r < n → n ≤ (r + 1) * (r + 1) → r + 1 ≡ ceil_root n
ceil_root-unique n r low high =
    let a : ceil_root n ≤ r + 1 = ceil_root-least n (r + 1) high in
    let b : r < ceil_root n = root_above r (ceil_root n) (omega (arith, ceil_root-square n)) in omega arith

pub ceil_root-exact : (r : ℕ) → r ≡ ceil_root (r * r)
ceil_root-exact r =
    let a : ceil_root (r * r) ≤ r = ceil_root-least (r * r) r (le_refl (r * r)) in
    let b : r ≤ ceil_root (r * r) = root_below r (ceil_root (r * r)) (omega (arith, ceil_root-square (r * r))) in
    omega arith

-- the floor of a number is at most the ceiling of a larger one
pub floor_root-le-ceil_root : (m n : ℕ) → m ≤ n → floor_root m ≤ ceil_root n
floor_root-le-ceil_root m n h =
    root_below (floor_root m) (ceil_root n) (omega (arith, floor_root-square m, ceil_root-square n))

-- the floor root of a number is at most the ceiling root of one that is no smaller
pub roots-in-order : (m n : ℕ) → m ≤ n → floor_root m ≤ ceil_root n
roots-in-order m n h =
    root_below (floor_root m) (ceil_root n)
    (omega (arith, floor_root-square m, ceil_root-square n, next (ceil_root n)))
  where
    next : (r : ℕ) → r * r < suc r * suc r
    next r = omega arith
