-- Sums and squares of whole numbers, and how far a root can spread, in plain numbers.
use Rattle.std.proofs.Common.{◌≡◌, ℕ, ◌+◌, ◌-◌, ◌*◌, ◌<◌, ◌≤◌, List, [], ◌∷◌, length, subst, arith, inl, inr, mul-le-mul_right, le_of_mul-le-mul_right, mul-pos}
use Rattle.std.proofs.lemmas.Bool.{cases_lt}
use Rattle.std.proofs.lemmas.Nat.{mul-le}
use Rattle.scr_num.proofs.Roots.{root_below}
use Rattle.scr_agg.proofs.Bounded.{total}

abbrev pub squares : List ℕ → ℕ
squares [] = 0
squares (x ∷ xs) = x * x + squares xs

ordered_product : (x d : ℕ) → 2 * (x * (x + d)) ≤ x * x + (x + d) * (x + d)
ordered_product x d = omega arith

product_below : (x y : ℕ) → x ≤ y → 2 * (x * y) ≤ x * x + y * y
product_below x y h =
    let split : x + (y - x) ≡ y = omega arith in
    subst (λ (z : ℕ). 2 * (x * z) ≤ x * x + z * z) split (ordered_product x (y - x))

-- twice a product is at most the sum of the squares
pub twice_product : (x y : ℕ) → 2 * (x * y) ≤ x * x + y * y
twice_product x y = elim (cases_lt x y) [
  | inl h ↦ product_below x y (omega arith)
  | inr h ↦ omega (arith, product_below y x h)
]

twice_total : (y : ℕ) (xs : List ℕ) → 2 * (y * total xs) ≤ squares xs + length xs * (y * y)
twice_total y [] = omega arith
twice_total y (x ∷ xs) = omega (arith, twice_product y x, twice_total y xs)

-- the square of a sum is at most the number of its terms times the sum of their squares
pub square_of_total : (xs : List ℕ) → total xs * total xs ≤ length xs * squares xs
square_of_total [] = omega arith
square_of_total (x ∷ xs) = omega (arith, twice_total x xs, square_of_total xs)

-- ---- where no term is below 0
-- the sum of the low ends is at most k times the root
low_total : (den z k a q : ℕ) → 0 < den → q ≤ den * (z * z) → den * (a * a) ≤ (k * k) * q → a ≤ k * z
low_total den z k a q positive above below =
    let most : (k * k) * q ≤ (k * k) * (den * (z * z)) = mul-le (k * k) q (k * k) (den * (z * z)) (omega arith) above in
    let scaled : (a * a) * den ≤ ((k * z) * (k * z)) * den = omega (arith, most) in
    let square : a * a ≤ (k * z) * (k * z) = le_of_mul-le-mul_right scaled positive in
    root_below a (k * z) (omega (arith, square))

pub spread_of_sums : (den z k s a b low high : ℕ) → 0 < den → 0 < k → b ≤ a + s → low ≤ den * (z * z)
    → den * (a * a) ≤ (k * k) * low → high + den * (a * a) ≤ low + den * (b * b)
    → high ≤ den * ((z + k * s) * (z + k * s))
spread_of_sums den z k s a b low high positive some near above below spread =
    let most = low_total den z k a low positive above below in
    let widened : den * (b * b) ≤ den * ((a + s) * (a + s)) =
    mul-le den (b * b) den ((a + s) * (a + s)) (omega arith) (mul-le b b (a + s) (a + s) near near) in
    let cross : a * s ≤ (k * z) * s = mul-le-mul_right s most in
    let wide : s ≤ k * s = omega (arith, mul-le 1 s k s some (omega arith)) in
    let square : s * s ≤ (k * s) * (k * s) = mul-le s s (k * s) (k * s) wide wide in
    let inner : z * z + 2 * (a * s) + s * s ≤ (z + k * s) * (z + k * s) = omega (arith, cross, square) in
    let outer : den * (z * z + 2 * (a * s) + s * s) ≤ den * ((z + k * s) * (z + k * s)) =
    mul-le den (z * z + 2 * (a * s) + s * s) den ((z + k * s) * (z + k * s)) (omega arith) inner in
    omega (arith, widened, outer)

-- ---- where three quarters of the squares are left, of seven parts at most
-- the sum of the high ends is small against the root
high_total : (z s b : ℕ) → 0 < z → 3 * (b * b) ≤ 28 * (z * z + 2 * (s * b)) → 2 * b ≤ 14 * z + 49 * s
high_total z s b positive h = elim (cases_lt (14 * z + 49 * s) (2 * b)) [
  | inr fits ↦ fits
  | inl above ↦
      let large : 7 * z ≤ b = omega arith in
      let larger : 56 * s + 21 * z ≤ 3 * b = omega arith in
      let first : b * (56 * s + 21 * z) ≤ b * (3 * b) = mul-le b (56 * s + 21 * z) b (3 * b) (omega arith) larger in
      let second : (7 * z) * z ≤ b * z = mul-le-mul_right z large in
      let some : 0 < z * z = mul-pos positive positive in
      absurd (omega (arith, first, second, some))
]

pub spread_of_differences : (den z s a b low high : ℕ) → 0 < den → 0 < z → a ≤ b → b ≤ a + s
    → low ≤ den * (z * z) → 3 * (den * (b * b)) ≤ 28 * high → high + den * (a * a) ≤ low + den * (b * b)
    → high ≤ den * ((z + 7 * s) * (z + 7 * s))
spread_of_differences den z s a b low high positive some order near above mild spread =
    let first : b * b ≤ (a + s) * b = mul-le-mul_right b near in
    let second : a * b ≤ a * (a + s) = mul-le a b a (a + s) (omega arith) near in
    let third : a * s ≤ b * s = mul-le-mul_right s order in
    let apart : b * b ≤ a * a + 2 * (s * b) = omega (arith, first, second, third) in
    let scaled : den * (b * b) ≤ den * (a * a + 2 * (s * b)) =
    mul-le den (b * b) den (a * a + 2 * (s * b)) (omega arith) apart in
    let most : high ≤ den * (z * z + 2 * (s * b)) = omega (arith, scaled) in
    let times : (3 * (b * b)) * den ≤ (28 * (z * z + 2 * (s * b))) * den = omega (arith, most) in
    let small = high_total z s b some (le_of_mul-le-mul_right times positive) in
    let cross : s * (2 * b) ≤ s * (14 * z + 49 * s) = mul-le s (2 * b) s (14 * z + 49 * s) (omega arith) small in
    let inner : z * z + 2 * (s * b) ≤ (z + 7 * s) * (z + 7 * s) = omega (arith, cross) in
    let outer : den * (z * z + 2 * (s * b)) ≤ den * ((z + 7 * s) * (z + 7 * s)) =
    mul-le den (z * z + 2 * (s * b)) den ((z + 7 * s) * (z + 7 * s)) (omega arith) inner in
    omega (arith, most, outer)
