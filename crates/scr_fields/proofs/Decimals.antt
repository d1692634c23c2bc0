-- What a list of decimal digits stands for.
use Rattle.std.proofs.Common.{◌≡◌, ℕ, zero, suc, ◌+◌, ◌*◌, ◌^◌, ◌<◌, ◌≤◌, true, List, [], ◌∷◌, length, get_or, arith, add-one, lit<}
use Rattle.std.specs.List.{list_all}
use Rattle.std.specs.Char.{is_ascii_digit}
use Rattle.std.proofs.Math.Nat.{pow-suc, pow-le-pow_right}
use Rattle.std.proofs.lemmas.Bool.{and_parts}

digit_range : (b : ℕ) → is_ascii_digit b ≡ true → (48 ≤ b) × (b < 58)
digit_range b h = (grind (arith, h), grind (arith, h))

-- each of the digits is one
pub digit_at : (digits : List ℕ) (i : ℕ) → list_all is_ascii_digit digits ≡ true → i < length digits
    → (48 ≤ get_or digits i 0) × (get_or digits i 0 < 58)
digit_at [] i all within = absurd (omega (arith, within))
digit_at (d ∷ digits) zero all within = digit_range d (and_parts _ _ all).0
digit_at (d ∷ digits) (suc i) all within = digit_at digits i (and_parts _ _ all).1 (omega (arith, within))

-- one more digit takes one more power of ten
pub below_power : (value i digit : ℕ) → value < 10 ^ i → digit < 10 → value * 10 + digit < 10 ^ (i + 1)
below_power value i digit below one = rw (add-one, pow-suc) (omega (arith, below, one))

pub powers_rise : (i k : ℕ) → i ≤ k → 10 ^ i ≤ 10 ^ k
powers_rise i k le = pow-le-pow_right (lit< tt) le
