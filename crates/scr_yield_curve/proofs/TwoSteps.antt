-- A product divided in two steps, by the front and the back digits of its first factor.
use Rattle.std.proofs.Common.{◌≡◌, ℕ, ◌+◌, ◌*◌, ◌/◌, ◌%◌, ◌^◌, min, ◌<◌, ◌≤◌, ap, sym, ◌∙◌, ℤ, pos, negsuc, ◌-ℤ◌, ◌*ℤ◌, ◌≤ℤ◌, unsigned_abs, arith}
use Rattle.std.proofs.lemmas.Nat.{div-mul-add, mod-mul-add, div-add-mod', mul-le, mod_below}
use Rattle.std.proofs.lemmas.Int.{ints}
use Rattle.std.specs.Int.{div_ceil}
use Rattle.scr_num.specs.Rounding.{floor_div, ceil_div}
use Rattle.scr_num.proofs.Quotients.{ceil_div-positive}
use Rattle.scr_yield_curve.specs.declared.table.TheConstants.{MAX_DISCOUNT}
use Rattle.scr_yield_curve.specs.Parts.{parts}

-- how the front digits and the back ones are divided
pub record IsDivided (discount growth whole left : ℕ) : Type 0 where
  pub quotient : whole ≡ discount * parts / growth
  pub rest : left ≡ discount * parts % growth
  pub size : whole ≤ 2_800_000_000_000_000_000

-- a quotient by at least so much, times that, is no more than what was divided
few-times : (n d least : ℕ) → least ≤ d → 0 < d → n / d * least ≤ n
few-times n d least h some =
    let times : n / d * least ≤ n / d * d = mul-le (n / d) least (n / d) d (omega arith) h in
    let whole = div-add-mod' n d in
    omega (arith, times, whole)

joined : (d a b q r p s g : ℕ) → d ≡ a * 1_073_741_824 + b → a * parts ≡ q * g + r → r * 1_073_741_824 + b * parts ≡ p * g + s
    → d * parts ≡ (q * 1_073_741_824 + p) * g + s
joined d a b q r p s g digits front back = omega (arith, digits, front, back)

module _ (discount growth : ℕ) (small : discount ≤ MAX_DISCOUNT) (least : 6_930_000_000 ≤ growth) (most : growth ≤ 9_800_000_000) where
  abbrev front : ℕ
  front = discount / 1_073_741_824 * parts

  abbrev back : ℕ
  back = front % growth * 1_073_741_824 + discount % 1_073_741_824 * parts

  some : 0 < growth
  some = omega (arith, least)

  back-fits : back < 2 ^ 64
  back-fits = let rest = mod_below front growth some in omega (arith, rest, most)

  front-few : front / growth ≤ 2_600_000_000
  front-few = let times = few-times front growth 6_930_000_000 least some in omega (arith, times, small)

  back-few : back / growth ≤ 2_700_000_000
  back-few = let times = few-times back growth 6_930_000_000 least some in let fits = back-fits in omega (arith, times, fits)

  pub two-steps : IsDivided discount growth (front / growth * 1_073_741_824 + back / growth) (back % growth)
  two-steps =
      let whole = joined discount (discount / 1_073_741_824) (discount % 1_073_741_824) (front / growth) (front % growth) (back / growth) (back % growth) growth
      (omega arith) (sym (div-add-mod' front growth)) (sym (div-add-mod' back growth)) in
      let less = mod_below back growth some in
      let first = front-few in
      let second = back-few in
      record {
        quotient = sym (rw whole (div-mul-add (front / growth * 1_073_741_824 + back / growth) growth (back % growth) less));
        rest = sym (rw whole (mod-mul-add (front / growth * 1_073_741_824 + back / growth) growth (back % growth) less));
        size = omega (arith, first, second);
      }

-- ---- the quotient rounded down
pub down : (v : ℤ) (g q : ℕ) (x : ℤ) → pos 0 ≤ℤ v → x ≡ pos q → q ≡ unsigned_abs v * parts / g → x ≡ floor_div (v *ℤ pos parts) g
down (pos n) g q x h is whole = is ∙ ap (λ (k : ℕ). pos k) whole
down (negsuc n) g q x h is whole = absurd (omega (arith, ints, h))

-- ---- the quotient of a number so much larger, rounded up, by the quotient and the rest of the smaller one
more-shares : (n w g q r more : ℕ) → 0 < g → q ≡ n * parts / g → r ≡ n * parts % g → more ≡ div_ceil (r + w * parts) g → q + more ≡ div_ceil ((n + w) * parts) g
more-shares n w g q r more some whole left by =
    let rest = r + w * parts in
    let first : n * parts ≡ q * g + r = rw (whole, left) (sym (div-add-mod' (n * parts) g)) in
    let all : (n + w) * parts ≡ (q + rest / g) * g + rest % g = omega (arith, first, div-add-mod' rest g) in
    let less = mod_below rest g some in
    let quotient : (n + w) * parts / g ≡ q + rest / g = rw all (div-mul-add (q + rest / g) g (rest % g) less) in
    let remainder : (n + w) * parts % g ≡ rest % g = rw all (mod-mul-add (q + rest / g) g (rest % g) less) in
    let shares : more ≡ rest / g + min 1 (rest % g) = by in
    rw (quotient, remainder) (omega (arith, shares))

pub up-by-width : (low high : ℤ) (w g q r more : ℕ) (x : ℤ) → pos 0 ≤ℤ low → 0 < g → pos w ≡ high -ℤ low → x ≡ pos (q + more) → q ≡ unsigned_abs low * parts / g → r ≡ unsigned_abs low * parts % g
    → more ≡ div_ceil (r + w * parts) g → x ≡ ceil_div (high *ℤ pos parts) g
up-by-width low high w g q r more x h some width is whole left by =
    let size : unsigned_abs high ≡ unsigned_abs low + w = omega (arith, ints, h, width) in
    let sum : q + more ≡ div_ceil (unsigned_abs high * parts) g = rw size (more-shares (unsigned_abs low) w g q r more some whole left by) in
    is ∙ sym (ceil_div-positive high parts g (q + more) (omega (arith, ints, h, width)) some sum)
