-- One term of the variance: a number times a quotient of whole numbers.
use Rattle.std.proofs.Common.{◌≡◌, ℕ, ◌+◌, ◌*◌, ◌/◌, ◌%◌, ◌^◌, ◌<◌, ◌≤◌, min, ℤ, pos, negsuc, ◌+ℤ◌, ◌*ℤ◌, ap, sym, ◌∙◌, arith, lit<, mul-pos}
use Rattle.std.specs.Int.{div_ceil}
use Rattle.std.proofs.Math.Nat.{add-mul-div_right, add-mul-mod_self_right}
use Rattle.std.proofs.lemmas.Nat.{div-add-mod'}
use Rattle.std.proofs.lemmas.Int.{ints}
use Rattle.scr_num.specs.Fraction.{Fraction}
use Rattle.scr_num.specs.Figure.{Frac}
use Rattle.scr_num.specs.Rounding.{exact_ends, add_ends, scale_ends, ceil_div}
use Rattle.scr_num.specs.Enclosure.{Encloses}
use Rattle.scr_num.proofs.AddedEnds.{same_ends}
use Rattle.scr_num.proofs.Enclosing.{Encloses-exact, Encloses-coarser}
use Rattle.scr_num.proofs.AmountBounds.{amount-exact, amount-scale}
use Rattle.scr_num.proofs.Quotients.{ceil_div-positive}
use Rattle.scr_num.specs.Amounts.{IsAmount}

-- ---- the quotient multiplied exactly, and the remainder's product rounded
whole_and_rest : (x num den : ℕ) → x * num ≡ x % den * num + num * (x / den) * den
whole_and_rest x num den = ap (λ (n : ℕ). n * num) (sym (div-add-mod' x den)) ∙ omega arith

floor_of_whole : (x num den : ℕ) → 0 < den → num * (x / den) + x % den * num / den ≡ x * num / den
floor_of_whole x num den positive =
    let e = add-mul-div_right (x % den * num) (num * (x / den)) positive in
    omega arith ∙ sym e ∙ ap (λ (n : ℕ). n / den) (sym (whole_and_rest x num den))

rest_of_whole : (x num den : ℕ) → x % den * num % den ≡ x * num % den
rest_of_whole x num den =
    sym (add-mul-mod_self_right (x % den * num) (num * (x / den)) den)
    ∙ ap (λ (n : ℕ). n % den) (sym (whole_and_rest x num den))

ceil_of_whole : (x num den : ℕ) → 0 < den → num * (x / den) + div_ceil (x % den * num) den ≡ div_ceil (x * num) den
ceil_of_whole x num den positive =
    let floor = floor_of_whole x num den positive in
    let rest = ap (λ (n : ℕ). min 1 n) (rest_of_whole x num den) in
    omega arith

ceil_is : (x num den : ℕ) → 0 < den → ceil_div (pos x *ℤ pos num) den ≡ pos (div_ceil (x * num) den)
ceil_is x num den positive = ceil_div-positive (pos x) num den (div_ceil (x * num) den) (omega (arith, ints)) positive
    (ap (λ (n : ℕ). div_ceil n den) (omega (arith, ints)))

pub split : (x num den : ℕ) → 0 < den
    → add_ends (exact_ends (pos (num * (x / den)))) (scale_ends (exact_ends (pos (x % den))) num den) ≡ scale_ends
    (exact_ends (pos x)) num den
split x num den positive =
    same_ends _ _ _ _ (ap pos (floor_of_whole x num den positive))
    (ap (λ (z : ℤ). pos (num * (x / den)) +ℤ z) (ceil_is (x % den) num den positive)
    ∙ ap pos (ceil_of_whole x num den positive)
    ∙ sym (ceil_is x num den positive))

-- ---- what it encloses
pub measured : (z : ℤ) (x num den d : ℕ) → 0 < den → z *ℤ pos den ≡ pos num *ℤ pos d
    → (pos x *ℤ pos num) *ℤ pos (d * 1000000) ≡ (z *ℤ pos x) *ℤ pos (1000000 * den)
measured (pos n) x num den d positive e =
    let equal : n * den ≡ num * d = omega (arith, ints) in
    omega (arith, ints, ap (λ (y : ℕ). y * (x * 1000000)) equal)
measured (negsuc n) x num den d positive e = absurd (omega (arith, ints))

pub Encloses-term : (x num den : ℕ) (p : Fraction) → 0 < den
    → (pos x *ℤ pos num) *ℤ pos p.den ≡ p.num *ℤ pos (1000000 * den)
    → let e = scale_ends (exact_ends (pos x)) num den in Encloses 1000000 e.low e.high (Frac p)
Encloses-term x num den p positive e =
    Encloses-coarser 1000000 den (pos x *ℤ pos num) (pos x *ℤ pos num) (Frac p) positive
    (Encloses-exact (1000000 * den) (pos x *ℤ pos num) p (record { positive = mul-pos (lit< tt) positive; equal = e }))

-- ---- how large it is: at most a fortieth
pub amount-term : (x num den : ℕ) → 0 < den → 40 * num ≤ den → x ≤ 10 ^ 32
    → IsAmount (25 * 10 ^ 29) (scale_ends (exact_ends (pos x)) num den)
amount-term x num den positive small few =
    amount-scale (10 ^ 32) (25 * 10 ^ 29) num den (exact_ends (pos x)) positive (omega arith)
    (amount-exact (10 ^ 32) x few)
