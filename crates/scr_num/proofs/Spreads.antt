-- How far apart the operators leave the ends, where those handed in are within given widths.
use Rattle.std.proofs.Common.{◌≡◌, ℕ, zero, suc, ◌+◌, ◌*◌, ◌<◌, ◌≤◌, ℤ, pos, negsuc, ◌+ℤ◌, ◌*ℤ◌, neg_ℤ, ◌≤ℤ◌, ◌<ℤ◌, List, [], ◌∷◌, length, sum_by, arith, mul-le-mul_right, mul-le-mul, lt_of_mul-lt-mul_right}
use Rattle.std.specs.List.{AllByRecursion}
use Rattle.std.proofs.lemmas.Int.{ints, clamps}
use Rattle.std.proofs.lemmas.List.Sums.{sum_by-cons}
use borrow.Author.Differences.{up, down}
use Rattle.scr_num.specs.Rounding.{Ends, exact_ends, add_ends, sub_ends, max_ends, min_ends, scale_ends, root_ends, floor_div, ceil_div, floor_root, ceil_root, or_zero}
use Rattle.scr_num.specs.Narrow.{IsNarrow, AreNarrow}
use Rattle.scr_num.specs.Ratio.{ratio_ends, ratio_unit, product_ends}
use Rattle.scr_num.specs.Sums.{sum_ends}
use Rattle.scr_num.proofs.Quotients.{floor_div-next, ceil_div-next}
use Rattle.scr_num.proofs.Roots.{floor_root-next, ceil_root-least}

pub narrow-wider : (width more : ℕ) (e : Ends) → width ≤ more → IsNarrow width e → IsNarrow more e
narrow-wider width more e le h = record { apart = omega (arith, ints, h.apart) }

pub narrow-exact : (v : ℤ) → IsNarrow 0 (exact_ends v)
narrow-exact v = record { apart = omega (arith, ints) }

pub narrow-add : (v w : ℕ) (a b : Ends) → IsNarrow v a → IsNarrow w b → IsNarrow (v + w) (add_ends a b)
narrow-add v w a b h k = record { apart = omega (arith, ints, h.apart, k.apart) }

pub narrow-sub : (v w : ℕ) (a b : Ends) → IsNarrow v a → IsNarrow w b → IsNarrow (v + w) (sub_ends a b)
narrow-sub v w a b h k = record { apart = omega (arith, ints, h.apart, k.apart) }

pub narrow-max : (w : ℕ) (a b : Ends) → IsNarrow w a → IsNarrow w b → IsNarrow w (max_ends a b)
narrow-max w a b h k = record { apart = omega (arith, ints, clamps, h.apart, k.apart) }

pub narrow-min : (w : ℕ) (a b : Ends) → IsNarrow w a → IsNarrow w b → IsNarrow w (min_ends a b)
narrow-min w a b h k = record { apart = omega (arith, ints, clamps, h.apart, k.apart) }

-- ---- sums
pub narrow-sum : (w : ℕ) (es : List Ends) → AllByRecursion (IsNarrow w) es → IsNarrow (length es * w) (sum_ends es)
narrow-sum w [] h = narrow-wider 0 (0 * w) _ (omega arith) (narrow-exact (pos 0))
narrow-sum w (e ∷ es) h =
    narrow-wider (w + length es * w) (suc (length es) * w) (add_ends e (sum_ends es)) (omega arith)
    (narrow-add w (length es * w) e (sum_ends es) h.0 (narrow-sum w es h.1))

pub narrow-total : (widths : List ℕ) (es : List Ends) → AreNarrow widths es
    → IsNarrow (sum_by (λ w. w) widths) (sum_ends es)
narrow-total [] [] h = narrow-exact (pos 0)
narrow-total [] (e ∷ es) h = absurd h
narrow-total (w ∷ widths) [] h = absurd h
narrow-total (w ∷ widths) (e ∷ es) h =
    rw (sum_by-cons (λ (n : ℕ). n) w widths)
    (narrow-add w (sum_by (λ n. n) widths) e (sum_ends es) h.0 (narrow-total widths es h.1))

-- ---- quotients
-- numbers at most w apart are at most w * n apart after n times
pub times_apart : (low high : ℤ) (w n : ℕ) → high ≤ℤ (low +ℤ pos w)
    → (high *ℤ pos n) ≤ℤ ((low *ℤ pos n) +ℤ pos (w * n))
times_apart low high w n h =
    let m : (up high + down low) * n ≤ (up low + down high + w) * n = mul-le-mul_right n (omega (arith, ints)) in
    omega (arith, ints)

pub less_cancel : (a b : ℤ) (k d : ℕ) → 0 < d → (a *ℤ pos d) <ℤ (b *ℤ pos d +ℤ pos ((k + 2) * d))
    → a ≤ℤ (b +ℤ pos (k + 1))
less_cancel a b k d positive h =
    let m : (up a + down b) * d < (up b + down a + (k + 2)) * d = omega (arith, ints) in
    let n : up a + down b < up b + down a + (k + 2) = lt_of_mul-lt-mul_right d m in
    omega (arith, ints)

-- the floor and the ceiling of two quotients
pub narrow-quotient : (low high : ℤ) (k den : ℕ) → 0 < den → high ≤ℤ (low +ℤ pos (k * den))
    → IsNarrow (k + 1) (record { low = floor_div low den; high = ceil_div high den })
narrow-quotient low high k den positive h = record {
  apart = less_cancel (ceil_div high den) (floor_div low den) k den positive
      (along (ceil_div high den *ℤ pos den) high low (floor_div low den *ℤ pos den) k den
      (ceil_div-next high den positive) h (floor_div-next low den positive));
}
  where
    along : (c z y f : ℤ) (k d : ℕ) → c <ℤ (z +ℤ pos d) → z ≤ℤ (y +ℤ pos (k * d)) → y <ℤ (f +ℤ pos d)
        → c <ℤ (f +ℤ pos ((k + 2) * d))
    along c z y f k d p q r = omega (arith, ints)

pub narrow-scale : (w k num den : ℕ) (a : Ends) → 0 < den → w * num ≤ k * den → IsNarrow w a
    → IsNarrow (k + 1) (scale_ends a num den)
narrow-scale w k num den a positive le h =
    narrow-quotient (a.low *ℤ pos num) (a.high *ℤ pos num) k den positive
    (wider (a.low *ℤ pos num) (a.high *ℤ pos num) (w * num) (k * den) le (times_apart a.low a.high w num h.apart))
  where
    wider : (y z : ℤ) (v u : ℕ) → v ≤ u → z ≤ℤ (y +ℤ pos v) → z ≤ℤ (y +ℤ pos u)
    wider y z v u p q = omega (arith, ints)

pub narrow-ratio : (num den : ℕ) → 0 < den → IsNarrow 1 (ratio_ends num den)
narrow-ratio num den positive =
    narrow-scale 0 0 num den (exact_ends (pos ratio_unit)) positive (omega arith) (narrow-exact (pos ratio_unit))

-- ---- whole multiples
floor_div-one : (z : ℤ) → floor_div z 1 ≡ z
floor_div-one (pos n) = omega (arith, ints)
floor_div-one (negsuc n) = omega (arith, ints)

ceil_div-one : (z : ℤ) → ceil_div z 1 ≡ z
ceil_div-one z = rw (floor_div-one (neg_ℤ z)) (omega (arith, ints))

pub narrow-times : (w num : ℕ) (a : Ends) → IsNarrow w a → IsNarrow (w * num) (scale_ends a num 1)
narrow-times w num a h = record {
  apart = rw (floor_div-one (a.low *ℤ pos num), ceil_div-one (a.high *ℤ pos num)) (times_apart a.low a.high w num h.apart);
}

pub narrow-thrice : (w : ℕ) (a : Ends) → IsNarrow w a → IsNarrow (3 * w) (scale_ends a 3 1)
narrow-thrice w a h = narrow-wider (w * 3) (3 * w) (scale_ends a 3 1) (omega arith) (narrow-times w 3 a h)

-- ---- products
-- the greater of two products is above the lesser by no more than the sides are apart
product_apart : (x y s t v w p q k : ℕ) → y ≤ x + v → t ≤ s + w → y ≤ p → s ≤ q → p * w + q * v ≤ k
    → y * t ≤ x * s + k
product_apart x y s t v w p q k a b c d e =
    let first : y * t ≤ y * (s + w) = mul-le-mul (omega arith) b in
    let second : y * s ≤ (x + v) * s = mul-le-mul a (omega arith) in
    let third : y * w ≤ p * w = mul-le-mul c (omega arith) in
    let fourth : s * v ≤ q * v = mul-le-mul d (omega arith) in
    omega (arith, first, second, third, fourth)

pub narrow-product : (v w p q k den : ℕ) (a shares : Ends) → 0 < den → pos 0 ≤ℤ a.low → pos 0 ≤ℤ shares.low
    → a.low ≤ℤ a.high → shares.low ≤ℤ shares.high → a.high ≤ℤ pos p → shares.low ≤ℤ pos q
    → p * w + q * v ≤ k * den → IsNarrow v a → IsNarrow w shares
    → IsNarrow (k + 1) (product_ends a shares den)
narrow-product v w p q k den a shares positive low bottom order rising most more le h g =
    narrow-quotient (a.low *ℤ shares.low) (a.high *ℤ shares.high) k den positive
    (by a.low a.high shares.low shares.high low bottom order rising most more h.apart g.apart)
  where
    by : (x y s t : ℤ) → pos 0 ≤ℤ x → pos 0 ≤ℤ s → x ≤ℤ y → s ≤ℤ t → y ≤ℤ pos p → s ≤ℤ pos q → y ≤ℤ (x +ℤ pos v)
        → t ≤ℤ (s +ℤ pos w) → (y *ℤ t) ≤ℤ ((x *ℤ s) +ℤ pos (k * den))
    by (pos x) (pos y) (pos s) (pos t) l b o r m n e f =
        let all : y * t ≤ x * s + k * den =
        product_apart x y s t v w p q (k * den) (omega (arith, ints)) (omega (arith, ints)) (omega (arith, ints))
        (omega (arith, ints)) le in
        omega (arith, ints, all)
    by (negsuc x) y s t l b o r m n e f = absurd (omega (arith, ints))
    by (pos x) (negsuc y) s t l b o r m n e f = absurd (omega (arith, ints))
    by (pos x) (pos y) (negsuc s) t l b o r m n e f = absurd (omega (arith, ints))
    by (pos x) (pos y) (pos s) (negsuc t) l b o r m n e f = absurd (omega (arith, ints))

-- ---- roots
root_apart : (z s n : ℕ) → 0 < s → n < suc z * suc z + s * s → n ≤ (z + s) * (z + s)
root_apart z zero n positive h = absurd (omega arith)
root_apart z (suc r) n positive h = omega arith

pub narrow-root : (w s : ℕ) (a : Ends) → pos 0 ≤ℤ a.low → 0 < s → w ≤ s * s → IsNarrow w a
    → IsNarrow s (root_ends a)
narrow-root w s a low positive le h = record {
  apart = by (floor_root (or_zero a.low)) (ceil_root (or_zero a.high))
      (ceil_root-least (or_zero a.high) (floor_root (or_zero a.low) + s)
      (root_apart (floor_root (or_zero a.low)) s (or_zero a.high) positive
      (above a.low a.high (floor_root (or_zero a.low)) low (floor_root-next (or_zero a.low)) h.apart)));
}
  where
    above : (y z : ℤ) (r : ℕ) → pos 0 ≤ℤ y → or_zero y < suc r * suc r → z ≤ℤ (y +ℤ pos w)
        → or_zero z < suc r * suc r + s * s
    above (negsuc y) z r l n e = absurd (omega (arith, ints))
    above (pos y) (pos z) r l n e = omega (arith, ints)
    above (pos y) (negsuc z) r l n e = omega (arith, ints)

    by : (f c : ℕ) → c ≤ f + s → pos c ≤ℤ (pos f +ℤ pos s)
    by f c k = omega (arith, ints)
