-- A segment as worked out encloses the exact figure, and is at most its volume.
use Rattle.std.proofs.Common.{◌≡◌, unsigned_abs, refl, ap, ap₂, ◌∙◌, ℕ, zero, suc, ◌+◌, ◌*◌, ◌<◌, ◌≤◌, ℤ, pos, negsuc, ◌+ℤ◌, ◌*ℤ◌, ◌≤ℤ◌, List, [], ◌∷◌, arith, lit<, zero-lt-suc, mul-le-mul_right}
use Rattle.std.proofs.lemmas.Int.{ints}
use Rattle.std.proofs.lemmas.Nat.{mul-le}
use Rattle.std.proofs.lemmas.List.Sums.{sum_by-cons}
use Rattle.scr_num.specs.Fraction.{Share, whole, millionths, plus, product, square}
use Rattle.scr_num.specs.Figure.{Frac, AtMost}
use Rattle.scr_num.specs.Rounding.{floor_div, ceil_div, ceil_root, floor_root}
use Rattle.scr_num.specs.Enclosure.{Encloses}
use Rattle.scr_num.specs.Ratio.{ratio_unit, ratio_ends, fraction_of}
use Rattle.scr_num.specs.Amounts.{IsAmount}
use Rattle.scr_num.proofs.AmountBounds.{ceil_div-least, is_amount}
use Rattle.scr_num.proofs.CentAmounts.{enclosing-in_order}
use Rattle.scr_num.proofs.Roots.{ceil_root-least}
use Rattle.scr_num.proofs.Enclosing.{Encloses-exact, Encloses-root_of}
use Rattle.scr_num.proofs.Shares.{Encloses-ratio, ratio-at_most_one, Encloses-product}
use Rattle.scr_nonlife.specs.Segment.{premium_volume, reserve_volume, regional_volume, total_volume, squared_volumes, share_of, diversification, diversified, deviation_figure, segment_figure}
use Rattle.scr_nonlife.specs.SegmentEnds.{share_ends, diversification_ends, squared_deviation, deviation_ends, diversified_ends, products_of_a_grain, segment_ends}

-- ---- sums over the regions
pub total-is : (volumes : List (ℕ × ℕ)) → total_volume volumes ≡ premium_volume volumes + reserve_volume volumes
total-is [] = refl
total-is (v ∷ vs) =
    sum_by-cons regional_volume v vs
    ∙ omega (arith, total-is vs, sum_by-cons (λ (region : ℕ × ℕ). region.0) v vs, sum_by-cons (λ (region : ℕ × ℕ). region.1) v vs)

square_of_sum : (r t q : ℕ) → q ≤ t * t → r * r + q ≤ (r + t) * (r + t)
square_of_sum r t q h = omega (arith, h)

pub squared-at_most : (volumes : List (ℕ × ℕ)) → squared_volumes volumes ≤ total_volume volumes * total_volume volumes
squared-at_most [] = omega arith
squared-at_most (v ∷ vs) =
    rw (sum_by-cons (λ (region : ℕ × ℕ). regional_volume region * regional_volume region) v vs, sum_by-cons regional_volume v vs)
    (square_of_sum (regional_volume v) (total_volume vs) (squared_volumes vs) (squared-at_most vs))

-- ---- the diversification
share-encloses : (num den : ℕ) → Encloses ratio_unit (share_ends num den).low (share_ends num den).high (Frac (fraction_of (share_of num den)))
share-encloses num zero = Encloses-exact ratio_unit (pos ratio_unit) (fraction_of (share_of num zero)) (record { positive = lit< tt; equal = refl })
share-encloses num (suc n) = Encloses-ratio num (suc n) (zero-lt-suc n)

share-not_negative : (num den : ℕ) → pos 0 ≤ℤ (share_ends num den).low
share-not_negative num zero = omega (arith, ints)
share-not_negative num (suc n) = omega (arith, ints)

share-at_most_one : (num den : ℕ) → num ≤ den → (share_ends num den).high ≤ℤ pos ratio_unit
share-at_most_one num zero h = omega (arith, ints)
share-at_most_one num (suc n) h = ratio-at_most_one num (suc n) (zero-lt-suc n) h

pub diversification-encloses : (volumes : List (ℕ × ℕ))
    → Encloses ratio_unit (diversification_ends volumes).low (diversification_ends volumes).high (Frac (fraction_of (diversification volumes)))
diversification-encloses volumes = share-encloses (squared_volumes volumes) (total_volume volumes * total_volume volumes)

pub diversification-not_negative : (volumes : List (ℕ × ℕ)) → pos 0 ≤ℤ (diversification_ends volumes).low
diversification-not_negative volumes = share-not_negative (squared_volumes volumes) (total_volume volumes * total_volume volumes)

pub diversification-at_most_one : (volumes : List (ℕ × ℕ)) → (diversification_ends volumes).high ≤ℤ pos ratio_unit
diversification-at_most_one volumes = share-at_most_one (squared_volumes volumes) (total_volume volumes * total_volume volumes) (squared-at_most volumes)

-- where there is volume
pub diversification-some : (num den : ℕ) → 0 < den → ratio_ends num den ≡ share_ends num den
diversification-some num zero h = absurd (omega arith)
diversification-some num (suc n) h = refl

-- ---- 0.75 + 0.25 * DIV
quarters-below : (z : ℤ) (num den : ℕ) → pos 0 ≤ℤ z → (z *ℤ pos den) ≤ℤ (pos num *ℤ pos 1000000000000000000)
    → ((pos 3000000000000000000 +ℤ z) *ℤ pos (4 * den)) ≤ℤ (pos (3 * den + num) *ℤ pos 4000000000000000000)
quarters-below (pos n) num den h k = omega (arith, ints)
quarters-below (negsuc n) num den h k = absurd (omega (arith, ints))

quarters-above : (z : ℤ) (num den : ℕ) → pos 0 ≤ℤ z → (pos num *ℤ pos 1000000000000000000) ≤ℤ (z *ℤ pos den)
    → (pos (3 * den + num) *ℤ pos 4000000000000000000) ≤ℤ ((pos 3000000000000000000 +ℤ z) *ℤ pos (4 * den))
quarters-above (pos n) num den h k = omega (arith, ints)
quarters-above (negsuc n) num den h k = absurd (omega (arith, ints))

diversified-encloses : (low high : ℤ) (share : Share) → pos 0 ≤ℤ low → pos 0 ≤ℤ high → Encloses ratio_unit low high (Frac (fraction_of share))
    → Encloses 4000000000000000000 (pos 3000000000000000000 +ℤ low) (pos 3000000000000000000 +ℤ high) (Frac (fraction_of (diversified share)))
unfolding AtMost
diversified-encloses low high share h h' k = record {
  positive = lit< tt;
  at_most = record { cross = quarters-below low share.num share.den h k.at_most.cross };
  at_least = record { cross = quarters-above high share.num share.den h' k.at_least.cross };
}

-- ---- the root
root-measure : (a b : ℕ)
    → squared_deviation a b * 1000000000000000000000000000000000000
    ≡ ((a * a * 1000000000000 + a * b * 1000000000000) * 1000000000000 + b * b * 1000000000000000000000000) * 1000000000000
root-measure a b = omega arith

pub deviation-encloses : (volumes : List (ℕ × ℕ)) (premium reserve : ℕ)
    → Encloses 1000000 (deviation_ends volumes premium reserve).low (deviation_ends volumes premium reserve).high (deviation_figure volumes premium reserve)
deviation-encloses volumes premium reserve =
    let a = premium * premium_volume volumes in
    let b = reserve * reserve_volume volumes in
    let p = product (millionths (pos premium)) (whole (pos (premium_volume volumes))) in
    let r = product (millionths (pos reserve)) (whole (pos (reserve_volume volumes))) in
    let q = plus (plus (square p) (product p r)) (square r) in
    Encloses-root_of 1000000 (pos (squared_deviation a b)) (pos (squared_deviation a b)) (Frac q)
    (Encloses-exact (1000000 * 1000000) (pos (squared_deviation a b)) q (record { positive = lit< tt; equal = ap pos (root-measure a b) }))

-- ---- the segment
rises : (a b : ℤ) → pos 0 ≤ℤ a → a ≤ℤ b → pos 0 ≤ℤ b
rises a b h k = omega (arith, ints)

plus-not_negative : (n : ℕ) (z : ℤ) → pos 0 ≤ℤ z → pos 0 ≤ℤ (pos n +ℤ z)
plus-not_negative n z h = omega (arith, ints)

pub segment-encloses : (volumes : List (ℕ × ℕ)) (premium reserve : ℕ)
    → Encloses 1000 (segment_ends volumes premium reserve).low (segment_ends volumes premium reserve).high (segment_figure volumes premium reserve)
segment-encloses volumes premium reserve =
    let d = diversification_ends volumes in
    let h = diversification-encloses volumes in
    let least = diversification-not_negative volumes in
    Encloses-product 1000000 4000000000000000000 1000 products_of_a_grain (deviation_ends volumes premium reserve) (diversified_ends volumes)
    (deviation_figure volumes premium reserve) (diversified (diversification volumes)) (lit< tt) (lit< tt) refl
    (root-not_negative (squared_deviation (premium * premium_volume volumes) (reserve * reserve_volume volumes)))
    (plus-not_negative 3000000000000000000 d.low least)
    (deviation-encloses volumes premium reserve)
    (diversified-encloses d.low d.high (diversification volumes) least (rises d.low d.high least (enclosing-in_order ratio_unit d.low d.high (Frac (fraction_of (diversification volumes))) h)) h)
  where
    root-not_negative : (n : ℕ) → pos 0 ≤ℤ pos (floor_root n)
    root-not_negative n = omega (arith, ints)

-- ---- how large it is
product-not_negative : (a s : ℤ) (d : ℕ) → pos 0 ≤ℤ a → pos 0 ≤ℤ s → pos 0 ≤ℤ floor_div (a *ℤ s) d
product-not_negative (pos a) (pos s) d h k = omega (arith, ints)
product-not_negative (pos a) (negsuc s) d h k = absurd (omega (arith, ints))
product-not_negative (negsuc a) s d h k = absurd (omega (arith, ints))

pub segment-not_negative : (volumes : List (ℕ × ℕ)) (premium reserve : ℕ) → pos 0 ≤ℤ (segment_ends volumes premium reserve).low
segment-not_negative volumes premium reserve =
    product-not_negative (deviation_ends volumes premium reserve).low (diversified_ends volumes).low products_of_a_grain
    (natural (floor_root (squared_deviation (premium * premium_volume volumes) (reserve * reserve_volume volumes))))
    (plus-not_negative 3000000000000000000 (diversification_ends volumes).low (diversification-not_negative volumes))
  where
    natural : (n : ℕ) → pos 0 ≤ℤ pos n
    natural n = omega (arith, ints)

-- a root is at most the sum of the two products
deviation-size : (a b : ℕ) → ceil_root (squared_deviation a b) ≤ a + b
deviation-size a b = ceil_root-least (squared_deviation a b) (a + b) (omega arith)

pub products : (premium reserve p r : ℕ) → premium ≤ 1000000 → reserve ≤ 1000000 → premium * p + reserve * r ≤ 1000000 * (p + r)
products premium reserve p r h k = omega (arith, mul-le-mul_right p h, mul-le-mul_right r k)

product-size : (y t : ℕ) (s : ℤ) → y ≤ 1000000 * t → pos 0 ≤ℤ s → s ≤ℤ pos 4000000000000000000 → ceil_div (pos y *ℤ s) products_of_a_grain ≤ℤ pos (1000 * t)
product-size y t (negsuc s) h k l = absurd (omega (arith, ints))
product-size y t (pos s) h k l =
    let small : s ≤ 4000000000000000000 = omega (arith, ints) in
    ceil_div-least (pos y *ℤ pos s) products_of_a_grain (1000 * t) (lit< tt) (omega (arith, ints, mul-le y s (1000000 * t) 4000000000000000000 h small))

pub segment-at_most_the_volume : (volumes : List (ℕ × ℕ)) (premium reserve : ℕ) → premium ≤ 1000000 → reserve ≤ 1000000
    → (segment_ends volumes premium reserve).high ≤ℤ pos (1000 * total_volume volumes)
segment-at_most_the_volume volumes premium reserve h k =
    let a = premium * premium_volume volumes in
    let b = reserve * reserve_volume volumes in
    let d = diversification_ends volumes in
    let least = diversification-not_negative volumes in
    let order = enclosing-in_order ratio_unit d.low d.high (Frac (fraction_of (diversification volumes))) (diversification-encloses volumes) in
    product-size (ceil_root (squared_deviation a b)) (total_volume volumes) (diversified_ends volumes).high
    (omega (arith, deviation-size a b, products premium reserve (premium_volume volumes) (reserve_volume volumes) h k, total-is volumes))
    (plus-not_negative 3000000000000000000 d.high (rises d.low d.high least order))
    (four d.high (diversification-at_most_one volumes))
  where
    four : (z : ℤ) → z ≤ℤ pos ratio_unit → (pos 3000000000000000000 +ℤ z) ≤ℤ pos 4000000000000000000
    four z h = omega (arith, ints)

-- ---- as the code goes
unsigned-is : (z : ℤ) (n : ℕ) → pos 0 ≤ℤ z → n ≡ unsigned_abs z → pos n ≡ z
unsigned-is (pos m) n h e = ap pos e
unsigned-is (negsuc m) n h e = absurd (omega (arith, ints))

pub products-rise : (a b s t : ℤ) → pos 0 ≤ℤ a → a ≤ℤ b → pos 0 ≤ℤ s → s ≤ℤ t → (a *ℤ s) ≤ℤ (b *ℤ t)
products-rise (negsuc a) b s t h h' k k' = absurd (omega (arith, ints))
products-rise (pos a) (negsuc b) s t h h' k k' = absurd (omega (arith, ints))
products-rise (pos a) (pos b) (negsuc s) t h h' k k' = absurd (omega (arith, ints))
products-rise (pos a) (pos b) (pos s) (negsuc t) h h' k k' = absurd (omega (arith, ints))
products-rise (pos a) (pos b) (pos s) (pos t) h h' k k' =
    let one : a ≤ b = omega (arith, ints) in
    let two : s ≤ t = omega (arith, ints) in
    omega (arith, ints, mul-le a s b t one two)

-- what is scaled by magnitudes is scaled by the ends
pub floor_from : (low x a s : ℤ) (n : ℕ) → pos 0 ≤ℤ s → low ≡ floor_div (x *ℤ pos n) products_of_a_grain → x ≡ a → n ≡ unsigned_abs s
    → low ≡ floor_div (a *ℤ s) products_of_a_grain
floor_from low x a s n h e f g = e ∙ ap₂ (λ (y z : ℤ). floor_div (y *ℤ z) products_of_a_grain) f (unsigned-is s n h g)

pub ceil_from : (high x a s : ℤ) (n : ℕ) → pos 0 ≤ℤ s → high ≡ ceil_div (x *ℤ pos n) products_of_a_grain → x ≡ a → n ≡ unsigned_abs s
    → high ≡ ceil_div (a *ℤ s) products_of_a_grain
ceil_from high x a s n h e f g = e ∙ ap₂ (λ (y z : ℤ). ceil_div (y *ℤ z) products_of_a_grain) f (unsigned-is s n h g)

pub segment-size : (volumes : List (ℕ × ℕ)) (premium reserve : ℕ) → premium ≤ 1000000 → reserve ≤ 1000000
    → IsAmount (1000 * total_volume volumes) (segment_ends volumes premium reserve)
segment-size volumes premium reserve h k =
    is_amount (1000 * total_volume volumes) (segment_ends volumes premium reserve) (segment-not_negative volumes premium reserve)
    (enclosing-in_order 1000 (segment_ends volumes premium reserve).low (segment_ends volumes premium reserve).high (segment_figure volumes premium reserve)
    (segment-encloses volumes premium reserve))
    (segment-at_most_the_volume volumes premium reserve h k)

pub diversification-size : (volumes : List (ℕ × ℕ)) → IsAmount ratio_unit (diversification_ends volumes)
diversification-size volumes =
    let d = diversification_ends volumes in
    is_amount ratio_unit d (diversification-not_negative volumes)
    (enclosing-in_order ratio_unit d.low d.high (Frac (fraction_of (diversification volumes))) (diversification-encloses volumes)) (diversification-at_most_one volumes)
