-- The equity ends as worked out enclose the exact figures, and how large they are.
use Rattle.std.proofs.Common.{◌≡◌, ℕ, ◌+◌, ◌*◌, ◌<◌, ℤ, pos, negsuc, ◌+ℤ◌, ◌*ℤ◌, ◌≤ℤ◌, List, [], ◌∷◌, length, sum_by}
use Rattle.std.proofs.Common.{refl, ap, arith, lit<, lit≤, suc, ◌≤◌, mul-le-mul_right}
use Rattle.std.specs.Prelude.{All, slice_index, unsigned_abs}
use Rattle.std.proofs.lemmas.Nat.{mul-le}
use Rattle.std.proofs.lemmas.List.Elements.{All-get_or}
use Rattle.std.proofs.lemmas.Int.{ints}
use Rattle.scr_num.specs.Fraction.{Fraction, percent, millionths, plus, product}
use Rattle.scr_num.specs.Figure.{Figure, Frac, Sum, more, none}
use Rattle.scr_num.specs.Rounding.{Ends, exact_ends, scale_ends, floor_div, or_zero}
use Rattle.scr_num.specs.Amounts.{IsAmount}
use Rattle.scr_num.proofs.AmountBounds.{is_amount, amount-scale, amount-add, amount-wider}
use Rattle.scr_agg.proofs.RootSizes.{root-within}
use Rattle.scr_profile.specs.declared.correlations.TheConstants.{EQUITY}
use Rattle.scr_profile.specs.Matrix.{IsCorrelation}
use Rattle.scr_profile.proofs.CorrelationRules.{is_correlation-holds}
use Rattle.scr_profile.specs.declared.limits.TheConstants.{MAX_HELD}
use Rattle.scr_market.specs.declared.equity_parts.TheConstants.{MAX_EQUITY, MAX_EQUITY_PART}
use Rattle.scr_num.specs.Enclosure.{Encloses, Measures}
use Rattle.scr_num.proofs.Enclosing.{Encloses-exact, Encloses-divided, Encloses-add}
use Rattle.scr_num.proofs.Quadratic.{Encloses-quad}
use Rattle.scr_market.specs.Equity.{part_of, fall_of, type1_figure, type2_figure, infra_figure, infracorp_figure}
use Rattle.scr_market.specs.Equity.{others_figure, equity_root_figure, equity_correlations}
use Rattle.scr_market.specs.EquityEnds.{fall_ends, infrastructure_ends, type1_ends, type2_ends, infra_ends}
use Rattle.scr_market.specs.EquityEnds.{infracorp_ends, others_ends, equity_root_ends, equity_ends, EncloseEquity}

-- a whole number of a finer unit, rounded outward to grains
grains : (k : ℕ) (v : ℤ) (p : Fraction) → 0 < k → Measures (1000 * k) v p → let e = scale_ends (exact_ends v) 1 k in
    Encloses 1000 e.low e.high (Frac p)
grains k v p positive h = Encloses-divided 1000 k (exact_ends v) (Frac p) positive (Encloses-exact (1000 * k) v p h)

-- where the one share is a hundred times the other
fall_numbers : (cents strategic : ℕ) (w u : ℤ) → u ≡ w *ℤ pos 100
    → (pos cents *ℤ w +ℤ pos (strategic * 220000)) *ℤ pos 10000000000
    ≡ ((pos cents *ℤ u) *ℤ pos 100 +ℤ pos (strategic * 22 * 100000000)) *ℤ pos 1000000
fall_numbers cents strategic (pos n) u e = rw e (omega (arith, ints))
fall_numbers cents strategic (negsuc n) u e =
    let hundred : u ≡ negsuc (100 * n + 99) = omega (arith, ints) in rw hundred (omega (arith, ints))

infrastructure_numbers : (cents : ℕ) (w u : ℤ) → u ≡ w *ℤ pos 100
    → (pos cents *ℤ w) *ℤ pos 10000000000 ≡ (pos cents *ℤ u) *ℤ pos 100000000
infrastructure_numbers cents (pos n) u e = rw e (omega (arith, ints))
infrastructure_numbers cents (negsuc n) u e =
    let hundred : u ≡ negsuc (100 * n + 99) = omega (arith, ints) in rw hundred (omega (arith, ints))

fall : (cents strategic base : ℕ) (sym : ℤ)
    → let e = fall_ends cents strategic (10000 * base) sym in
    Encloses 1000 e.low e.high (Frac (fall_of cents strategic base sym))
fall cents strategic base sym =
    grains 1000 (pos cents *ℤ (pos (10000 * base) +ℤ sym) +ℤ pos (strategic * 220000))
    (fall_of cents strategic base sym) (lit< tt)
    (record {
      positive = lit< tt;
      equal = fall_numbers cents strategic (pos (10000 * base) +ℤ sym) (pos (base * 1000000) +ℤ sym *ℤ pos 100)
          (omega (arith, ints));
    })

infrastructure : (cents base percents : ℕ) (sym : ℤ)
    → let e = infrastructure_ends cents (1000000 * base) percents sym in
    Encloses 1000 e.low e.high
    (Frac (part_of cents (plus (percent base) (product (percent percents) (millionths sym)))))
infrastructure cents base percents sym =
    grains 100000 (pos cents *ℤ (pos (1000000 * base) +ℤ pos percents *ℤ sym))
    (part_of cents (plus (percent base) (product (percent percents) (millionths sym)))) (lit< tt)
    (record {
      positive = lit< tt;
      equal = infrastructure_numbers cents (pos (1000000 * base) +ℤ pos percents *ℤ sym)
          (pos (base * 100000000) +ℤ pos percents *ℤ sym *ℤ pos 100) (omega (arith, ints));
    })

-- ---- how large the parts are
-- a share of the cents held
share-size : (cents most : ℕ) (share : ℤ) → cents ≤ MAX_HELD → pos 0 ≤ℤ share → share ≤ℤ pos most
    → (pos 0 ≤ℤ (pos cents *ℤ share)) × ((pos cents *ℤ share) ≤ℤ pos (MAX_HELD * most))
share-size cents most (negsuc n) held low high = absurd (omega (arith, ints))
share-size cents most (pos n) held low high =
    let within : n ≤ most = omega (arith, ints) in
    (omega (arith, ints), omega (arith, ints, mul-le cents n MAX_HELD most held within))

exact-size : (most : ℕ) (z : ℤ) → pos 0 ≤ℤ z → z ≤ℤ pos most → IsAmount most (exact_ends z)
exact-size most z low high = is_amount most (exact_ends z) low (omega (arith, ints)) high

fall-size : (cents strategic base : ℕ) (sym : ℤ) → cents ≤ MAX_HELD → strategic ≤ MAX_HELD → pos 0 ≤ℤ (pos base +ℤ sym)
    → (pos base +ℤ sym) ≤ℤ pos 600000
    → IsAmount MAX_EQUITY_PART (fall_ends cents strategic base sym)
fall-size cents strategic base sym held strategic_held low high =
    let part = share-size cents 600000 (pos base +ℤ sym) held low high in
    amount-scale 50000000000000000000 MAX_EQUITY_PART 1 1000
    (exact_ends (pos cents *ℤ (pos base +ℤ sym) +ℤ pos (strategic * 220000))) (lit< tt) (lit≤ tt)
    (exact-size 50000000000000000000 (pos cents *ℤ (pos base +ℤ sym) +ℤ pos (strategic * 220000))
    (low_end (pos cents *ℤ (pos base +ℤ sym)) part.0) (high_end (pos cents *ℤ (pos base +ℤ sym)) part.1))
  where
    low_end : (z : ℤ) → pos 0 ≤ℤ z → pos 0 ≤ℤ (z +ℤ pos (strategic * 220000))
    low_end z h = omega (arith, ints)

    high_end : (z : ℤ) → z ≤ℤ pos (MAX_HELD * 600000) → (z +ℤ pos (strategic * 220000)) ≤ℤ pos 50000000000000000000
    high_end z h = omega (arith, ints)

infrastructure-size : (cents base percents : ℕ) (sym : ℤ) → cents ≤ MAX_HELD
    → pos 0 ≤ℤ (pos base +ℤ pos percents *ℤ sym) → (pos base +ℤ pos percents *ℤ sym) ≤ℤ pos 50000000
    → IsAmount MAX_EQUITY_PART (infrastructure_ends cents base percents sym)
infrastructure-size cents base percents sym held low high =
    let part = share-size cents 50000000 (pos base +ℤ pos percents *ℤ sym) held low high in
    amount-scale (MAX_HELD * 50000000) MAX_EQUITY_PART 1 100000
    (exact_ends (pos cents *ℤ (pos base +ℤ pos percents *ℤ sym))) (lit< tt) (lit≤ tt)
    (exact-size (MAX_HELD * 50000000) (pos cents *ℤ (pos base +ℤ pos percents *ℤ sym)) part.0 part.1)

module _ (sym : ℤ) (least : negsuc 99999 ≤ℤ sym) (most : sym ≤ℤ pos 100000) where
  pub type1-size : (cents strategic : ℕ) → cents ≤ MAX_HELD → strategic ≤ MAX_HELD
      → IsAmount MAX_EQUITY_PART (type1_ends cents strategic sym)
  type1-size cents strategic held strategic_held =
      fall-size cents strategic 390000 sym held strategic_held (omega (arith, ints)) (omega (arith, ints))

  pub type2-size : (cents strategic : ℕ) → cents ≤ MAX_HELD → strategic ≤ MAX_HELD
      → IsAmount MAX_EQUITY_PART (type2_ends cents strategic sym)
  type2-size cents strategic held strategic_held =
      fall-size cents strategic 490000 sym held strategic_held (omega (arith, ints)) (omega (arith, ints))

  pub infra-size : (cents : ℕ) → cents ≤ MAX_HELD → IsAmount MAX_EQUITY_PART (infra_ends cents sym)
  infra-size cents held = infrastructure-size cents 30000000 77 sym held (omega (arith, ints)) (omega (arith, ints))

  pub infracorp-size : (cents : ℕ) → cents ≤ MAX_HELD → IsAmount MAX_EQUITY_PART (infracorp_ends cents sym)
  infracorp-size cents held = infrastructure-size cents 36000000 92 sym held (omega (arith, ints)) (omega (arith, ints))

equity_is : IsCorrelation EQUITY
equity_is = is_correlation-holds EQUITY refl

pub root-size : (a b : ℕ) (type1 others : Ends) → IsAmount a type1 → IsAmount b others
    → IsAmount (a + b) (equity_root_ends type1 others)
root-size a b type1 others h k =
    amount-wider (sum_by (λ most. most) (a ∷ b ∷ [])) (a + b) (equity_root_ends type1 others) (sums a b)
    (root-within EQUITY (a ∷ b ∷ []) (type1 ∷ others ∷ []) equity_is.denominator equity_is.within refl (h, (k, tt)))
  where
    sums : (a b : ℕ) → sum_by (λ most. most) (a ∷ b ∷ []) ≤ a + b
    sums a b = omega arith

pub equity-size : (sums : List ℕ) (sym : ℤ) → length sums ≡ 6 → All (λ cents. cents ≤ MAX_HELD) sums
    → negsuc 99999 ≤ℤ sym → sym ≤ℤ pos 100000
    → IsAmount MAX_EQUITY (equity_ends sums sym)
equity-size sums sym six all least most =
    let held : (k : ℕ) → k < 6 → slice_index sums k ≤ MAX_HELD =
    λ k lt. All-get_or (λ (cents : ℕ). cents ≤ MAX_HELD) sums k 0 (omega arith) all in
    let part1 = type1-size sym least most (slice_index sums 0) (slice_index sums 1) (held 0 (lit< tt))
    (held 1 (lit< tt)) in
    let part2 = type2-size sym least most (slice_index sums 2) (slice_index sums 3) (held 2 (lit< tt))
    (held 3 (lit< tt)) in
    let part3 = infra-size sym least most (slice_index sums 4) (held 4 (lit< tt)) in
    let part4 = infracorp-size sym least most (slice_index sums 5) (held 5 (lit< tt)) in
    root-size MAX_EQUITY_PART (MAX_EQUITY_PART + MAX_EQUITY_PART + MAX_EQUITY_PART)
    (type1_ends (slice_index sums 0) (slice_index sums 1) sym) (others_ends sums sym) part1
    (amount-add (MAX_EQUITY_PART + MAX_EQUITY_PART) MAX_EQUITY_PART _ _
    (amount-add MAX_EQUITY_PART MAX_EQUITY_PART _ _ part2 part3) part4)

-- ---- the ends are not negative
sum_not_negative : (a b : ℤ) → pos 0 ≤ℤ a → pos 0 ≤ℤ b → pos 0 ≤ℤ (a +ℤ b)
sum_not_negative a b h k = omega (arith, ints)

product_not_negative : (cents : ℕ) (share : ℤ) → pos 0 ≤ℤ share → pos 0 ≤ℤ (pos cents *ℤ share)
product_not_negative cents (pos n) h = omega (arith, ints)
product_not_negative cents (negsuc n) h = absurd (omega (arith, ints))

quotient_not_negative : (z : ℤ) (k : ℕ) → pos 0 ≤ℤ z → pos 0 ≤ℤ floor_div (z *ℤ pos 1) k
quotient_not_negative (pos n) k h = omega (arith, ints)
quotient_not_negative (negsuc n) k h = absurd (omega (arith, ints))

fall_not_negative : (cents strategic base : ℕ) (sym : ℤ) → 100000 ≤ base → negsuc 99999 ≤ℤ sym
    → pos 0 ≤ℤ (fall_ends cents strategic base sym).low
fall_not_negative cents strategic base sym h k =
    quotient_not_negative (pos cents *ℤ (pos base +ℤ sym) +ℤ pos (strategic * 220000)) 1000
    (plus_not_negative (pos cents *ℤ (pos base +ℤ sym)) (strategic * 220000)
    (product_not_negative cents (pos base +ℤ sym) (omega (arith, ints))))
  where
    plus_not_negative : (z : ℤ) (n : ℕ) → pos 0 ≤ℤ z → pos 0 ≤ℤ (z +ℤ pos n)
    plus_not_negative z n h = omega (arith, ints)

infrastructure_not_negative : (cents base percents : ℕ) (sym : ℤ) → 100000 * percents ≤ base → negsuc 99999 ≤ℤ sym
    → pos 0 ≤ℤ (infrastructure_ends cents base percents sym).low
infrastructure_not_negative cents base percents sym h k =
    quotient_not_negative (pos cents *ℤ (pos base +ℤ pos percents *ℤ sym)) 100000
    (product_not_negative cents (pos base +ℤ pos percents *ℤ sym) (adjusted sym k))
  where
    adjusted : (z : ℤ) → negsuc 99999 ≤ℤ z → pos 0 ≤ℤ (pos base +ℤ pos percents *ℤ z)
    adjusted (pos n) h' = omega (arith, ints)
    adjusted (negsuc n) h' = let small : suc n ≤ 100000 = omega (arith, ints) in
        omega (arith, ints, mul-le-mul_right percents small)

-- ---- the five figures
pub type1-encloses : (cents strategic : ℕ) (sym : ℤ) → let e = type1_ends cents strategic sym in
    Encloses 1000 e.low e.high (type1_figure cents strategic sym)
type1-encloses cents strategic sym = fall cents strategic 39 sym

pub type2-encloses : (cents strategic : ℕ) (sym : ℤ) → let e = type2_ends cents strategic sym in
    Encloses 1000 e.low e.high (type2_figure cents strategic sym)
type2-encloses cents strategic sym = fall cents strategic 49 sym

pub infra-encloses : (cents : ℕ) (sym : ℤ) → let e = infra_ends cents sym in
    Encloses 1000 e.low e.high (infra_figure cents sym)
infra-encloses cents sym = infrastructure cents 30 77 sym

pub infracorp-encloses : (cents : ℕ) (sym : ℤ) → let e = infracorp_ends cents sym in
    Encloses 1000 e.low e.high (infracorp_figure cents sym)
infracorp-encloses cents sym = infrastructure cents 36 92 sym

pub root-encloses : (type1 others : Ends) (f g : Figure) → pos 0 ≤ℤ type1.low → pos 0 ≤ℤ others.low
    → Encloses 1000 type1.low type1.high f → Encloses 1000 others.low others.high g
    → let e = equity_root_ends type1 others in Encloses 1000 e.low e.high (equity_root_figure f g)
root-encloses type1 others f g type1_low others_low h k =
    Encloses-quad 1000 (lit< tt) (type1 ∷ others ∷ []) (more f (more g none)) equity_correlations (lit< tt)
    (record { rows = refl; columns = (refl, (refl, tt)) }) (type1_low, h, (others_low, k, tt))

module _ (sums : List ℕ) (sym : ℤ) where
  others-encloses : let e = others_ends sums sym in Encloses 1000 e.low e.high (others_figure sums sym)
  others-encloses =
      let e = type2_ends (slice_index sums 2) (slice_index sums 3) sym in
      let f = infra_ends (slice_index sums 4) sym in
      let g = infracorp_ends (slice_index sums 5) sym in
      Encloses-add 1000 (e.low +ℤ f.low) (e.high +ℤ f.high) g.low g.high
      (Sum (type2_figure (slice_index sums 2) (slice_index sums 3) sym) (infra_figure (slice_index sums 4) sym))
      (infracorp_figure (slice_index sums 5) sym)
      (Encloses-add 1000 e.low e.high f.low f.high (type2_figure (slice_index sums 2) (slice_index sums 3) sym)
      (infra_figure (slice_index sums 4) sym)
      (type2-encloses (slice_index sums 2) (slice_index sums 3) sym) (infra-encloses (slice_index sums 4) sym))
      (infracorp-encloses (slice_index sums 5) sym)

  type1-low : negsuc 99999 ≤ℤ sym → pos 0 ≤ℤ (type1_ends (slice_index sums 0) (slice_index sums 1) sym).low
  type1-low h = fall_not_negative (slice_index sums 0) (slice_index sums 1) 390000 sym (lit≤ tt) h

  others-low : negsuc 99999 ≤ℤ sym → pos 0 ≤ℤ (others_ends sums sym).low
  others-low h =
      let e = type2_ends (slice_index sums 2) (slice_index sums 3) sym in
      let f = infra_ends (slice_index sums 4) sym in
      let g = infracorp_ends (slice_index sums 5) sym in
      sum_not_negative (e.low +ℤ f.low) g.low
      (sum_not_negative e.low f.low (fall_not_negative (slice_index sums 2) (slice_index sums 3) 490000 sym (lit≤ tt) h)
      (infrastructure_not_negative (slice_index sums 4) 30000000 77 sym (lit≤ tt) h))
      (infrastructure_not_negative (slice_index sums 5) 36000000 92 sym (lit≤ tt) h)

pub equity-encloses : (sums : List ℕ) (sym : ℤ) → negsuc 99999 ≤ℤ sym
    → EncloseEquity (type1_ends (slice_index sums 0) (slice_index sums 1) sym)
    (type2_ends (slice_index sums 2) (slice_index sums 3) sym)
    (infra_ends (slice_index sums 4) sym) (infracorp_ends (slice_index sums 5) sym) (equity_ends sums sym) sums sym
equity-encloses sums sym h = record {
  type1_within = type1-encloses (slice_index sums 0) (slice_index sums 1) sym;
  type2_within = type2-encloses (slice_index sums 2) (slice_index sums 3) sym;
  infra_within = infra-encloses (slice_index sums 4) sym;
  infracorp_within = infracorp-encloses (slice_index sums 5) sym;
  all_within = root-encloses (type1_ends (slice_index sums 0) (slice_index sums 1) sym) (others_ends sums sym) _ _
      (type1-low sums sym h) (others-low sums sym h)
      (type1-encloses (slice_index sums 0) (slice_index sums 1) sym) (others-encloses sums sym);
}

-- ---- as the code goes
pub fall_at : (cents strategic share base : ℕ) (sym : ℤ) → pos share ≡ pos base +ℤ sym
    → scale_ends (exact_ends (pos (cents * share + strategic * 220000))) 1 1000 ≡ fall_ends cents strategic base sym
fall_at cents strategic share base sym e =
    ap (λ (w : ℤ). scale_ends (exact_ends (pos cents *ℤ w +ℤ pos (strategic * 220000))) 1 1000) e

pub infrastructure_at : (cents share base percents : ℕ) (sym : ℤ) → pos share ≡ pos base +ℤ pos percents *ℤ sym
    → scale_ends (exact_ends (pos (cents * share))) 1 100000 ≡ infrastructure_ends cents base percents sym
infrastructure_at cents share base percents sym e = ap (λ (w : ℤ). scale_ends (exact_ends (pos cents *ℤ w)) 1 100000) e

pub or_zero-le : (z : ℤ) → or_zero z ≤ unsigned_abs z
or_zero-le (pos n) = omega (arith, ints)
or_zero-le (negsuc n) = omega arith
