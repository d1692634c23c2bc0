-- Currency risk.
use Rattle.std.proofs.Common.{◌≡◌, ℕ, ◌+◌, ◌*◌, ◌≤◌, ℤ, pos, ◌*ℤ◌, ◌≤ℤ◌, unsigned_abs, refl, arith, lit<}
use Rattle.std.proofs.lemmas.Int.{ints}
use Rattle.scr_num.specs.Fraction.{Fraction, Share, over, whole, zero_fraction, minus, times, greater}
use Rattle.scr_num.specs.Figure.{Frac, Times, AtMost}
use Rattle.scr_num.specs.Rounding.{Ends, sub_ends, scale_ends}
use Rattle.scr_num.specs.Amounts.{IsAmount}
use Rattle.scr_num.specs.Enclosure.{Encloses}
use Rattle.scr_num.proofs.Fractions.{≼_trans, times_mono}
use Rattle.scr_num.proofs.Enclosing.{Encloses-exact, Encloses-sub, Encloses-minus, Encloses-scale}
use Rattle.scr_num.proofs.SumLemmas.{Encloses-cut_first}
use Rattle.scr_num.proofs.Quotients.{floor_div-le-ceil_div, times_le}
use Rattle.scr_num.proofs.AmountBounds.{amount-cut, ceil_div-least}
use Rattle.scr_agg.proofs.ExactAmounts.{Encloses-greater}
use Rattle.scr_market.specs.Currency.{quarter, currency_rise_exact, currency_fall_exact}
use Rattle.scr_market.specs.CurrencyEnds.{fine_ends, quarter_ends, currency_rise_ends, currency_fall_ends}

-- ---- enclosure
Encloses-times : (unit : ℕ) (low high : ℤ) (p : Fraction) (share : Share)
    → Encloses unit low high (Times (Frac p) share) → Encloses unit low high (Frac (times p share))
unfolding AtMost
Encloses-times unit low high p share h =
    let a = h.at_most in
    let b = h.at_least in
    record {
      positive = h.positive;
      at_most = ≼_trans (over low unit h.positive) (times a.0 share) (times p share) a.2 (times_mono a.0 p share a.1);
      at_least = ≼_trans (times p share) (times b.0 share) (over high unit h.positive) (times_mono p b.0 share b.1) b.2;
    }

fine-encloses : (cents : ℕ) → let e = fine_ends cents in
    Encloses 1000000000000000000 e.low e.high (Frac (whole (pos cents)))
fine-encloses cents =
    Encloses-exact 1000000000000000000 (pos (1000000000000000000 * cents)) (whole (pos cents))
    (record { positive = lit< tt; equal = omega (arith, ints) })

quarter-encloses : (loss : Ends) (p : Fraction) → Encloses 1000000000000000000 loss.low loss.high (Frac p)
    → let e = quarter_ends loss in Encloses 1000 e.low e.high (Frac (greater zero_fraction (times p quarter)))
quarter-encloses loss p h =
    let part = scale_ends loss 1 4000000000000000 in
    let scaled = Encloses-scale 1000000000000000000 1000 1 4000000000000000 loss.low loss.high (Frac p) quarter
    (lit< tt)
    (record { positive = lit< tt; equal = refl }) h in
    let e = quarter_ends loss in
    Encloses-greater 1000 e.low e.high zero_fraction (times p quarter)
    (Encloses-cut_first 1000 part (Frac (times p quarter)) (Encloses-times 1000 part.low part.high p quarter scaled))

difference : (a b : Ends) (p q : Fraction) → Encloses 1000000000000000000 a.low a.high (Frac p)
    → Encloses 1000000000000000000 b.low b.high (Frac q)
    → let e = sub_ends a b in Encloses 1000000000000000000 e.low e.high (Frac (minus p q))
difference a b p q h k =
    let e = sub_ends a b in
    Encloses-minus 1000000000000000000 e.low e.high p q
    (Encloses-sub 1000000000000000000 a.low a.high b.low b.high (Frac p) (Frac q) h k)

module _ (assets : ℕ) (l : Ends) (p : Fraction) (h : Encloses 1000000000000000000 l.low l.high (Frac p)) where
  pub rise-encloses : let e = currency_rise_ends assets l in Encloses 1000 e.low e.high (Frac (currency_rise_exact assets p))
  rise-encloses =
      quarter-encloses (sub_ends l (fine_ends assets)) (minus p (whole (pos assets)))
      (difference l (fine_ends assets) p (whole (pos assets)) h (fine-encloses assets))

  pub fall-encloses : let e = currency_fall_ends assets l in Encloses 1000 e.low e.high (Frac (currency_fall_exact assets p))
  fall-encloses =
      quarter-encloses (sub_ends (fine_ends assets) l) (minus (whole (pos assets)) p)
      (difference (fine_ends assets) l (whole (pos assets)) p (fine-encloses assets) h)

-- ---- size
quarter-size : (most : ℕ) (loss : Ends) → loss.low ≤ℤ loss.high → loss.high ≤ℤ pos (most * 4000000000000000)
    → IsAmount most (quarter_ends loss)
quarter-size most loss order high =
    let once : (z : ℤ) → z *ℤ pos 1 ≡ z = λ z. omega (arith, ints) in
    amount-cut most (scale_ends loss 1 4000000000000000)
    (floor_div-le-ceil_div (loss.low *ℤ pos 1) (loss.high *ℤ pos 1) 4000000000000000 (lit< tt)
    (times_le loss.low loss.high 1 order))
    (ceil_div-least (loss.high *ℤ pos 1) 4000000000000000 most (lit< tt) (rw (once loss.high) high))

module _ (assets most : ℕ) (l : Ends) (order : l.low ≤ℤ l.high)
    (low : unsigned_abs l.low + 1000000000000000000 * assets ≤ most * 4000000000000000)
    (high : unsigned_abs l.high + 1000000000000000000 * assets ≤ most * 4000000000000000) where
  pub rise-size : IsAmount most (currency_rise_ends assets l)
  rise-size = quarter-size most (sub_ends l (fine_ends assets)) (omega (arith, ints)) (omega (arith, ints))

  pub fall-size : IsAmount most (currency_fall_ends assets l)
  fall-size = quarter-size most (sub_ends (fine_ends assets) l) (omega (arith, ints)) (omega (arith, ints))
