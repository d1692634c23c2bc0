-- The adjustments and the Solvency Capital Requirement as worked out enclose the exact figures, and how large they are.
use Rattle.std.proofs.Common.{ℕ, ◌*◌, ◌≤◌, ℤ, pos, ◌-ℤ◌, ◌≤ℤ◌, arith, lit<}
use Rattle.std.specs.Int.{int_max, int_min}
use Rattle.std.proofs.lemmas.Int.{ints, clamps}
use Rattle.std.proofs.lemmas.Nat.{mul-le}
use Rattle.scr_num.specs.Fraction.{zero_fraction}
use Rattle.scr_num.specs.Figure.{Figure, Frac, Sum, Diff, Max, Min, Times}
use Rattle.scr_num.specs.Rounding.{Ends, exact_ends, add_ends, sub_ends, max_ends, min_ends, scale_ends}
use Rattle.scr_num.specs.Amounts.{IsAmount}
use Rattle.scr_num.specs.Enclosure.{Encloses}
use Rattle.scr_num.specs.Cents.{cents_ends, cents_figure}
use Rattle.scr_num.proofs.AmountBounds.{is_amount, amount-high, amount-cut, amount-scale}
use Rattle.scr_num.proofs.Enclosing.{Encloses-add, Encloses-sub, Encloses-min, Encloses-scale}
use Rattle.scr_num.proofs.CentAmounts.{Encloses-cents, Encloses-nothing}
use Rattle.scr_num.proofs.SumLemmas.{Encloses-cut_first, Encloses-cut_last}
use Rattle.scr_loss.specs.Absorption.{negative, adj_tp_figure, millionths_share, adj_dt_figure, scr_figure}
use Rattle.scr_loss.specs.AbsorptionEnds.{IsNegativeAmount, negative_ends, absorbed_ends, adj_tp_ends, tax_ends, adj_dt_ends, scr_ends}

-- ---- an amount as one below 0
negative-encloses : (e : Ends) (f : Figure) → Encloses 1000 e.low e.high f → Encloses 1000 (negative_ends e).low (negative_ends e).high (negative f)
negative-encloses e f h = Encloses-sub 1000 (pos 0) (pos 0) e.low e.high (Frac zero_fraction) f Encloses-nothing h

negative-size : (most : ℕ) (e : Ends) → IsAmount most e → IsNegativeAmount most (negative_ends e)
negative-size most e h =
    let least = h.not_negative in
    let rising = h.ordered in
    let above = amount-high most e h in
    record { least = omega (arith, ints); ordered = omega (arith, ints); not_positive = omega (arith, ints) }

-- ---- technical provisions
pub adj_tp-encloses : (bscr net : Ends) (f g : Figure) (fdb : ℕ) → Encloses 1000 bscr.low bscr.high f → Encloses 1000 net.low net.high g
    → Encloses 1000 (adj_tp_ends bscr net fdb).low (adj_tp_ends bscr net fdb).high (adj_tp_figure f g fdb)
adj_tp-encloses bscr net f g fdb h k =
    let gap = sub_ends bscr net in
    let limited = min_ends gap (cents_ends fdb) in
    negative-encloses (absorbed_ends bscr net fdb) (Max (Min (Diff f g) (cents_figure fdb)) (Frac zero_fraction))
    (Encloses-cut_last 1000 limited (Min (Diff f g) (cents_figure fdb))
    (Encloses-min 1000 gap.low gap.high (pos (1000 * fdb)) (pos (1000 * fdb)) (Diff f g) (cents_figure fdb)
    (Encloses-sub 1000 bscr.low bscr.high net.low net.high f g h k) (Encloses-cents fdb)))

absorbed-size : (bscr net : Ends) (fdb : ℕ) → bscr.low ≤ℤ bscr.high → net.low ≤ℤ net.high → IsAmount (1000 * fdb) (absorbed_ends bscr net fdb)
absorbed-size bscr net fdb h k = is_amount (1000 * fdb) (absorbed_ends bscr net fdb) (omega (arith, ints, clamps)) (rising bscr.low bscr.high net.low net.high h k) (omega (arith, ints, clamps))
  where
    rising : (a b c d : ℤ) → a ≤ℤ b → c ≤ℤ d → int_max (int_min (a -ℤ d) (pos (1000 * fdb))) (pos 0) ≤ℤ int_max (int_min (b -ℤ c) (pos (1000 * fdb))) (pos 0)
    rising a b c d p q = omega (arith, ints, clamps)

pub adj_tp-size : (bscr net : Ends) (fdb : ℕ) → bscr.low ≤ℤ bscr.high → net.low ≤ℤ net.high → IsNegativeAmount (1000 * fdb) (adj_tp_ends bscr net fdb)
adj_tp-size bscr net fdb h k = negative-size (1000 * fdb) (absorbed_ends bscr net fdb) (absorbed-size bscr net fdb h k)

-- ---- deferred taxes
pub adj_dt-encloses : (bscr tp op : Ends) (f g h : Figure) (rate cap : ℕ) → Encloses 1000 bscr.low bscr.high f → Encloses 1000 tp.low tp.high g
    → Encloses 1000 op.low op.high h → Encloses 1000 (adj_dt_ends bscr tp op rate cap).low (adj_dt_ends bscr tp op rate cap).high (adj_dt_figure f g h rate cap)
adj_dt-encloses bscr tp op f g h rate cap in_bscr in_tp in_op =
    let two = add_ends bscr tp in
    let all = add_ends two op in
    let loss = max_ends (exact_ends (pos 0)) all in
    let tax = scale_ends loss rate 1000000 in
    negative-encloses (tax_ends loss rate cap) (Min (Times (Max (Frac zero_fraction) (Sum (Sum f g) h)) (millionths_share rate)) (cents_figure cap))
    (Encloses-min 1000 tax.low tax.high (pos (1000 * cap)) (pos (1000 * cap)) (Times (Max (Frac zero_fraction) (Sum (Sum f g) h)) (millionths_share rate)) (cents_figure cap)
    (Encloses-scale 1000 1000 rate 1000000 loss.low loss.high (Max (Frac zero_fraction) (Sum (Sum f g) h)) (millionths_share rate) (lit< tt)
    (record { positive = lit< tt; equal = omega arith })
    (Encloses-cut_first 1000 all (Sum (Sum f g) h)
    (Encloses-add 1000 two.low two.high op.low op.high (Sum f g) h (Encloses-add 1000 bscr.low bscr.high tp.low tp.high f g in_bscr in_tp) in_op)))
    (Encloses-cents cap))

min-size : (a b : ℕ) (e : Ends) → IsAmount a e → IsAmount b (min_ends e (exact_ends (pos b)))
min-size a b e h =
    let least = h.not_negative in
    let rising = h.ordered in
    is_amount b (min_ends e (exact_ends (pos b))) (omega (arith, ints, clamps)) (omega (arith, ints, clamps)) (omega (arith, ints, clamps))

pub adj_dt-size : (most : ℕ) (bscr tp op : Ends) (rate cap : ℕ) → rate ≤ 1000000 → let all = add_ends (add_ends bscr tp) op in
    all.low ≤ℤ all.high → all.high ≤ℤ pos most → IsNegativeAmount (1000 * cap) (adj_dt_ends bscr tp op rate cap)
adj_dt-size most bscr tp op rate cap small order high =
    let all = add_ends (add_ends bscr tp) op in
    let loss = max_ends (exact_ends (pos 0)) all in
    negative-size (1000 * cap) (tax_ends loss rate cap)
    (min-size most (1000 * cap) (scale_ends loss rate 1000000)
    (amount-scale most most rate 1000000 loss (lit< tt) (mul-le most rate most 1000000 (omega arith) small) (amount-cut most all order high)))

-- ---- the requirement
pub scr-encloses : (bscr tp dt op : Ends) (f g h i : Figure) → Encloses 1000 bscr.low bscr.high f → Encloses 1000 tp.low tp.high g → Encloses 1000 dt.low dt.high h
    → Encloses 1000 op.low op.high i → Encloses 1000 (scr_ends bscr tp dt op).low (scr_ends bscr tp dt op).high (scr_figure f g h i)
scr-encloses bscr tp dt op f g h i a b c d =
    let two = add_ends bscr tp in
    let three = add_ends two dt in
    Encloses-add 1000 three.low three.high op.low op.high (Sum (Sum f g) h) i
    (Encloses-add 1000 two.low two.high dt.low dt.high (Sum f g) h (Encloses-add 1000 bscr.low bscr.high tp.low tp.high f g a b) c) d
