-- The exact adjustments for the loss-absorbing capacity of technical provisions and deferred taxes, and the Solvency
-- Capital Requirement: Articles 205 to 207 of Delegated Regulation (EU) 2015/35 and Directive 2009/138/EC, Article
-- 103. Nothing is rounded. Future discretionary benefits and the cap on the adjustment for deferred taxes are in
-- cents, the rate of tax in millionths.
use Rattle.std.specs.Prelude.{ℕ}
use Rattle.std.proofs.Common.{lit<}
use Rattle.scr_num.specs.Fraction.{Share, zero_fraction}
use Rattle.scr_num.specs.Figure.{Figure}
use Rattle.scr_num.specs.Figure.Figure.{Frac, Sum, Diff, Max, Min, Times}
use Rattle.scr_num.specs.Cents.{cents_figure}

-- the negative of a figure
abbrev pub negative : Figure → Figure
negative f = Diff (Frac zero_fraction) f

-- the difference of the gross and the net requirement, no more than future discretionary benefits and no less than 0,
-- as an amount below 0 (Article 206(1))
abbrev pub adj_tp_figure : (bscr net : Figure) → (fdb : ℕ) → Figure
adj_tp_figure bscr net fdb = negative (Max (Min (Diff bscr net) (cents_figure fdb)) (Frac zero_fraction))

abbrev pub millionths_share : ℕ → Share
millionths_share n = record { num = n; den = 1_000_000; positive = lit< tt }

-- the tax on what would be lost at once, after technical provisions have absorbed and with operational risk (Article
-- 207), no more than a cap (this project's own), as an amount below 0
abbrev pub adj_dt_figure : (bscr tp op : Figure) → (rate cap : ℕ) → Figure
adj_dt_figure bscr tp op rate cap =
    negative (Min (Times (Max (Frac zero_fraction) (Sum (Sum bscr tp) op)) (millionths_share rate)) (cents_figure cap))

-- the basic requirement, both adjustments and operational risk (Directive 2009/138/EC, Article 103)
abbrev pub scr_figure : (bscr tp dt op : Figure) → Figure
scr_figure bscr tp dt op = Sum (Sum (Sum bscr tp) dt) op
