-- The exact figures of operational risk: Article 204 of Delegated Regulation (EU) 2015/35. Nothing is rounded. Premiums
-- and provisions are in cents.
use Rattle.std.specs.Prelude.{ℕ, ◌≤◌, pos, ◌-ℤ◌, unsigned_abs}
use Rattle.std.proofs.Common.{lit<}
use Rattle.scr_num.specs.Fraction.{Fraction, Share, over, whole, percent, zero_fraction, minus, product}
use Rattle.scr_num.specs.Figure.{Figure}
use Rattle.scr_num.specs.Figure.Figure.{Frac, Sum, Max, Min, Times}
use Rattle.scr_num.specs.Cents.{cents_figure}
use Rattle.scr_profile.specs.declared.operational.OpInput.{OpInput}
use Rattle.scr_profile.specs.declared.limits.TheConstants.{MAX_AMOUNT}

-- each amount is within the limits of a book
pub record IsWithinLimits (op : OpInput) : Type 0 where
  pub tpl : unsigned_abs op.tpl ≤ MAX_AMOUNT
  pub tpul : unsigned_abs op.tpul ≤ MAX_AMOUNT
  pub tpn : unsigned_abs op.tpn ≤ MAX_AMOUNT
  pub el : op.el ≤ MAX_AMOUNT
  pub eul : op.eul ≤ MAX_AMOUNT
  pub pel : op.pel ≤ MAX_AMOUNT
  pub peul : op.peul ≤ MAX_AMOUNT
  pub en : op.en ≤ MAX_AMOUNT
  pub pen : op.pen ≤ MAX_AMOUNT
  pub expul : op.expul ≤ MAX_AMOUNT

abbrev pub percent_share : ℕ → Share
percent_share n = record { num = n; den = 100; positive = lit< tt }

-- what premiums are above 1.2 times those of the year before
abbrev pub beyond : (now before : ℕ) → Fraction
beyond now before = minus (whole (pos now)) (product (over (pos 6) 5 (lit< tt)) (whole (pos before)))

-- that of life without the contracts where policyholders bear the investment risk
abbrev pub life_growth : OpInput → Fraction
life_growth op = minus (beyond op.el op.pel) (beyond op.eul op.peul)

abbrev pub or_nil : Figure → Figure
or_nil f = Max (Frac zero_fraction) f

-- by premiums: 4 percent of those of life without the contracts where policyholders bear the investment risk, and 3
-- percent of those of non-life (Article 204(3))
abbrev pub level_figure : OpInput → Figure
level_figure op =
    Sum (Times (Frac (whole (pos op.el -ℤ pos op.eul))) (percent_share 4))
    (Times (cents_figure op.en) (percent_share 3))

-- and as much of what each has grown beyond 20 percent (Article 204(3))
abbrev pub growth_figure : OpInput → Figure
growth_figure op =
    Sum (or_nil (Times (Frac (life_growth op)) (percent_share 4)))
    (or_nil (Times (Frac (beyond op.en op.pen)) (percent_share 3)))

abbrev pub prem_figure : OpInput → Figure
prem_figure op = Sum (level_figure op) (growth_figure op)

-- 0.0045
abbrev pub life_provisions_share : Share
life_provisions_share = record { num = 45; den = 10_000; positive = lit< tt }

-- by provisions: 0.45 percent of those of life without the contracts where policyholders bear the investment risk,
-- and 3 percent of those of non-life (Article 204(4))
abbrev pub prov_figure : OpInput → Figure
prov_figure op =
    Sum (Times (or_nil (Frac (whole (op.tpl -ℤ op.tpul)))) life_provisions_share)
    (Times (or_nil (Frac (whole op.tpn))) (percent_share 3))

-- 30 percent of the Basic Solvency Capital Requirement (Article 204(1))
abbrev pub cap_figure : Figure → Figure
cap_figure bscr = Times bscr (percent_share 30)

-- the greater of both, no more than the cap, and 25 percent of the expenses for the contracts where policyholders
-- bear the investment risk (Article 204(1) and (2))
abbrev pub op_figure : (cap prem prov : Figure) → (expul : ℕ) → Figure
op_figure cap prem prov expul = Sum (Min cap (Max prem prov)) (Frac (product (percent 25) (whole (pos expul))))
