-- The adjustments and the Solvency Capital Requirement as they are worked out, in grains, thousandths of a cent (this
-- project's own).
use Rattle.std.specs.Prelude.{ℕ, pos, ◌+ℤ◌, ◌≤ℤ◌}
use Rattle.scr_num.specs.Rounding.{Ends, exact_ends, add_ends, sub_ends, max_ends, min_ends, scale_ends}
use Rattle.scr_num.specs.Cents.{cents_ends}

-- ends in order, neither of which is above 0 or below the negative of `most`
pub record IsNegativeAmount (most : ℕ) (e : Ends) : Type 0 where
  pub least : pos 0 ≤ℤ (e.low +ℤ pos most)
  pub ordered : e.low ≤ℤ e.high
  pub not_positive : e.high ≤ℤ pos 0

abbrev pub negative_ends : Ends → Ends
negative_ends e = sub_ends (exact_ends (pos 0)) e

-- what technical provisions absorb
abbrev pub absorbed_ends : (bscr net : Ends) → (fdb : ℕ) → Ends
absorbed_ends bscr net fdb = max_ends (min_ends (sub_ends bscr net) (cents_ends fdb)) (exact_ends (pos 0))

abbrev pub adj_tp_ends : (bscr net : Ends) → (fdb : ℕ) → Ends
adj_tp_ends bscr net fdb = negative_ends (absorbed_ends bscr net fdb)

-- the tax on a loss
abbrev pub tax_ends : (loss : Ends) → (rate cap : ℕ) → Ends
tax_ends loss rate cap = min_ends (scale_ends loss rate 1_000_000) (cents_ends cap)

abbrev pub adj_dt_ends : (bscr tp op : Ends) → (rate cap : ℕ) → Ends
adj_dt_ends bscr tp op rate cap =
    negative_ends (tax_ends (max_ends (exact_ends (pos 0)) (add_ends (add_ends bscr tp) op)) rate cap)

abbrev pub scr_ends : (bscr tp dt op : Ends) → Ends
scr_ends bscr tp dt op = add_ends (add_ends (add_ends bscr tp) dt) op
