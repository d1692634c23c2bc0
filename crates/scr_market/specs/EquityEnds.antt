-- The equity figures as they are worked out, in grains, thousandths of a cent (this project's own): each part is one
-- whole number that is rounded outward once, and their root is rounded outward.
use Rattle.std.specs.Prelude.{ℕ, ◌*◌, ℤ, pos, ◌+ℤ◌, ◌*ℤ◌, List, [], ◌∷◌, slice_index}
use Rattle.scr_num.specs.Rounding.{Ends, exact_ends, add_ends, scale_ends, quad_ends}
use Rattle.scr_num.specs.Enclosure.{Encloses}
use Rattle.scr_market.specs.Equity.{type1_figure, type2_figure, infra_figure, infracorp_figure, equity_figure}
use Rattle.scr_market.specs.Equity.{equity_correlations}

-- so many millionths and the adjustment of the cents, and 22 percent of the strategic ones
abbrev pub fall_ends : (cents strategic base : ℕ) → ℤ → Ends
fall_ends cents strategic base sym =
    scale_ends (exact_ends (pos cents *ℤ (pos base +ℤ sym) +ℤ pos (strategic * 220_000))) 1 1000

-- so many hundredths of a millionth and that many percent of the adjustment of the cents
abbrev pub infrastructure_ends : (cents base percents : ℕ) → ℤ → Ends
infrastructure_ends cents base percents sym =
    scale_ends (exact_ends (pos cents *ℤ (pos base +ℤ pos percents *ℤ sym))) 1 100_000

abbrev pub type1_ends : (cents strategic : ℕ) → ℤ → Ends
type1_ends cents strategic sym = fall_ends cents strategic 390_000 sym

abbrev pub type2_ends : (cents strategic : ℕ) → ℤ → Ends
type2_ends cents strategic sym = fall_ends cents strategic 490_000 sym

abbrev pub infra_ends : ℕ → ℤ → Ends
infra_ends cents sym = infrastructure_ends cents 30_000_000 77 sym

abbrev pub infracorp_ends : ℕ → ℤ → Ends
infracorp_ends cents sym = infrastructure_ends cents 36_000_000 92 sym

-- the root over type 1 equities and all others
abbrev pub equity_root_ends : (type1 others : Ends) → Ends
equity_root_ends type1 others = quad_ends (type1 ∷ others ∷ []) equity_correlations

-- ---- from the six sums
abbrev pub others_ends : List ℕ → ℤ → Ends
others_ends sums sym =
    add_ends (add_ends (type2_ends (slice_index sums 2) (slice_index sums 3) sym) (infra_ends (slice_index sums 4) sym))
    (infracorp_ends (slice_index sums 5) sym)

abbrev pub equity_ends : List ℕ → ℤ → Ends
equity_ends sums sym =
    equity_root_ends (type1_ends (slice_index sums 0) (slice_index sums 1) sym) (others_ends sums sym)

-- ends in grains that enclose the five figures
pub record EncloseEquity (type1 type2 infra infracorp all : Ends) (sums : List ℕ) (sym : ℤ) : Type 0 where
  pub type1_within : Encloses 1000 type1.low type1.high (type1_figure (slice_index sums 0) (slice_index sums 1) sym)
  pub type2_within : Encloses 1000 type2.low type2.high (type2_figure (slice_index sums 2) (slice_index sums 3) sym)
  pub infra_within : Encloses 1000 infra.low infra.high (infra_figure (slice_index sums 4) sym)
  pub infracorp_within : Encloses 1000 infracorp.low infracorp.high (infracorp_figure (slice_index sums 5) sym)
  pub all_within : Encloses 1000 all.low all.high (equity_figure sums sym)
