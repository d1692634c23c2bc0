-- The interest figures as they are worked out, in grains, thousandths of a cent, from losses in 10^-18 cents (this
-- project's own).
use Rattle.std.specs.Prelude.{ℕ, pos, ◌≤ℤ◌, List, [], ◌∷◌}
use Rattle.scr_num.specs.Fraction.{Fraction}
use Rattle.scr_num.specs.Figure.Figure.{Frac}
use Rattle.scr_num.specs.Rounding.{Ends, scale_ends}
use Rattle.scr_num.specs.Sums.{sum_ends}
use Rattle.scr_num.specs.Enclosure.{Encloses}
use Rattle.scr_agg.specs.Absorbed.{net_ends}
use Rattle.scr_agg.specs.Unbeaten.{Alternative}
use Rattle.scr_rate.specs.Interest.{counted}
use Rattle.scr_num.specs.Sizes.{IsWithin}

-- before absorption, in grains
abbrev pub gross_ends : List Ends → Ends
gross_ends losses = scale_ends (sum_ends losses) 1 1_000_000_000_000_000

-- before and after it
abbrev pub scenario_ends : List Ends → ℕ → Alternative
scenario_ends losses absorb = record { gross = gross_ends losses; net = net_ends (gross_ends losses) absorb }

-- the rise, listed first, and the fall
abbrev pub interest_ends : (up down : List Ends) (absorb_up absorb_down : ℕ) → List Alternative
interest_ends up down absorb_up absorb_down = scenario_ends up absorb_up ∷ scenario_ends down absorb_down ∷ []

-- currency by currency, ends in 10^-18 cents enclose what counts of its loss
abbrev pub EncloseLosses : List Ends → List Fraction → Type 0
EncloseLosses [] [] = Unit {0}
EncloseLosses (e ∷ es) (loss ∷ losses) =
    Encloses 1_000_000_000_000_000_000 e.low e.high (Frac (counted loss)) × EncloseLosses es losses
EncloseLosses [] (loss ∷ losses) = ⊥
EncloseLosses (e ∷ es) [] = ⊥

-- neither requirement is further from 0, and the net one is not negative
pub record IsCost (most : ℕ) (a : Alternative) : Type 0 where
  pub gross : IsWithin most a.gross
  pub net : IsWithin most a.net
  pub net_low : pos 0 ≤ℤ a.net.low
