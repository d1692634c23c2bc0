-- Figures that a table can recognise by their bits (own).
use Rattle.std.specs.Prelude.{◌≡◌, ℕ, ◌+◌, ◌≤ℤ◌, pos, false, List, Some, slice_get}
use Rattle.std.specs.Int.Signed.{le_z_yes}
use Rattle.scr_partial_sums.specs.declared.figure.Figure.{Figure}

-- The figure 0, exact and settled (own).
abbrev pub nothing : Figure
nothing = record { span = record { low = pos 0; high = pos 0; ordered = le_z_yes tt }; close = false }

-- The figure is one exact amount from 0 to `most`, and rests on no open choice (own).
pub record IsOneAmount (most : ℕ) (figure : Figure) : Type 0 where
  pub one : figure.span.low ≡ figure.span.high
  pub not_negative : pos 0 ≤ℤ figure.span.low
  pub few : figure.span.low ≤ℤ pos most
  pub settled : figure.close ≡ false

-- The figure with id `number` is one exact amount from 0 to `most`, and the next figure is 0 (own).
pub record IsAmountBeforeNothing (most : ℕ) (figures : List Figure) (number : ℕ) : Type 0 where
  pub figure : Figure
  pub here : slice_get figures number ≡ Some figure
  pub amount : IsOneAmount most figure
  pub next : slice_get figures (number + 1) ≡ Some nothing
