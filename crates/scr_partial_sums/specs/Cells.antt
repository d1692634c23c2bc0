-- A narrow figure in 127 bits (own). Bits 0 to 89 hold the low end plus 2^89. Bits 90 to 125 hold the width, high end less low
-- end. Bit 126 is set if the figure rests on an open choice.
use Rattle.std.specs.Prelude.{ℕ, ◌/◌, ◌%◌, ◌^◌, ◌==◌, Bool, ℤ, pos, neg_ℤ, ◌+ℤ◌, ◌-ℤ◌, ◌≤ℤ◌, ◌<ℤ◌}
use Rattle.scr_partial_sums.specs.declared.figure.Figure.{Figure}

-- The low end of the figure in these bits (own).
abbrev pub low_in : ℕ → ℤ
low_in bits = pos (bits % 2 ^ 90) -ℤ pos (2 ^ 89)

-- The high end of the figure in these bits (own).
abbrev pub high_in : ℕ → ℤ
high_in bits = low_in bits +ℤ pos (bits / 2 ^ 90 % 2 ^ 36)

-- Whether the figure in these bits rests on an open choice (own).
abbrev pub close_in : ℕ → Bool
close_in bits = bits / 2 ^ 90 / 2 ^ 36 == 1

-- The figure fits into a cell (own): its low end is at least -2^89 and below 2^89, and its width is below 2^36.
pub record IsNarrow (figure : Figure) : Type 0 where
  pub from : neg_ℤ (pos (2 ^ 89)) ≤ℤ figure.span.low
  pub below : figure.span.low <ℤ pos (2 ^ 89)
  pub width : figure.span.high <ℤ (figure.span.low +ℤ pos (2 ^ 36))
