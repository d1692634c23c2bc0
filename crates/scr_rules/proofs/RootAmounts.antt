-- Amounts that are together within the limit fit under a root.
use Rattle.std.proofs.Common.{ℕ, ◌≤◌, List, [], ◌∷◌, sum_by, arith}
use Rattle.std.proofs.lemmas.List.Sums.{sum_by-cons}
use Rattle.scr_num.specs.Amounts.{AreAmounts}
use Rattle.scr_num.specs.Rounding.{Ends}
use Rattle.scr_num.proofs.AmountBounds.{amount-high}
use Rattle.scr_num.proofs.CentAmounts.{or_zero-at_most}
use Rattle.scr_rules.specs.Figures.{figures_from}
use Rattle.scr_rules.specs.RootFits.{AreNotNegative, high_total, FitsRoot}

amounts-low : (mosts : List ℕ) (es : List Ends) → AreAmounts mosts es → AreNotNegative es
amounts-low [] [] h = tt
amounts-low [] (e ∷ es) h = absurd h
amounts-low (most ∷ mosts) [] h = absurd h
amounts-low (most ∷ mosts) (e ∷ es) h = (h.0.not_negative, amounts-low mosts es h.1)

amounts-high : (mosts : List ℕ) (es : List Ends) → AreAmounts mosts es → high_total es ≤ sum_by (λ most. most) mosts
amounts-high [] [] h = omega arith
amounts-high [] (e ∷ es) h = absurd h
amounts-high (most ∷ mosts) [] h = absurd h
amounts-high (most ∷ mosts) (e ∷ es) h =
    omega (
      arith,
      or_zero-at_most e.high most (amount-high most e h.0),
      amounts-high mosts es h.1,
      sum_by-cons (λ (n : ℕ). n) most mosts,
    )

pub root-fits : (count : ℕ) (mosts : List ℕ) (figures : List Ends) → AreAmounts mosts (figures_from figures 0 count)
    → sum_by (λ most. most) mosts ≤ 6_000_000_000_000_000_000 → FitsRoot count figures
root-fits count mosts figures all le =
    let high = amounts-high mosts (figures_from figures 0 count) all in
    record { lows = amounts-low mosts (figures_from figures 0 count) all; highs = omega (arith, le, high) }
