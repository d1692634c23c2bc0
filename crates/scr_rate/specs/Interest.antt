-- The exact figures of the interest rate risk sub-module, in cents: Articles 165 and 206(2) of Delegated Regulation
-- (EU) 2015/35. Nothing is rounded. A rise and a fall of interest rates each cost the sum of the losses in all currencies,
-- and the one that costs more after absorption decides.
use Rattle.std.specs.Prelude.{ℕ, List, [], ◌∷◌}
use Rattle.scr_num.specs.Fraction.{Fraction, zero_fraction, plus, greater}
use Rattle.scr_agg.specs.Absorbed.{net_exact}
use Rattle.scr_agg.specs.Choice.{Outcome, outcome_at, chosen}

-- what counts of a currency's loss: a gain counts as nil (this project's own)
abbrev pub counted : Fraction → Fraction
counted loss = greater loss zero_fraction

-- the losses in all currencies, before absorption (Article 165(1))
abbrev pub gross_exact : List Fraction → Fraction
gross_exact [] = zero_fraction
gross_exact (loss ∷ losses) = plus (counted loss) (gross_exact losses)

-- what a rise or a fall costs before and after absorption
abbrev pub scenario_outcome : List Fraction → ℕ → Outcome
scenario_outcome losses absorb = record { gross = gross_exact losses; net = net_exact (gross_exact losses) absorb }

-- the rise, listed first, and the fall
abbrev pub interest_outcomes : (up down : List Fraction) (absorb_up absorb_down : ℕ) → List Outcome
interest_outcomes up down absorb_up absorb_down = scenario_outcome up absorb_up ∷ scenario_outcome down absorb_down ∷ []

-- the one that decides (Articles 165(2) and 206(2))
abbrev pub interest_outcome : (up down : List Fraction) (absorb_up absorb_down : ℕ) → Outcome
interest_outcome up down absorb_up absorb_down =
    let outcomes = interest_outcomes up down absorb_up absorb_down in outcome_at outcomes (chosen outcomes)
