-- The probability that a counterparty defaults within a year: Article 199 of Delegated Regulation (EU) 2015/35.
use Rattle.std.specs.Prelude.{ℕ, pos, slice_index}
use Rattle.std.proofs.Common.{lit<}
use Rattle.scr_num.specs.Fraction.{Fraction, over}
use Rattle.scr_profile.specs.StepTables.{probabilities}

-- so many thousandths of a percent
abbrev pub thousandths_of_percent : ℕ → Fraction
thousandths_of_percent n = over (pos n) 100_000 (lit< tt)

-- the probability that is printed for a credit quality step from 0 to 6, as a share of 1
abbrev pub probability_of_step : ℕ → Fraction
probability_of_step step = thousandths_of_percent (slice_index probabilities step)

-- Six of the seven probabilities differ. What the groups of a class share is that of the first step that has it, by which
-- the class is numbered (this project's own).
abbrev pub probability_of_class : ℕ → Fraction
probability_of_class class = probability_of_step class
