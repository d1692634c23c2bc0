-- The tables by credit quality step, 0 to 6, in percent as the Regulation prints them: Articles 185, 186 and 199 of
-- Delegated Regulation (EU) 2015/35.
use Rattle.std.specs.Prelude.{ℕ, ◌+◌, ◌*◌, List, [], ◌∷◌}

-- a number with three digits after the point, in thousandths: `decimal 4 2 0 0` is 4.200
abbrev pub decimal : (whole tenths hundredths thousandths : ℕ) → ℕ
decimal whole tenths hundredths thousandths = 1000 * whole + 100 * tenths + 10 * hundredths + thousandths

-- the relative excess exposure thresholds of market risk concentration: Article 185
abbrev pub thresholds : List ℕ
thresholds =
    decimal 3 0 0 0 ∷ decimal 3 0 0 0 ∷ decimal 3 0 0 0
    ∷ decimal 1 5 0 0 ∷ decimal 1 5 0 0 ∷ decimal 1 5 0 0 ∷ decimal 1 5 0 0 ∷ []

-- the risk factors of market risk concentration: Article 186
abbrev pub risk_factors : List ℕ
risk_factors =
    decimal 12 0 0 0 ∷ decimal 12 0 0 0 ∷ decimal 21 0 0 0 ∷ decimal 27 0 0 0
    ∷ decimal 73 0 0 0 ∷ decimal 73 0 0 0 ∷ decimal 73 0 0 0 ∷ []

-- the probabilities of default: Article 199
abbrev pub probabilities : List ℕ
probabilities =
    decimal 0 0 0 2 ∷ decimal 0 0 1 0 ∷ decimal 0 0 5 0 ∷ decimal 0 2 4 0
    ∷ decimal 1 2 0 0 ∷ decimal 4 2 0 0 ∷ decimal 4 2 0 0 ∷ []
