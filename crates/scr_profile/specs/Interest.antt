-- The stresses of risk-free interest rates (Delegated Regulation (EU) 2015/35, Articles 166 and 167; seventieths of a
-- percent are this project's own).
use Rattle.std.specs.Prelude.{ℕ, ◌-◌, ◌*◌, nat_le, if◌then◌else◌, List, [], ◌∷◌, slice_index}

-- the rise of the rates of 1 to 20 years, in percent of the rate: Article 166
abbrev pub rise : List ℕ
rise =
    70 ∷ 70 ∷ 64 ∷ 59 ∷ 55 ∷ 52 ∷ 49 ∷ 47 ∷ 44 ∷ 42
    ∷ 39 ∷ 37 ∷ 35 ∷ 34 ∷ 33 ∷ 31 ∷ 30 ∷ 29 ∷ 27 ∷ 26 ∷ []

-- their fall: Article 167
abbrev pub fall : List ℕ
fall =
    75 ∷ 65 ∷ 56 ∷ 50 ∷ 46 ∷ 42 ∷ 39 ∷ 36 ∷ 33 ∷ 31
    ∷ 30 ∷ 29 ∷ 28 ∷ 28 ∷ 27 ∷ 28 ∷ 28 ∷ 28 ∷ 29 ∷ 29 ∷ []

-- the stress of a maturity in seventieths of a percent, in which it is a whole number: the percentage of
-- the list up to 20 years, 20 % from 90 years on, and on a straight line between
abbrev pub stress : List ℕ → ℕ → ℕ
stress percentages years =
    let last = slice_index percentages 19 in
    if nat_le years 20 then 70 * slice_index percentages (years - 1)
    else (if nat_le years 90 then 70 * last - (last - 20) * (years - 20) else 70 * 20)
