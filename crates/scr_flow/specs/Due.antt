-- The amounts that fall due at a maturity, this project's own.
use Rattle.std.specs.Prelude.{ℕ, ◌==◌, ◌≢◌, All, if◌then◌else◌, ℤ, pos, ◌+ℤ◌, List, [], ◌∷◌, map}
use Rattle.std.specs.List.{range_with_len}
use Rattle.scr_dates.specs.declared.day.Day.{Day}
use Rattle.scr_dates.specs.declared.term.Maturity.{Maturity}
use Rattle.scr_dates.specs.declared.term.Maturity.TheVariants.{Past, Years, TooFar}
use Rattle.scr_dates.specs.Years.{maturity_of}

-- an amount at its maturity, and 0 at any other
abbrev pub amount_at : ℕ → Maturity → ℤ → ℤ
amount_at years Past amount = pos 0
amount_at years (Years n) amount = if n == years then amount else pos 0
amount_at years (TooFar n) amount = pos 0

-- the sum of the amounts that fall due after so many years from the reference date
unfoldable pub due_in : ℤ → List (Day × ℤ) → ℕ → ℤ
due_in asof [] years = pos 0
due_in asof (payment ∷ payments) years =
    amount_at years (maturity_of asof payment.0.number) payment.1 +ℤ due_in asof payments years

-- the sums of the amounts that fall due after 1, 2, 3 and up to 100 years
abbrev pub dues : ℤ → List (Day × ℤ) → List ℤ
dues asof payments = map (due_in asof payments) (range_with_len 1 100)

-- no payment lies further ahead than 100 years
abbrev pub AreNear : ℤ → List (Day × ℤ) → Type 0
AreNear asof payments = All (λ payment. (years : ℕ) → maturity_of asof payment.0.number ≢ TooFar years) payments
