-- The variance as it is worked out, in square grains (this project's own): each of its 36 and 6 terms is rounded outward
-- once, and they are added.
use Rattle.std.specs.Prelude.{ℕ, ◌+◌, ◌-◌, ◌*◌, pos, List, slice_index}
use Rattle.scr_num.specs.Rounding.{Ends, exact_ends, add_ends, scale_ends}
use Rattle.scr_profile.specs.declared.tables.TheConstants.{PD}
use Rattle.scr_default.specs.Sums.{sum_below}

-- a probability in hundred-thousandths, and its product with what it leaves of 1
abbrev pub probability : ℕ → ℕ
probability class = slice_index PD class

abbrev pub dispersion_units : ℕ → ℕ
dispersion_units class = probability class * (100_000 - probability class)

-- the coefficients of Article 201(2) and (3), as quotients of whole numbers
unfoldable pub between_num : (j k : ℕ) → ℕ
between_num j k = 4 * dispersion_units j * dispersion_units k

unfoldable pub between_den : (j k : ℕ) → ℕ
between_den j k = 10_000_000_000 * (500_000 * (probability j + probability k) - 4 * probability j * probability k)

unfoldable pub within_num : ℕ → ℕ
within_num j = 3 * dispersion_units j

unfoldable pub within_den : ℕ → ℕ
within_den j = 100_000 * (500_000 - 2 * probability j)

abbrev pub sum_of_class_ends : (ℕ → Ends) → Ends
sum_of_class_ends term = sum_below (exact_ends (pos 0)) add_ends term 6

abbrev pub between_term_ends : (totals : List ℕ) (j k : ℕ) → Ends
between_term_ends totals j k =
    scale_ends (exact_ends (pos (slice_index totals j * slice_index totals k))) (between_num j k) (between_den j k)

abbrev pub between_ends : List ℕ → Ends
between_ends totals = sum_of_class_ends (λ j. sum_of_class_ends (between_term_ends totals j))

abbrev pub within_term_ends : (squares : List ℕ) → ℕ → Ends
within_term_ends squares j = scale_ends (exact_ends (pos (slice_index squares j))) (within_num j) (within_den j)

abbrev pub within_ends : List ℕ → Ends
within_ends squares = sum_of_class_ends (within_term_ends squares)

abbrev pub variance_ends : (totals squares : List ℕ) → Ends
variance_ends totals squares = add_ends (between_ends totals) (within_ends squares)
