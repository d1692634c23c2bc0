-- The numbers of a factor file (its form is this project's own): the factors of spread risk (Delegated Regulation (EU)
-- 2015/35, Article 176), and of premium and reserve risk the standard deviations (Articles 117 and 148, Annexes II and
-- XIV) and the correlations between the non-life segments (Annex IV).
use Rattle.std.specs.Prelude.{◌≡◌, ℕ, ◌+◌, ◌-◌, ◌*◌, ◌<◌, ◌≤◌, List, [], All, length, slice_index, slice_index_or, pos}
use Rattle.std.specs.Prelude.{◌≤ℤ◌}
use Rattle.scr_profile.specs.declared.matrix.Matrix.{Matrix}
use Rattle.scr_profile.specs.declared.set.Set.{Set}
use Rattle.scr_profile.specs.declared.set.Set.TheVariants.{Nl, Nslt}
use Rattle.scr_profile.specs.Matrix.{entry, IsCorrelation}

-- the rows of spread factors by credit quality step, and last the row without a step, each with five
-- pairs of a and b; the standard deviations by segment; the correlations of the non-life segments
pub record FactorValues : Type 0 where
  pub spread : List (List ℕ)
  pub nl_premium : List ℕ
  pub nl_reserve : List ℕ
  pub correlations : Matrix
  pub nslt_premium : List ℕ
  pub nslt_reserve : List ℕ

-- so many numbers from 0 to 1,000,000
abbrev pub IsRow : ℕ → List ℕ → Type 0
IsRow count row = (length row ≡ count) × All (λ n. n ≤ 1_000_000) row

-- each value has its form
pub record IsInForm (values : FactorValues) : Type 0 where
  pub spread_rows : length values.spread ≡ 8
  pub spread : All (IsRow 10) values.spread
  pub nl_premium : IsRow 12 values.nl_premium
  pub nl_reserve : IsRow 12 values.nl_reserve
  pub nl_segments : values.correlations.n ≡ 12
  pub hundredths : values.correlations.den ≡ pos 100
  pub correlations : IsCorrelation values.correlations
  -- two segments may be unrelated, and none offsets another
  pub not_negative : (i j : ℕ) → i < values.correlations.n → j < values.correlations.n
      → pos 0 ≤ℤ entry values.correlations i j
  pub nslt_premium : IsRow 4 values.nslt_premium
  pub nslt_reserve : IsRow 4 values.nslt_reserve

-- a and b of a row and a band
abbrev pub spread_at : FactorValues → ℕ → ℕ → ℕ × ℕ
spread_at values row band =
    let factors = slice_index_or values.spread row [] in
    (slice_index factors (2 * band), slice_index factors (2 * band + 1))

-- the standard deviations of premium and of reserve risk of a segment
abbrev pub sigma_of : FactorValues → Set → ℕ → ℕ × ℕ
sigma_of values Nl number =
    (slice_index values.nl_premium (number - 1), slice_index values.nl_reserve (number - 1))
sigma_of values Nslt number =
    (slice_index values.nslt_premium (number - 1), slice_index values.nslt_reserve (number - 1))
