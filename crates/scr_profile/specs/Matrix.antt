-- Matrices of correlation coefficients, as those of Directive 2009/138/EC, Annex IV, and of Delegated Regulation (EU)
-- 2015/35 (whole numbers over a denominator are this project's own).
use Rattle.std.specs.Prelude.{◌≡◌, ℕ, zero, suc, ◌<◌, ◌≤◌, List, [], ◌∷◌, map, ℤ, pos, neg_ℤ, ◌<ℤ◌, ◌≤ℤ◌}
use Rattle.std.specs.Prelude.{slice_index_or}
use Rattle.scr_profile.specs.declared.matrix.Matrix.{Matrix}

-- the coefficient in row i and column j, over the denominator
abbrev pub entry : Matrix → ℕ → ℕ → ℤ
entry m i j = slice_index_or (slice_index_or m.cells i []) j (pos 0)

-- the first n of a list, with `missing` for each that it lacks
abbrev pub first : {A : Type 0} → ℕ → A → List A → List A
first zero missing xs = []
first (suc n) missing [] = missing ∷ first n missing []
first (suc n) missing (x ∷ xs) = x ∷ first n missing xs

-- the coefficients, row by row
abbrev pub coefficients : Matrix → List (List ℤ)
coefficients m = map (first m.n (pos 0)) (first m.n [] m.cells)

-- each coefficient is from -1 to 1, is the same in both directions, and is 1 on the diagonal
pub record IsCorrelation (m : Matrix) : Type 0 where
  pub size : (1 ≤ m.n) × (m.n ≤ 16)
  pub denominator : pos 0 <ℤ m.den
  pub within : (i j : ℕ) → i < m.n → j < m.n → (neg_ℤ m.den ≤ℤ entry m i j) × (entry m i j ≤ℤ m.den)
  pub symmetric : (i j : ℕ) → i < m.n → j < m.n → entry m i j ≡ entry m j i
  pub diagonal : (i : ℕ) → i < m.n → entry m i i ≡ m.den
