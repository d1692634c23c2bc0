-- The form of a matrix over ends that are not negative, as a difference of two sums over the cells of one sign.
use Rattle.std.proofs.Common.{◌≡◌, ℕ, zero, suc, ◌+◌, ◌-◌, ◌*◌, ◌/◌, ◌<◌, ◌≤◌, List, [], ◌∷◌, ℤ, pos, negsuc, ◌+ℤ◌}
use Rattle.std.proofs.Common.{◌*ℤ◌, ◌≤ℤ◌, neg_ℤ, map, length, refl, sym, ap, ap₂, ◌∙◌, arith, unsigned_abs}
use Rattle.std.proofs.lemmas.Int.{ints}
use Rattle.scr_num.specs.Table.{row_sum, sum_over}
use Rattle.scr_num.specs.Rounding.{Ends, ends, or_zero, floor_div, ceil_div, low_term, high_term}
use Rattle.scr_num.specs.declared.span.Span.{Span}
use Rattle.scr_profile.specs.Matrix.{first}
use Rattle.scr_agg.specs.declared.form.Side.{Side}
use Rattle.scr_agg.specs.declared.form.Side.TheVariants.{Low, High}
use Rattle.scr_agg.specs.declared.form.Sign.TheVariants.{Positive, Negative}
use Rattle.scr_agg.specs.Correlated.{NotNegative}
use Rattle.scr_agg.specs.Forms.{end_of, weighed}

-- ---- one cell
-- a product with the ends `plus` where the cell is at least 0, and `minus` where it is below
abbrev IsTerm : (ℤ → Ends → Ends → ℤ) → Side → Side → Type 0
IsTerm term plus minus = (c : ℤ) (x y : Span) → pos 0 ≤ℤ x.low → pos 0 ≤ℤ y.low
    → term c (ends x) (ends y) +ℤ pos (weighed Negative c (end_of minus x) (end_of minus y))
    ≡ pos (weighed Positive c (end_of plus x) (end_of plus y))

positive_cell : (c : ℕ) (x y : ℤ) → pos 0 ≤ℤ x → pos 0 ≤ℤ y
    → (pos c *ℤ (x *ℤ y)) +ℤ pos 0 ≡ pos (c * (unsigned_abs x * unsigned_abs y))
positive_cell c (pos x) (pos y) h k = omega (arith, ints)
positive_cell c (negsuc x) y h k = absurd (omega (arith, ints))
positive_cell c (pos x) (negsuc y) h k = absurd (omega (arith, ints))

negative_cell : (c : ℕ) (x y : ℤ) → pos 0 ≤ℤ x → pos 0 ≤ℤ y
    → (negsuc c *ℤ (x *ℤ y)) +ℤ pos (suc c * (unsigned_abs x * unsigned_abs y)) ≡ pos 0
negative_cell c (pos x) (pos y) h k = omega (arith, ints)
negative_cell c (negsuc x) y h k = absurd (omega (arith, ints))
negative_cell c (pos x) (negsuc y) h k = absurd (omega (arith, ints))

high_positive : (x : Span) → pos 0 ≤ℤ x.low → pos 0 ≤ℤ x.high
high_positive x h = let order = x.ordered in omega (arith, ints)

no_weight : (a b : ℕ) → 0 * (a * b) ≡ 0
no_weight a b = omega arith

low_is : IsTerm low_term Low High
low_is (pos c) x y h k = rw no_weight (positive_cell c x.low y.low h k)
low_is (negsuc c) x y h k = rw no_weight (negative_cell c x.high y.high (high_positive x h) (high_positive y k))

high_is : IsTerm high_term High Low
high_is (pos c) x y h k = rw no_weight (positive_cell c x.high y.high (high_positive x h) (high_positive y k))
high_is (negsuc c) x y h k = rw no_weight (negative_cell c x.low y.low h k)

-- ---- all cells
sums : (a b : ℤ) (m n p q : ℕ) → a +ℤ pos m ≡ pos p → b +ℤ pos n ≡ pos q → (a +ℤ b) +ℤ pos (m + n) ≡ pos (p + q)
sums a b m n p q e f = omega (arith, ints)

module _ (term : ℤ → Ends → Ends → ℤ) (plus minus : Side) (is : IsTerm term plus minus) where
  split_row : (x : Span) (cells : List ℤ) (parts : List Span) → pos 0 ≤ℤ x.low → NotNegative parts
      → row_sum (pos 0) ◌+ℤ◌ term (ends x) cells (map ends parts)
      +ℤ pos (row_sum 0 ◌+◌ (weighed Negative) (end_of minus x) cells (map (end_of minus) parts))
      ≡ pos (row_sum 0 ◌+◌ (weighed Positive) (end_of plus x) cells (map (end_of plus) parts))
  unfolding row_sum
  split_row x [] parts h k = refl
  split_row x (c ∷ cells) [] h k = refl
  split_row x (c ∷ cells) (y ∷ parts) h k =
      sums (term c (ends x) (ends y)) (row_sum (pos 0) ◌+ℤ◌ term (ends x) cells (map ends parts))
      (weighed Negative c (end_of minus x) (end_of minus y))
      (row_sum 0 ◌+◌ (weighed Negative) (end_of minus x) cells (map (end_of minus) parts))
      (weighed Positive c (end_of plus x) (end_of plus y))
      (row_sum 0 ◌+◌ (weighed Positive) (end_of plus x) cells (map (end_of plus) parts))
      (is c x y h k.0) (split_row x cells parts h k.1)

  split_sum : (rows : List (List ℤ)) (xs all : List Span) → NotNegative xs → NotNegative all
      → sum_over (pos 0) ◌+ℤ◌ term rows (map ends xs) (map ends all)
      +ℤ pos (sum_over 0 ◌+◌ (weighed Negative) rows (map (end_of minus) xs) (map (end_of minus) all))
      ≡ pos (sum_over 0 ◌+◌ (weighed Positive) rows (map (end_of plus) xs) (map (end_of plus) all))
  unfolding sum_over
  split_sum [] xs all h k = refl
  split_sum (row ∷ rows) [] all h k = refl
  split_sum (row ∷ rows) (x ∷ xs) all h k =
      sums (row_sum (pos 0) ◌+ℤ◌ term (ends x) row (map ends all))
      (sum_over (pos 0) ◌+ℤ◌ term rows (map ends xs) (map ends all))
      (row_sum 0 ◌+◌ (weighed Negative) (end_of minus x) row (map (end_of minus) all))
      (sum_over 0 ◌+◌ (weighed Negative) rows (map (end_of minus) xs) (map (end_of minus) all))
      (row_sum 0 ◌+◌ (weighed Positive) (end_of plus x) row (map (end_of plus) all))
      (sum_over 0 ◌+◌ (weighed Positive) rows (map (end_of plus) xs) (map (end_of plus) all))
      (split_row x row all h.0 k) (split_sum rows xs all h.1 k)

pub low_split : (rows : List (List ℤ)) (parts : List Span) → NotNegative parts
    → sum_over (pos 0) ◌+ℤ◌ low_term rows (map ends parts) (map ends parts)
    +ℤ pos (sum_over 0 ◌+◌ (weighed Negative) rows (map (end_of High) parts) (map (end_of High) parts))
    ≡ pos (sum_over 0 ◌+◌ (weighed Positive) rows (map (end_of Low) parts) (map (end_of Low) parts))
low_split rows parts h = split_sum low_term Low High low_is rows parts parts h h

pub high_split : (rows : List (List ℤ)) (parts : List Span) → NotNegative parts
    → sum_over (pos 0) ◌+ℤ◌ high_term rows (map ends parts) (map ends parts)
    +ℤ pos (sum_over 0 ◌+◌ (weighed Negative) rows (map (end_of Low) parts) (map (end_of Low) parts))
    ≡ pos (sum_over 0 ◌+◌ (weighed Positive) rows (map (end_of High) parts) (map (end_of High) parts))
high_split rows parts h = split_sum high_term High Low high_is rows parts parts h h

-- ---- places beyond the parts meet none, and a cell that is missing counts as 0
module _ {A B : Type 0} (zero_of : B) (add : B → B → B) (term : ℤ → A → A → B)
    (no_term : (x y : A) → term (pos 0) x y ≡ zero_of) (none : add zero_of zero_of ≡ zero_of) where
  missing_row : (x : A) (n : ℕ) (ys : List A) → row_sum zero_of add term x (first n (pos 0) []) ys ≡ zero_of
  unfolding row_sum
  missing_row x zero ys = refl
  missing_row x (suc n) [] = refl
  missing_row x (suc n) (y ∷ ys) = ap₂ add (no_term x y) (missing_row x n ys) ∙ none

  row_front : (x : A) (n : ℕ) (cells : List ℤ) (ys : List A) → length ys ≤ n
      → row_sum zero_of add term x (first n (pos 0) cells) ys ≡ row_sum zero_of add term x cells ys
  unfolding row_sum
  row_front x zero [] ys h = refl
  row_front x zero (c ∷ cells) [] h = refl
  row_front x zero (c ∷ cells) (y ∷ ys) h = absurd (omega arith)
  row_front x (suc n) [] ys h = missing_row x (suc n) ys
  row_front x (suc n) (c ∷ cells) [] h = refl
  row_front x (suc n) (c ∷ cells) (y ∷ ys) h = ap (add (term c x y)) (row_front x n cells ys (omega arith))

  missing_rows : (m n : ℕ) (xs all : List A)
      → sum_over zero_of add term (map (first n (pos 0)) (first m [] [])) xs all ≡ zero_of
  unfolding sum_over
  missing_rows zero n xs all = refl
  missing_rows (suc m) n [] all = refl
  missing_rows (suc m) n (x ∷ xs) all = ap₂ add (missing_row x n all) (missing_rows m n xs all) ∙ none

  pub sum_front : (m n : ℕ) (rows : List (List ℤ)) (xs all : List A) → length xs ≤ m → length all ≤ n
      → sum_over zero_of add term (map (first n (pos 0)) (first m [] rows)) xs all
      ≡ sum_over zero_of add term rows xs all
  unfolding sum_over
  sum_front zero n [] xs all h k = refl
  sum_front zero n (row ∷ rows) [] all h k = refl
  sum_front zero n (row ∷ rows) (x ∷ xs) all h k = absurd (omega arith)
  sum_front (suc m) n [] xs all h k = missing_rows (suc m) n xs all
  sum_front (suc m) n (row ∷ rows) [] all h k = refl
  sum_front (suc m) n (row ∷ rows) (x ∷ xs) all h k =
      ap₂ add (row_front x n row all k) (sum_front m n rows xs all (omega arith) k)

pub no_low_term : (x y : Ends) → low_term (pos 0) x y ≡ pos 0
no_low_term x y = omega (arith, ints)

pub no_high_term : (x y : Ends) → high_term (pos 0) x y ≡ pos 0
no_high_term x y = omega (arith, ints)

-- ---- the quotient of a difference, in which a sum below 0 counts as 0
neg_is_zero : (k : ℕ) → or_zero (neg_ℤ (pos k)) ≡ 0
neg_is_zero zero = refl
neg_is_zero (suc k) = refl

pub floor_of_difference : (z : ℤ) (m p d : ℕ) → 0 < d → z +ℤ pos m ≡ pos p
    → or_zero (floor_div (pos (p - m)) d) ≡ or_zero (floor_div z d)
floor_of_difference (pos n) m p d positive e = let same : p - m ≡ n = omega (arith, ints) in rw same refl
floor_of_difference (negsuc n) m p d positive e = let none : p - m ≡ 0 = omega (arith, ints) in rw none (omega arith)

pub ceil_of_difference : (z : ℤ) (m p d : ℕ) → 0 < d → z +ℤ pos m ≡ pos p
    → or_zero (ceil_div (pos (p - m)) d) ≡ or_zero (ceil_div z d)
ceil_of_difference (pos n) m p d positive e = let same : p - m ≡ n = omega (arith, ints) in rw same refl
ceil_of_difference (negsuc n) m p d positive e = let none : p - m ≡ 0 = omega (arith, ints) in
    rw none (neg_is_zero (0 / d) ∙ sym (neg_is_zero (suc n / d)))
