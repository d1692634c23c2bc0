-- The ends of the variance enclose the exact one.
use Rattle.std.proofs.Common.{ℕ, ◌*◌, ◌^◌, ◌<◌, ◌≤◌, ◌+ℤ◌, List, arith, lit<}
use Rattle.std.specs.Prelude.{slice_index}
use Rattle.std.proofs.lemmas.Nat.{mul-le}
use Rattle.scr_num.specs.Figure.{Frac}
use Rattle.scr_num.specs.Enclosure.{Encloses}
use Rattle.scr_num.proofs.AmountBounds.{amount-add}
use Rattle.scr_num.proofs.Enclosing.{Encloses-add, Encloses-plus}
use Rattle.scr_default.specs.Probabilities.{probability_of_class}
use Rattle.scr_default.specs.LossesEnds.{totals_in, squares_in}
use Rattle.scr_default.specs.Variance.{between_coefficient, within_coefficient, between_term_exact, between_exact, within_term_exact, within_exact, variance_exact, sum_of_classes}
use Rattle.scr_default.specs.VarianceEnds.{between_num, between_den, within_num, within_den, between_term_ends, between_ends, within_term_ends, within_ends, variance_ends, sum_of_class_ends}
use Rattle.scr_num.specs.Amounts.{IsAmount}
use Rattle.scr_default.proofs.AddedUp.{ends_below, Encloses-sum, amount-sum_below}
use Rattle.scr_default.proofs.CoefficientTable.{between-quotient, within-quotient}
use Rattle.scr_default.proofs.Parts.{measured, Encloses-term, amount-term}

-- ---- what it encloses
between : (totals : List ℕ) (j k : ℕ) → j < 6 → k < 6
    → let e = between_term_ends totals j k in Encloses 1000000 e.low e.high (Frac (between_term_exact (totals_in totals) j k))
between totals j k a b =
    let c = between_coefficient (probability_of_class j) (probability_of_class k) in
    let is = between-quotient j k a b in
    let x = slice_index totals j * slice_index totals k in
    Encloses-term x (between_num j k) (between_den j k) (between_term_exact (totals_in totals) j k) is.positive
    (measured c.num x (between_num j k) (between_den j k) c.den is.positive is.equal)

within : (squares : List ℕ) (j : ℕ) → j < 6 → let e = within_term_ends squares j in
    Encloses 1000000 e.low e.high (Frac (within_term_exact (squares_in squares) j))
within squares j a =
    let c = within_coefficient (probability_of_class j) in
    let is = within-quotient j a in
    let x = slice_index squares j in
    Encloses-term x (within_num j) (within_den j) (within_term_exact (squares_in squares) j) is.positive
    (measured c.num x (within_num j) (within_den j) c.den is.positive is.equal)

row : (totals : List ℕ) (j : ℕ) → j < 6
    → let e = sum_of_class_ends (between_term_ends totals j) in
    Encloses 1000000 e.low e.high (Frac (sum_of_classes (between_term_exact (totals_in totals) j)))
row totals j a = Encloses-sum 1000000 (between_term_ends totals j) (between_term_exact (totals_in totals) j) 6 (lit< tt)
    (λ k b. between totals j k a b)

pub variance-encloses : (totals squares : List ℕ)
    → let e = variance_ends totals squares in Encloses 1000000 e.low e.high (Frac (variance_exact (totals_in totals) (squares_in squares)))
variance-encloses totals squares =
    let a = between_ends totals in
    let b = within_ends squares in
    Encloses-plus 1000000 (a.low +ℤ b.low) (a.high +ℤ b.high) (between_exact (totals_in totals)) (within_exact (squares_in squares))
    (Encloses-add 1000000 a.low a.high b.low b.high (Frac (between_exact (totals_in totals))) (Frac (within_exact (squares_in squares)))
    (Encloses-sum 1000000 (λ j. sum_of_class_ends (between_term_ends totals j))
    (λ j. sum_of_classes (between_term_exact (totals_in totals) j)) 6 (lit< tt) (row totals))
    (Encloses-sum 1000000 (within_term_ends squares) (within_term_exact (squares_in squares)) 6 (lit< tt) (within squares)))

-- ---- how large it is
abbrev pub AreLosses : List ℕ → Type 0
AreLosses totals = (k : ℕ) → k < 6 → slice_index totals k ≤ 10 ^ 16

abbrev pub AreSquares : List ℕ → Type 0
AreSquares squares = (k : ℕ) → k < 6 → slice_index squares k ≤ 10 ^ 32

pub product-size : (a b : ℕ) → a ≤ 10 ^ 16 → b ≤ 10 ^ 16 → a * b ≤ 10 ^ 32
product-size a b h k = omega (arith, mul-le a b (10 ^ 16) (10 ^ 16) h k)

pub between_term-size : (totals : List ℕ) (j k : ℕ) → j < 6 → k < 6 → AreLosses totals
    → IsAmount (25 * 10 ^ 29) (between_term_ends totals j k)
between_term-size totals j k a b h =
    let is = between-quotient j k a b in
    amount-term (slice_index totals j * slice_index totals k) (between_num j k) (between_den j k) is.positive is.small
    (product-size (slice_index totals j) (slice_index totals k) (h j a) (h k b))

pub within_term-size : (squares : List ℕ) (j : ℕ) → j < 6 → AreSquares squares
    → IsAmount (25 * 10 ^ 29) (within_term_ends squares j)
within_term-size squares j a h =
    let is = within-quotient j a in
    amount-term (slice_index squares j) (within_num j) (within_den j) is.positive is.small (h j a)

pub row-size : (totals : List ℕ) (j n : ℕ) → j < 6 → n ≤ 6 → AreLosses totals
    → IsAmount (n * (25 * 10 ^ 29)) (ends_below (between_term_ends totals j) n)
row-size totals j n a few h =
    amount-sum_below (25 * 10 ^ 29) (between_term_ends totals j) n
    (λ k b. between_term-size totals j k a (omega arith) h)

pub between-size : (totals : List ℕ) (n : ℕ) → n ≤ 6 → AreLosses totals
    → IsAmount (n * (15 * 10 ^ 30)) (ends_below (λ j. sum_of_class_ends (between_term_ends totals j)) n)
between-size totals n few h =
    amount-sum_below (15 * 10 ^ 30) (λ j. sum_of_class_ends (between_term_ends totals j)) n
    (λ j a. row-size totals j 6 (omega arith) (omega arith) h)

pub within-size : (squares : List ℕ) (n : ℕ) → n ≤ 6 → AreSquares squares
    → IsAmount (n * (25 * 10 ^ 29)) (ends_below (within_term_ends squares) n)
within-size squares n few h = amount-sum_below (25 * 10 ^ 29) (within_term_ends squares) n
    (λ j a. within_term-size squares j (omega arith) h)

pub squares-size : (totals squares : List ℕ) → AreLosses totals
    → ((k : ℕ) → k < 6 → slice_index squares k ≤ slice_index totals k * slice_index totals k) → AreSquares squares
squares-size totals squares h each k lt =
    omega (arith, each k lt, product-size (slice_index totals k) (slice_index totals k) (h k lt) (h k lt))

pub variance-size : (totals squares : List ℕ) → AreLosses totals → AreSquares squares
    → IsAmount (105 * 10 ^ 30) (variance_ends totals squares)
variance-size totals squares h k =
    amount-add (90 * 10 ^ 30) (15 * 10 ^ 30) (between_ends totals) (within_ends squares)
    (between-size totals 6 (omega arith) h)
    (within-size squares 6 (omega arith) k)
