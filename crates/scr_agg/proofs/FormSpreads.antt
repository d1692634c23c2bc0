-- How far the sums over the cells of a matrix spread, and what they are at least.
use Rattle.std.proofs.Common.{◌≡◌, ℕ, zero, suc, ◌+◌, ◌-◌, ◌*◌, ◌<◌, ◌≤◌, List, [], ◌∷◌, ℤ, pos, length, get_or, refl, subst, arith}
use Rattle.std.proofs.lemmas.Nat.{mul-le}
use Rattle.scr_num.specs.Table.{row_sum, sum_over}
use Rattle.scr_num.proofs.Forms.{Related}
use Rattle.scr_agg.specs.declared.form.Sign.TheVariants.{Positive, Negative}
use Rattle.scr_agg.specs.Forms.{weight_of, weighed}
use Rattle.scr_agg.proofs.Bounded.{total}
use Rattle.scr_agg.proofs.Squares.{squares}

-- the magnitude of a cell of either sign
abbrev pub magnitude : ℤ → ℕ
magnitude c = weight_of Positive c + weight_of Negative c

-- the sums over the cells of both signs, along a row and over all rows
abbrev pub row_both : ℕ → List ℤ → List ℕ → ℕ
row_both x cells ys = row_sum 0 ◌+◌ (weighed Positive) x cells ys + row_sum 0 ◌+◌ (weighed Negative) x cells ys

abbrev pub sum_both : List (List ℤ) → List ℕ → List ℕ → ℕ
sum_both rows xs all = sum_over 0 ◌+◌ (weighed Positive) rows xs all + sum_over 0 ◌+◌ (weighed Negative) rows xs all

pub total-rises : (ls hs : List ℕ) → Related ◌≤◌ ls hs → total ls ≤ total hs
total-rises [] [] h = omega arith
total-rises [] (y ∷ hs) h = absurd h
total-rises (x ∷ ls) [] h = absurd h
total-rises (x ∷ ls) (y ∷ hs) h = omega (arith, h.0, total-rises ls hs h.1)

-- ---- no cell spreads by more than the product does
rest_spreads : (c e p q : ℕ) → p ≤ q → c * q + (c + e) * p ≤ c * p + (c + e) * q
rest_spreads c e p q h = omega (arith, mul-le e p e q (omega arith) h)

cell_spreads : (c den p q : ℕ) → c ≤ den → p ≤ q → c * q + den * p ≤ c * p + den * q
cell_spreads c den p q h k =
    let split : c + (den - c) ≡ den = omega arith in
    subst (λ (d : ℕ). c * q + d * p ≤ c * p + d * q) split (rest_spreads c (den - c) p q k)

row_spreads : (den x y : ℕ) (cells : List ℤ) (ls hs : List ℕ) → x ≤ y → Related ◌≤◌ ls hs
    → ((j : ℕ) → j < length ls → magnitude (get_or cells j (pos 0)) ≤ den)
    → row_both y cells hs + den * (x * total ls) ≤ row_both x cells ls + den * (y * total hs)
unfolding row_sum
row_spreads den x y [] ls hs h k within =
    omega (
      arith,
      mul-le den (x * total ls) den (y * total hs) (omega arith)
          (mul-le x (total ls) y (total hs) h (total-rises ls hs k)),
    )
row_spreads den x y (c ∷ cells) [] [] h k within = omega arith
row_spreads den x y (c ∷ cells) [] (v ∷ hs) h k within = absurd k
row_spreads den x y (c ∷ cells) (u ∷ ls) [] h k within = absurd k
row_spreads den x y (c ∷ cells) (u ∷ ls) (v ∷ hs) h k within =
    omega (
      arith,
      cell_spreads (magnitude c) den (x * u) (y * v) (within 0 (omega arith)) (mul-le x u y v h k.0),
      row_spreads den x y cells ls hs h k.1 (λ j lt. within (suc j) (omega arith)),
    )

pub sum_spreads : (den : ℕ) (rows : List (List ℤ)) (xs ys ls hs : List ℕ) → Related ◌≤◌ xs ys → Related ◌≤◌ ls hs
    → ((i j : ℕ) → i < length xs → j < length ls → magnitude (get_or (get_or rows i []) j (pos 0)) ≤ den)
    → sum_both rows ys hs + den * (total xs * total ls) ≤ sum_both rows xs ls + den * (total ys * total hs)
unfolding sum_over
sum_spreads den [] xs ys ls hs h k within =
    omega (
      arith,
      mul-le den (total xs * total ls) den (total ys * total hs) (omega arith)
          (mul-le (total xs) (total ls) (total ys) (total hs) (total-rises xs ys h) (total-rises ls hs k)),
    )
sum_spreads den (row ∷ rows) [] [] ls hs h k within = omega arith
sum_spreads den (row ∷ rows) [] (y ∷ ys) ls hs h k within = absurd h
sum_spreads den (row ∷ rows) (x ∷ xs) [] ls hs h k within = absurd h
sum_spreads den (row ∷ rows) (x ∷ xs) (y ∷ ys) ls hs h k within =
    omega (
      arith,
      row_spreads den x y row ls hs h.0 k (λ j lt. within 0 j (omega arith) lt),
      sum_spreads den rows xs ys ls hs h.1 k (λ i j lt lt'. within (suc i) j (omega arith) lt'),
    )

-- ---- the diagonal
row_has : (x : ℕ) (cells : List ℤ) (ys : List ℕ) (j : ℕ) → j < length ys
    → weight_of Positive (get_or cells j (pos 0)) * (x * get_or ys j 0) ≤ row_sum 0 ◌+◌ (weighed Positive) x cells ys
unfolding row_sum
row_has x [] ys j h = omega arith
row_has x (c ∷ cells) [] j h = absurd (omega arith)
row_has x (c ∷ cells) (y ∷ ys) zero h = omega arith
row_has x (c ∷ cells) (y ∷ ys) (suc j) h = omega (arith, row_has x cells ys j (omega arith))

-- with row i at place k + i of the parts
diagonal_from : (den k : ℕ) (rows : List (List ℤ)) (xs all : List ℕ)
    → ((i p : ℕ) → i < length xs → p ≡ k + i → (p < length all) × (get_or all p 0 ≡ get_or xs i 0))
    → ((i p : ℕ) → i < length xs → p ≡ k + i → den ≤ weight_of Positive (get_or (get_or rows i []) p (pos 0)))
    → den * squares xs ≤ sum_over 0 ◌+◌ (weighed Positive) rows xs all
unfolding sum_over
diagonal_from den k rows [] all at unit = omega arith
diagonal_from den k [] (x ∷ xs) all at unit =
    let least : den ≤ 0 = unit 0 k (omega arith) (omega arith) in
    let none : den ≡ 0 = omega arith in
    rw none (omega arith)
diagonal_from den k (row ∷ rows) (x ∷ xs) all at unit =
    let (inside, same) = at 0 k (omega arith) (omega arith) in
    let here : weight_of Positive (get_or row k (pos 0)) * (x * x) ≤ row_sum 0 ◌+◌ (weighed Positive) x row all =
    subst (λ (y : ℕ). weight_of Positive (get_or row k (pos 0)) * (x * y)
    ≤ row_sum 0 ◌+◌ (weighed Positive) x row all) same (row_has x row all k inside) in
    let one : den * (x * x) ≤ weight_of Positive (get_or row k (pos 0)) * (x * x) =
    mul-le den (x * x) (weight_of Positive (get_or row k (pos 0))) (x * x) (unit 0 k (omega arith) (omega arith))
    (omega arith) in
    let rest = diagonal_from den (suc k) rows xs all (λ i p lt e. at (suc i) p (omega arith) (omega arith))
    (λ i p lt e. unit (suc i) p (omega arith) (omega arith)) in
    omega (arith, here, one, rest)

-- the squares of all parts are in the sum of the cells of at least 0
pub diagonal_within : (den : ℕ) (rows : List (List ℤ)) (xs : List ℕ)
    → ((i : ℕ) → i < length xs → den ≤ weight_of Positive (get_or (get_or rows i []) i (pos 0)))
    → den * squares xs ≤ sum_over 0 ◌+◌ (weighed Positive) rows xs xs
diagonal_within den rows xs unit =
    diagonal_from den 0 rows xs xs
    (λ i p lt e. let same : i ≡ p = omega arith in
    subst (λ (q : ℕ). (q < length xs) × (get_or xs q 0 ≡ get_or xs i 0)) same (lt, refl))
    (λ i p lt e. let same : i ≡ p = omega arith in
    subst (λ (q : ℕ). den ≤ weight_of Positive (get_or (get_or rows i []) q (pos 0))) same (unit i lt))
