-- The root over a matrix, by the four sums over the cells of one sign.
use Rattle.std.specs.List.{AllByRecursion}
use Rattle.std.proofs.Common.{◌≡◌, ℕ, zero, suc, ◌+◌, ◌-◌, ◌*◌, ◌<◌, ◌≤◌, List, [], ◌∷◌, ℤ, pos, negsuc, ◌+ℤ◌, ◌*ℤ◌}
use Rattle.std.proofs.Common.{◌<ℤ◌, map, length, refl, ap, ap₂, arith, lt_of_mul-lt-mul_right}
use Rattle.std.proofs.lemmas.Int.{ints}
use Rattle.std.proofs.lemmas.List.{length-map}
use Rattle.scr_num.specs.Table.{IsSquare, sum_over}
use Rattle.scr_num.specs.Rounding.{Ends, ends, or_zero, floor_div, ceil_div, floor_root, ceil_root, low_term, high_term}
use Rattle.scr_num.specs.Rounding.{low_form, high_form, quad_ends, root_ends, scale_ends}
use Rattle.scr_num.proofs.Quotients.{ceil_div-next}
use Rattle.scr_num.proofs.Roots.{ceil_root-least}
use Rattle.scr_num.specs.declared.span.Span.{Span}
use Rattle.scr_profile.specs.declared.matrix.Matrix.{Matrix}
use Rattle.scr_profile.specs.Matrix.{first}
use Rattle.scr_agg.specs.declared.form.Side.{Side}
use Rattle.scr_agg.specs.declared.form.Side.TheVariants.{Low, High}
use Rattle.scr_agg.specs.declared.form.Sign.{Sign}
use Rattle.scr_agg.specs.declared.form.Sign.TheVariants.{Positive, Negative}
use Rattle.scr_agg.specs.Correlated.{table_of, NotNegative, all_ends}
use Rattle.scr_agg.specs.Forms.{end_of, weighed}
use Rattle.scr_agg.proofs.Signs.{low_split, high_split, sum_front, no_low_term, no_high_term, floor_of_difference}
use Rattle.scr_agg.proofs.Signs.{ceil_of_difference}

-- one of the four sums
abbrev pub sum_of : Side → Sign → Matrix → List Span → ℕ
sum_of side sign m parts = sum_over 0 ◌+◌ (weighed sign) m.cells (map (end_of side) parts) (map (end_of side) parts)

-- the root of both differences over the denominator
abbrev pub root_over : (low high : ℤ) → ℕ → Ends
root_over low high den = root_ends (record { low = floor_div low den; high = ceil_div high den })

-- ---- the table of a matrix has a row and a column for each of its parts
length-first : {A : Type 0} (n : ℕ) (missing : A) (xs : List A) → length (first n missing xs) ≡ n
length-first zero missing xs = refl
length-first (suc n) missing [] = ap suc (length-first n missing [])
length-first (suc n) missing (x ∷ xs) = ap suc (length-first n missing xs)

columns : (n : ℕ) (rows : List (List ℤ)) → AllByRecursion (λ row. length row ≡ n) (map (first n (pos 0)) rows)
columns n [] = tt
columns n (row ∷ rows) = (length-first n (pos 0) row, columns n rows)

pub table_of-square : (m : Matrix) → IsSquare m.n (table_of m)
table_of-square m =
    record { rows = rw length-map (length-first m.n [] m.cells); columns = columns m.n (first m.n [] m.cells) }

-- ---- as two differences
low_form_is : (m : Matrix) (parts : List Span) → length parts ≡ m.n → NotNegative parts
    → low_form (table_of m) (all_ends parts) +ℤ pos (sum_of High Negative m parts) ≡ pos (sum_of Low Positive m parts)
unfolding low_form
low_form_is m parts count h =
    let most : length (map ends parts) ≤ m.n = rw length-map (omega arith) in
    rw (sum_front (pos 0) ◌+ℤ◌ low_term no_low_term refl m.n m.n m.cells (map ends parts) (map ends parts) most most)
    (low_split m.cells parts h)

high_form_is : (m : Matrix) (parts : List Span) → length parts ≡ m.n → NotNegative parts
    → high_form (table_of m) (all_ends parts) +ℤ pos (sum_of Low Negative m parts) ≡ pos (sum_of High Positive m parts)
unfolding high_form
high_form_is m parts count h =
    let most : length (map ends parts) ≤ m.n = rw length-map (omega arith) in
    rw (sum_front (pos 0) ◌+ℤ◌ high_term no_high_term refl m.n m.n m.cells (map ends parts) (map ends parts) most most)
    (high_split m.cells parts h)

pub root_over_sums : (m : Matrix) (parts : List Span) → length parts ≡ m.n → NotNegative parts → 0 < or_zero m.den
    → root_over (pos (sum_of Low Positive m parts - sum_of High Negative m parts))
    (pos (sum_of High Positive m parts - sum_of Low Negative m parts)) (or_zero m.den)
    ≡ quad_ends (all_ends parts) (table_of m)
unfolding quad_ends
root_over_sums m parts count h positive =
    ap₂ (λ (x : ℕ) (y : ℕ). let e : Ends = record { low = pos (floor_root x); high = pos (ceil_root y) } in e)
    (floor_of_difference (low_form (table_of m) (all_ends parts)) (sum_of High Negative m parts)
    (sum_of Low Positive m parts) (or_zero m.den) positive (low_form_is m parts count h))
    (ceil_of_difference (high_form (table_of m) (all_ends parts)) (sum_of Low Negative m parts)
    (sum_of High Positive m parts) (or_zero m.den) positive (high_form_is m parts count h))

-- the root is at most a number whose square is, times the denominator, at least the sum
pub root_at_most : (q : ℤ) (n den s : ℕ) → 0 < den → n ≤ den * (s * s) → q ≡ ceil_div (pos n *ℤ pos 1) den
    → ceil_root (or_zero q) ≤ s
root_at_most q n den s positive h e = ceil_root-least (or_zero q) s
    (quotient q (rw (← e) at (ceil_div-next (pos n *ℤ pos 1) den positive)))
  where
    quotient : (z : ℤ) → (z *ℤ pos den) <ℤ ((pos n *ℤ pos 1) +ℤ pos den) → or_zero z ≤ s * s
    quotient (negsuc k) lt = omega arith
    quotient (pos k) lt =
        let more : k * den < (s * s + 1) * den = omega (arith, ints) in
        let below : k < s * s + 1 = lt_of_mul-lt-mul_right den more in
        omega arith

-- as it is worked out
pub scaled_root : (low high : ℤ) (l h d d' : ℕ) → low ≡ pos l → high ≡ pos h → d ≡ d'
    → root_ends (scale_ends (record { low = low; high = high }) 1 d) ≡ root_over (pos l) (pos h) d'
scaled_root low high l h d d' p q e =
    let low_is : low *ℤ pos 1 ≡ pos l = omega (arith, ints) in
    let high_is : high *ℤ pos 1 ≡ pos h = omega (arith, ints) in
    rw (low_is, high_is, e) refl
