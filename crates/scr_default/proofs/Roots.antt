-- The root over type 1 and type 2 exposures, and sums of squares.
use Rattle.std.proofs.Common.{ℕ, ◌+◌, ◌*◌, ◌<◌, ◌≤◌, pos, ◌≤ℤ◌, List, [], ◌∷◌, sum_by, refl, arith, lit<}
use Rattle.std.proofs.lemmas.Int.{ints}
use Rattle.std.proofs.lemmas.List.Sums.{sum_by-cons}
use Rattle.scr_num.specs.Figure.{Figure, more, none}
use Rattle.scr_num.specs.Rounding.{Ends}
use Rattle.scr_num.specs.Enclosure.{Encloses}
use Rattle.scr_num.proofs.Enclosing.{Encloses-exact}
use Rattle.scr_num.proofs.Quadratic.{Encloses-quad}
use Rattle.scr_num.proofs.AmountBounds.{amount-exact, amount-wider}
use Rattle.scr_profile.specs.declared.correlations.TheConstants.{DEFAULT}
use Rattle.scr_profile.proofs.CorrelationRules.{is_correlation-holds}
use Rattle.scr_agg.proofs.Roots.{table_of-square}
use Rattle.scr_agg.proofs.RootSizes.{root-within}
use Rattle.scr_default.specs.Default.{default_correlations, default_figure, type2_exact, type2_figure}
use Rattle.scr_default.specs.DefaultEnds.{default_ends, type2_ends}
use Rattle.scr_num.specs.Amounts.{IsAmount}

pub default-encloses : (unit : ℕ) (s1 s2 : Ends) (type1 type2 : Figure) → 0 < unit → pos 0 ≤ℤ s1.low → pos 0 ≤ℤ s2.low
    → Encloses unit s1.low s1.high type1
    → Encloses unit s2.low s2.high type2 → let e = default_ends s1 s2 in
    Encloses unit e.low e.high (default_figure type1 type2)
default-encloses unit s1 s2 type1 type2 positive low low' h k =
    Encloses-quad unit positive (s1 ∷ s2 ∷ []) (more type1 (more type2 none)) default_correlations (lit< tt)
    (table_of-square DEFAULT)
    (low, h, (low', k, tt))

pub default-size : (m n : ℕ) (s1 s2 : Ends) → IsAmount m s1 → IsAmount n s2 → IsAmount (m + n) (default_ends s1 s2)
default-size m n s1 s2 h k =
    amount-wider (sum_by (λ most. most) (m ∷ n ∷ [])) (m + n) (default_ends s1 s2) (omega arith)
    (root-within DEFAULT (m ∷ n ∷ []) (s1 ∷ s2 ∷ []) (omega (arith, ints))
    (is_correlation-holds DEFAULT refl).within refl (h, (k, tt)))

pub squares-le : (losses : List ℕ) → sum_by (λ loss. loss * loss) losses ≤ sum_by (λ loss. loss) losses * sum_by
    (λ loss. loss) losses
squares-le [] = omega arith
squares-le (x ∷ xs) =
    let rest = squares-le xs in
    let s = sum_by (λ loss. loss) xs in
    rw (sum_by-cons (λ (loss : ℕ). loss * loss) x xs, sum_by-cons (λ (loss : ℕ). loss) x xs) (omega arith)

-- ---- type 2 exposures
pub type2-encloses : (overdue other : ℕ) → let e = type2_ends overdue other in
    Encloses 1000 e.low e.high (type2_figure overdue other)
type2-encloses overdue other =
    Encloses-exact 1000 (pos (900 * overdue + 150 * other)) (type2_exact overdue other)
    (record { positive = lit< tt; equal = omega (arith, ints) })

pub type2-size : (overdue other : ℕ) → IsAmount (900 * overdue + 150 * other) (type2_ends overdue other)
type2-size overdue other = amount-exact (900 * overdue + 150 * other) (900 * overdue + 150 * other) (omega arith)
