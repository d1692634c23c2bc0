-- Sums over the first so many places: what they enclose, and how large they are.
use Rattle.std.proofs.Common.{◌≡◌, ℕ, zero, suc, ◌+◌, ◌*◌, ◌<◌, pos, ◌+ℤ◌, add-one, refl, arith}
use Rattle.std.proofs.lemmas.Int.{ints}
use Rattle.scr_num.specs.Fraction.{Fraction, plus, zero_fraction}
use Rattle.scr_num.specs.Figure.{Frac}
use Rattle.scr_num.specs.Rounding.{Ends, exact_ends, add_ends}
use Rattle.scr_num.specs.Enclosure.{Encloses}
use Rattle.scr_num.proofs.Enclosing.{Encloses-exact, Encloses-add, Encloses-plus}
use Rattle.scr_num.proofs.AmountBounds.{amount-exact, amount-wider, amount-add}
use Rattle.scr_default.specs.Sums.{sum_below}
use Rattle.scr_num.specs.Amounts.{IsAmount}

abbrev pub ends_below : (ℕ → Ends) → ℕ → Ends
ends_below e n = sum_below (exact_ends (pos 0)) add_ends e n

pub ends_below-next : (e : ℕ → Ends) (n : ℕ) → ends_below e (n + 1) ≡ add_ends (ends_below e n) (e n)
unfolding sum_below
ends_below-next e n = rw add-one refl

pub ends_below-zero : (e : ℕ → Ends) → ends_below e 0 ≡ exact_ends (pos 0)
unfolding sum_below
ends_below-zero e = refl

pub Encloses-sum : (unit : ℕ) (e : ℕ → Ends) (f : ℕ → Fraction) (n : ℕ) → 0 < unit
    → ((i : ℕ) → i < n → Encloses unit (e i).low (e i).high (Frac (f i)))
    → Encloses unit (ends_below e n).low (ends_below e n).high (Frac (sum_below zero_fraction plus f n))
unfolding sum_below
Encloses-sum unit e f zero positive each = Encloses-exact unit (pos 0) zero_fraction
    (record { positive = positive; equal = omega (arith, ints) })
Encloses-sum unit e f (suc n) positive each =
    let s = ends_below e n in
    let g = sum_below zero_fraction plus f n in
    Encloses-plus unit (s.low +ℤ (e n).low) (s.high +ℤ (e n).high) g (f n)
    (Encloses-add unit s.low s.high (e n).low (e n).high (Frac g) (Frac (f n))
    (Encloses-sum unit e f n positive (λ i lt. each i (omega arith))) (each n (omega arith)))

pub amount-sum_below : (most : ℕ) (e : ℕ → Ends) (n : ℕ) → ((i : ℕ) → i < n → IsAmount most (e i))
    → IsAmount (n * most) (ends_below e n)
unfolding sum_below
amount-sum_below most e zero each = amount-exact (0 * most) 0 (omega arith)
amount-sum_below most e (suc n) each =
    amount-wider (n * most + most) (suc n * most) (add_ends (ends_below e n) (e n)) (omega arith)
    (amount-add (n * most) most (ends_below e n) (e n) (amount-sum_below most e n (λ i lt. each i (omega arith)))
    (each n (omega arith)))
