-- A root over the table of a matrix is at most the sum of its parts.
use Rattle.std.proofs.Common.{◌≡◌, ℕ, ◌-◌, ◌*◌, ◌<◌, ◌≤◌, List, [], ◌∷◌, ℤ, pos, negsuc, ◌*ℤ◌, ◌<ℤ◌, ◌≤ℤ◌, length}
use Rattle.std.proofs.Common.{sum_by, refl, sym, ap, subst, ◌∙◌, unsigned_abs, arith}
use Rattle.std.proofs.lemmas.Int.{ints}
use Rattle.std.proofs.lemmas.List.Sums.{sum_by-cons}
use Rattle.scr_num.specs.Rounding.{Ends, or_zero, floor_div, ceil_div, quad_ends}
use Rattle.scr_num.specs.Amounts.{IsAmount, AreAmounts}
use Rattle.scr_num.specs.declared.span.Span.{Span}
use Rattle.scr_num.proofs.AmountBounds.{is_amount, amount-wider}
use Rattle.scr_num.proofs.Quotients.{floor_div-le-ceil_div}
use Rattle.scr_num.proofs.Roots.{roots-in-order}
use Rattle.scr_profile.specs.declared.matrix.Matrix.{Matrix}
use Rattle.scr_agg.specs.Correlated.{table_of, CellsWithin, NotNegative, total_high, all_ends}
use Rattle.scr_agg.specs.declared.form.Side.TheVariants.{Low, High}
use Rattle.scr_agg.specs.declared.form.Sign.TheVariants.{Positive, Negative}
use Rattle.scr_agg.proofs.Bounded.{form_bound, form_rises}
use Rattle.scr_agg.proofs.Roots.{sum_of, root_over, root_over_sums, root_at_most}

or_zero-mono : (y z : ℤ) → y ≤ℤ z → or_zero y ≤ or_zero z
or_zero-mono (pos m) (pos n) h = omega (arith, ints)
or_zero-mono (pos m) (negsuc n) h = absurd (omega (arith, ints))
or_zero-mono (negsuc m) z h = omega arith

root_over-size : (l h den s : ℕ) → 0 < den → l ≤ h → h ≤ den * (s * s) → IsAmount s (root_over (pos l) (pos h) den)
root_over-size l h den s positive order small =
    let whole : pos h *ℤ pos 1 ≡ pos h = omega (arith, ints) in
    let rising = floor_div-le-ceil_div (pos l) (pos h) den positive (omega (arith, ints)) in
    let between = roots-in-order (or_zero (floor_div (pos l) den)) (or_zero (ceil_div (pos h) den))
    (or_zero-mono _ _ rising) in
    let most = root_at_most (ceil_div (pos h) den) h den s positive small (ap (λ z. ceil_div z den) (sym whole)) in
    is_amount s (root_over (pos l) (pos h) den) (omega (arith, ints)) (omega (arith, ints, between))
    (omega (arith, ints, most))

pub or_zero-positive : (den : ℤ) → pos 0 <ℤ den → 0 < or_zero den
or_zero-positive (pos n) h = omega (arith, ints)
or_zero-positive (negsuc n) h = absurd (omega (arith, ints))

pub root-size : (m : Matrix) (parts : List Span) → length parts ≡ m.n → NotNegative parts → pos 0 <ℤ m.den
    → CellsWithin m
    → IsAmount (total_high parts) (quad_ends (all_ends parts) (table_of m))
root-size m parts count lows den cells =
    let positive = or_zero-positive m.den den in
    let not_negative : pos 0 ≤ℤ m.den = omega (arith, ints) in
    subst (IsAmount (total_high parts)) (root_over_sums m parts count lows positive)
    (root_over-size (sum_of Low Positive m parts - sum_of High Negative m parts)
    (sum_of High Positive m parts - sum_of Low Negative m parts) (or_zero m.den) (total_high parts) positive
    (omega (arith, form_rises Positive m.cells parts lows, form_rises Negative m.cells parts lows))
    (omega (arith, form_bound High Positive m.den m.n m.cells parts count lows not_negative cells)))

-- ---- of any ends that are in order
unfoldable pub spans_of : (mosts : List ℕ) (es : List Ends) → AreAmounts mosts es → List Span
spans_of [] [] h = []
spans_of [] (e ∷ es) h = absurd h
spans_of (most ∷ mosts) [] h = absurd h
spans_of (most ∷ mosts) (e ∷ es) h = record { low = e.low; high = e.high; ordered = h.0.ordered } ∷ spans_of mosts es
    h.1

pub ends_are : (mosts : List ℕ) (es : List Ends) (h : AreAmounts mosts es) → all_ends (spans_of mosts es h) ≡ es
unfolding spans_of
ends_are [] [] h = refl
ends_are [] (e ∷ es) h = absurd h
ends_are (most ∷ mosts) [] h = absurd h
ends_are (most ∷ mosts) (e ∷ es) h = ap (λ (rest : List Ends). e ∷ rest) (ends_are mosts es h.1)

pub lows_are : (mosts : List ℕ) (es : List Ends) (h : AreAmounts mosts es) → NotNegative (spans_of mosts es h)
unfolding spans_of
lows_are [] [] h = tt
lows_are [] (e ∷ es) h = absurd h
lows_are (most ∷ mosts) [] h = absurd h
lows_are (most ∷ mosts) (e ∷ es) h = (h.0.not_negative, lows_are mosts es h.1)

pub length-spans_of : (mosts : List ℕ) (es : List Ends) (h : AreAmounts mosts es) → length (spans_of mosts es h) ≡ length es
unfolding spans_of
length-spans_of [] [] h = refl
length-spans_of [] (e ∷ es) h = absurd h
length-spans_of (most ∷ mosts) [] h = absurd h
length-spans_of (most ∷ mosts) (e ∷ es) h = let rest = length-spans_of mosts es h.1 in omega arith

high_within : (most : ℕ) (e : Ends) → IsAmount most e → or_zero e.high ≤ most
high_within most e h = of e.high h.high_size
  where
    of : (z : ℤ) → unsigned_abs z ≤ most → or_zero z ≤ most
    of (pos n) k = omega (arith, ints)
    of (negsuc n) k = omega arith

highs_within : (mosts : List ℕ) (es : List Ends) (h : AreAmounts mosts es)
    → total_high (spans_of mosts es h) ≤ sum_by (λ most. most) mosts
unfolding spans_of
highs_within [] [] h = omega arith
highs_within [] (e ∷ es) h = absurd h
highs_within (most ∷ mosts) [] h = absurd h
highs_within (most ∷ mosts) (e ∷ es) h =
    omega (arith, high_within most e h.0, highs_within mosts es h.1, sum_by-cons (λ (n : ℕ). n) most mosts)

pub root-within : (m : Matrix) (mosts : List ℕ) (parts : List Ends) → pos 0 <ℤ m.den → CellsWithin m
    → length parts ≡ m.n → AreAmounts mosts parts
    → IsAmount (sum_by (λ most. most) mosts) (quad_ends parts (table_of m))
root-within m mosts parts den cells count h =
    let spans = spans_of mosts parts h in
    amount-wider (total_high spans) (sum_by (λ most. most) mosts) (quad_ends parts (table_of m))
    (highs_within mosts parts h)
    (subst (λ (es : List Ends). IsAmount (total_high spans) (quad_ends es (table_of m))) (ends_are mosts parts h)
    (root-size m spans (length-spans_of mosts parts h ∙ count) (lows_are mosts parts h) den cells))
