-- The Basic Solvency Capital Requirement as worked out encloses the exact figure, and how large it is.
use Rattle.std.proofs.Common.{◌≡◌, refl, ℕ, ◌+◌, ◌*◌, ℤ, pos, negsuc, ◌+ℤ◌, ◌-ℤ◌, ◌≤ℤ◌, List, [], ◌∷◌, length, sum_by, arith, lit<, unsigned_abs, ◌≤◌, ap, ap₂, sym, subst}
use Rattle.std.proofs.lemmas.Int.{ints}
use Rattle.std.proofs.lemmas.List.Sums.{sum_by-cons}
use Rattle.scr_num.specs.declared.span.Span.{Span}
use Rattle.scr_num.specs.Fraction.{whole, percent, product}
use Rattle.scr_num.specs.Figure.{Figure}
use Rattle.scr_num.specs.Table.{IsSquare}
use Rattle.scr_num.specs.Rounding.{Ends, ends, or_zero, sub_ends}
use Rattle.scr_num.specs.Amounts.{IsAmount, AreAmounts}
use Rattle.scr_num.specs.Sizes.{AreTogether}
use Rattle.scr_num.specs.Enclosure.{Encloses}
use Rattle.scr_num.specs.Sums.{EncloseEach, parts_of, sum_ends, sum_figure}
use Rattle.scr_num.proofs.AmountBounds.{amount-exact, amount-add, amount-high, amount-total}
use Rattle.scr_num.proofs.Enclosing.{Encloses-exact, Encloses-add, Encloses-sub}
use Rattle.scr_num.proofs.Quadratic.{Encloses-quad}
use Rattle.scr_num.proofs.SumLemmas.{Encloses-sum, parts-enclosed}
use Rattle.scr_profile.specs.declared.correlations.TheConstants.{BSCR}
use Rattle.scr_profile.proofs.CorrelationRules.{is_correlation-holds}
use Rattle.scr_agg.specs.Correlated.{NotNegative, total_high, all_ends}
use Rattle.scr_agg.proofs.Roots.{table_of-square}
use Rattle.scr_agg.proofs.RootSizes.{root-within}
use Rattle.scr_loss.specs.Bscr.{bscr_correlations, modules_figure, intangible_figure, bscr_figure, diversification_figure}
use Rattle.scr_loss.specs.BscrEnds.{LowsNotNegative, modules_ends, intangible_ends, bscr_ends, diversification_ends, known_diversification_ends}

pub lows_of : (parts : List Span) → NotNegative parts → LowsNotNegative (all_ends parts)
lows_of [] h = tt
lows_of (part ∷ parts) h = (h.0, lows_of parts h.1)

pub modules-encloses : (modules : List Ends) (figures : List Figure) → length modules ≡ 5 → LowsNotNegative modules → EncloseEach 1000 modules figures
    → Encloses 1000 (modules_ends modules).low (modules_ends modules).high (modules_figure figures)
modules-encloses modules figures count lows h =
    let square : IsSquare (length modules) bscr_correlations = rw count (table_of-square BSCR) in
    Encloses-quad 1000 (lit< tt) modules (parts_of figures) bscr_correlations (lit< tt) square (parts-enclosed 1000 modules figures lows h)

pub modules-size : (mosts : List ℕ) (modules : List Ends) → length modules ≡ 5 → AreAmounts mosts modules → IsAmount (sum_by (λ most. most) mosts) (modules_ends modules)
modules-size mosts modules count h =
    let correlation = is_correlation-holds BSCR refl in root-within BSCR mosts modules correlation.denominator correlation.within count h

pub intangible-encloses : (cents : ℕ) → Encloses 1000 (intangible_ends cents).low (intangible_ends cents).high (intangible_figure cents)
intangible-encloses cents =
    Encloses-exact 1000 (pos (800 * cents)) (product (percent 80) (whole (pos cents))) (record { positive = lit< tt; equal = omega (arith, ints) })

pub bscr-encloses : (modules : List Ends) (figures : List Figure) (intangible : ℕ) → length modules ≡ 5 → LowsNotNegative modules → EncloseEach 1000 modules figures
    → Encloses 1000 (bscr_ends modules intangible).low (bscr_ends modules intangible).high (bscr_figure figures intangible)
bscr-encloses modules figures intangible count lows h =
    Encloses-add 1000 (modules_ends modules).low (modules_ends modules).high (intangible_ends intangible).low (intangible_ends intangible).high
    (modules_figure figures) (intangible_figure intangible) (modules-encloses modules figures count lows h) (intangible-encloses intangible)

pub bscr-size : (mosts : List ℕ) (modules : List Ends) (intangible : ℕ) → length modules ≡ 5 → AreAmounts mosts modules
    → IsAmount (sum_by (λ most. most) mosts + 800 * intangible) (bscr_ends modules intangible)
bscr-size mosts modules intangible count h =
    amount-add (sum_by (λ most. most) mosts) (800 * intangible) (modules_ends modules) (intangible_ends intangible) (modules-size mosts modules count h)
    (amount-exact (800 * intangible) (800 * intangible) (omega arith))

less-again : (a b : ℤ) → ((a +ℤ b) -ℤ b) ≡ a
less-again a b = omega (arith, ints)

-- less the exact part that was added to it, an end is as it was
pub root-again : (modules : List Ends) (intangible : ℕ)
    → sub_ends (bscr_ends modules intangible) (intangible_ends intangible) ≡ modules_ends modules
root-again modules intangible =
    let more = pos (800 * intangible) in
    ap₂ (λ (low high : ℤ). let e : Ends = record { low = low; high = high } in e)
    (less-again (modules_ends modules).low more) (less-again (modules_ends modules).high more)

-- so of a known requirement the diversification is the same
pub known-same : (modules : List Ends) (intangible : ℕ)
    → known_diversification_ends modules (bscr_ends modules intangible) intangible ≡ diversification_ends modules
known-same modules intangible = ap (sub_ends (sum_ends modules)) (root-again modules intangible)

pub diversification-encloses : (modules : List Ends) (figures : List Figure) → length modules ≡ 5 → LowsNotNegative modules → EncloseEach 1000 modules figures
    → Encloses 1000 (diversification_ends modules).low (diversification_ends modules).high (diversification_figure figures)
diversification-encloses modules figures count lows h =
    Encloses-sub 1000 (sum_ends modules).low (sum_ends modules).high (modules_ends modules).low (modules_ends modules).high
    (sum_figure figures) (modules_figure figures) (Encloses-sum 1000 (lit< tt) modules figures h) (modules-encloses modules figures count lows h)

pub known-encloses : (modules : List Ends) (figures : List Figure) (intangible : ℕ) → length modules ≡ 5 → LowsNotNegative modules
    → EncloseEach 1000 modules figures
    → let e = known_diversification_ends modules (bscr_ends modules intangible) intangible in
    Encloses 1000 e.low e.high (diversification_figure figures)
known-encloses modules figures intangible count lows h =
    subst (λ (e : Ends). Encloses 1000 e.low e.high (diversification_figure figures)) (sym (known-same modules intangible))
    (diversification-encloses modules figures count lows h)

between : (a b c d : ℤ) (s : ℕ) → pos 0 ≤ℤ a → b ≤ℤ pos s → pos 0 ≤ℤ c → d ≤ℤ pos s → (pos 0 ≤ℤ ((a -ℤ d) +ℤ pos s)) × ((b -ℤ c) ≤ℤ pos s)
between a b c d s h k l m = (omega (arith, ints), omega (arith, ints))

pub diversification-size : (mosts : List ℕ) (modules : List Ends) → length modules ≡ 5 → AreAmounts mosts modules
    → (pos 0 ≤ℤ ((diversification_ends modules).low +ℤ pos (sum_by (λ most. most) mosts))) × ((diversification_ends modules).high ≤ℤ pos (sum_by (λ most. most) mosts))
diversification-size mosts modules count h =
    let s = sum_by (λ (most : ℕ). most) mosts in
    let sum = amount-total mosts modules h in
    let root = modules-size mosts modules count h in
    between (sum_ends modules).low (sum_ends modules).high (modules_ends modules).low (modules_ends modules).high s
    sum.not_negative (amount-high s (sum_ends modules) sum) root.not_negative (amount-high s (modules_ends modules) root)

-- ---- the magnitudes of parts that are not negative
low-magnitude : (low high : ℤ) → pos 0 ≤ℤ low → low ≤ℤ high → unsigned_abs low ≤ or_zero high
low-magnitude (pos l) (pos h) a b = omega (arith, ints)
low-magnitude (pos l) (negsuc h) a b = absurd (omega (arith, ints))
low-magnitude (negsuc l) high a b = absurd (omega (arith, ints))

high-magnitude : (low high : ℤ) → pos 0 ≤ℤ low → low ≤ℤ high → unsigned_abs high ≤ or_zero high
high-magnitude low (pos h) a b = omega (arith, ints)
high-magnitude low (negsuc h) a b = absurd (omega (arith, ints))

lows-magnitude : (parts : List Span) → NotNegative parts → sum_by (λ (e : Ends). unsigned_abs e.low) (all_ends parts) ≤ total_high parts
lows-magnitude [] h = omega arith
lows-magnitude (part ∷ parts) h =
    omega (arith, sum_by-cons (λ (e : Ends). unsigned_abs e.low) (ends part) (all_ends parts), low-magnitude part.low part.high h.0 part.ordered, lows-magnitude parts h.1)

highs-magnitude : (parts : List Span) → NotNegative parts → sum_by (λ (e : Ends). unsigned_abs e.high) (all_ends parts) ≤ total_high parts
highs-magnitude [] h = omega arith
highs-magnitude (part ∷ parts) h =
    omega (arith, sum_by-cons (λ (e : Ends). unsigned_abs e.high) (ends part) (all_ends parts), high-magnitude part.low part.high h.0 part.ordered, highs-magnitude parts h.1)

pub together : (most : ℕ) (parts : List Span) → NotNegative parts → total_high parts ≤ most → AreTogether most (all_ends parts)
together most parts h small = record { lows = omega (arith, lows-magnitude parts h, small); highs = omega (arith, highs-magnitude parts h, small) }
