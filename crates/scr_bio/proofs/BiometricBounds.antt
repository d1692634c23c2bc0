-- The figures of the life and health modules as worked out enclose the exact ones, and how large they are.
use Rattle.std.proofs.Common.{◌≡◌, refl, true, ℕ, ◌+◌, ◌*◌, ℤ, pos, negsuc, ◌*ℤ◌, ◌≤ℤ◌, List, [], ◌∷◌, length, sum_by, arith, lit<}
use Rattle.std.proofs.lemmas.Int.{ints}
use Rattle.scr_num.specs.Figure.{Figure, Figures, more, none}
use Rattle.scr_num.specs.Table.{IsSquare}
use Rattle.scr_num.specs.Rounding.{Ends, floor_div, quad_ends}
use Rattle.scr_num.specs.Amounts.{IsAmount, AreAmounts}
use Rattle.scr_num.specs.Enclosure.{Encloses, EncloseAll}
use Rattle.scr_num.specs.Cents.{cents_ends, cents_figure}
use Rattle.scr_num.proofs.AmountBounds.{amount-exact, amount-wider, amount-scale}
use Rattle.scr_num.proofs.Enclosing.{Encloses-divided}
use Rattle.scr_num.proofs.Quadratic.{Encloses-quad}
use Rattle.scr_num.proofs.CentAmounts.{Encloses-cents, cents-not_negative}
use Rattle.scr_profile.specs.declared.matrix.Matrix.{Matrix}
use Rattle.scr_profile.specs.declared.correlations.TheConstants.{LIFE, SLT, HEALTH}
use Rattle.scr_profile.proofs.CorrelationRules.{is_correlation, is_correlation-holds}
use Rattle.scr_agg.specs.Correlated.{table_of, uncorrelated}
use Rattle.scr_agg.proofs.Roots.{table_of-square}
use Rattle.scr_agg.proofs.RootSizes.{root-within}
use Rattle.scr_bio.specs.declared.uncorrelated.TheConstants.{TWO, THREE}
use Rattle.scr_bio.specs.Biometric.{life_correlations, slt_correlations, health_correlations, life_figure, slt_figure, nslt_figure, health_cat_figure, health_figure}
use Rattle.scr_bio.specs.BiometricEnds.{units_of_a_grain, loss_ends, life_ends, slt_ends, nslt_ends, health_cat_ends, health_ends}

-- a root over a matrix whose places pass the test is at most the sum of its parts
within : (m : Matrix) (mosts : List ℕ) (parts : List Ends) → is_correlation m ≡ true → length parts ≡ m.n → AreAmounts mosts parts
    → IsAmount (sum_by (λ most. most) mosts) (quad_ends parts (table_of m))
within m mosts parts e count h =
    let correlation = is_correlation-holds m e in root-within m mosts parts correlation.denominator correlation.within count h

-- it has a row and a column for each part
square_of : (m : Matrix) (parts : List Ends) → length parts ≡ m.n → IsSquare (length parts) (table_of m)
square_of m parts count = rw count (table_of-square m)

cents-size : (cents : ℕ) → IsAmount (1000 * cents) (cents_ends cents)
cents-size cents = amount-exact (1000 * cents) (1000 * cents) (omega arith)

-- ---- losses
pub loss-encloses : (sum : Ends) (f : Figure) → Encloses 1_000_000_000_000_000_000 sum.low sum.high f → Encloses 1000 (loss_ends sum).low (loss_ends sum).high f
loss-encloses sum f h = Encloses-divided 1000 units_of_a_grain sum f (lit< tt) h

pub loss-size : (most : ℕ) (sum : Ends) → IsAmount (most * units_of_a_grain) sum → IsAmount most (loss_ends sum)
loss-size most sum h = amount-scale (most * units_of_a_grain) most 1 units_of_a_grain sum (lit< tt) (omega arith) h

pub loss-not_negative : (z : ℤ) → pos 0 ≤ℤ z → pos 0 ≤ℤ floor_div (z *ℤ pos 1) units_of_a_grain
loss-not_negative (pos n) h = omega (arith, ints)
loss-not_negative (negsuc n) h = absurd (omega (arith, ints))

-- ---- life, and health similar to life
pub life-encloses : (parts : List Ends) (figures : Figures) → length parts ≡ 7 → EncloseAll 1000 parts figures
    → Encloses 1000 (life_ends parts).low (life_ends parts).high (life_figure figures)
life-encloses parts figures count h = Encloses-quad 1000 (lit< tt) parts figures life_correlations (lit< tt) (square_of LIFE parts count) h

pub life-size : (mosts : List ℕ) (parts : List Ends) → length parts ≡ 7 → AreAmounts mosts parts → IsAmount (sum_by (λ most. most) mosts) (life_ends parts)
life-size mosts parts count h = within LIFE mosts parts refl count h

pub slt-encloses : (parts : List Ends) (figures : Figures) → length parts ≡ 6 → EncloseAll 1000 parts figures
    → Encloses 1000 (slt_ends parts).low (slt_ends parts).high (slt_figure figures)
slt-encloses parts figures count h = Encloses-quad 1000 (lit< tt) parts figures slt_correlations (lit< tt) (square_of SLT parts count) h

pub slt-size : (mosts : List ℕ) (parts : List Ends) → length parts ≡ 6 → AreAmounts mosts parts → IsAmount (sum_by (λ most. most) mosts) (slt_ends parts)
slt-size mosts parts count h = within SLT mosts parts refl count h

-- ---- health not similar to life
pub nslt-encloses : (pr : Ends) (f : Figure) (lapse : ℕ) → pos 0 ≤ℤ pr.low → Encloses 1000 pr.low pr.high f
    → Encloses 1000 (nslt_ends pr lapse).low (nslt_ends pr lapse).high (nslt_figure f lapse)
nslt-encloses pr f lapse p h =
    Encloses-quad 1000 (lit< tt) (pr ∷ cents_ends lapse ∷ []) (more f (more (cents_figure lapse) none)) (uncorrelated 2) (lit< tt) (table_of-square TWO)
    (p, h, (cents-not_negative lapse, Encloses-cents lapse, tt))

pub nslt-size : (most : ℕ) (pr : Ends) (lapse : ℕ) → IsAmount most pr → IsAmount (most + 1000 * lapse) (nslt_ends pr lapse)
nslt-size most pr lapse h =
    amount-wider _ _ (nslt_ends pr lapse) (omega arith)
    (within TWO (most ∷ (1000 * lapse) ∷ []) (pr ∷ cents_ends lapse ∷ []) refl refl (h, (cents-size lapse, tt)))

-- ---- health catastrophes
pub health_cat-encloses : (parts : List Ends) (figures : Figures) → length parts ≡ 3 → EncloseAll 1000 parts figures
    → Encloses 1000 (health_cat_ends parts).low (health_cat_ends parts).high (health_cat_figure figures)
health_cat-encloses parts figures count h = Encloses-quad 1000 (lit< tt) parts figures (uncorrelated 3) (lit< tt) (square_of THREE parts count) h

pub health_cat-size : (mosts : List ℕ) (parts : List Ends) → length parts ≡ 3 → AreAmounts mosts parts → IsAmount (sum_by (λ most. most) mosts) (health_cat_ends parts)
health_cat-size mosts parts count h = within THREE mosts parts refl count h

-- ---- health
pub health-encloses : (slt nslt cat : Ends) (f g h : Figure) → pos 0 ≤ℤ slt.low → pos 0 ≤ℤ nslt.low → pos 0 ≤ℤ cat.low
    → Encloses 1000 slt.low slt.high f → Encloses 1000 nslt.low nslt.high g → Encloses 1000 cat.low cat.high h
    → Encloses 1000 (health_ends slt nslt cat).low (health_ends slt nslt cat).high (health_figure f g h)
health-encloses slt nslt cat f g h p q r in_slt in_nslt in_cat =
    Encloses-quad 1000 (lit< tt) (slt ∷ nslt ∷ cat ∷ []) (more f (more g (more h none))) health_correlations (lit< tt) (table_of-square HEALTH)
    (p, in_slt, (q, in_nslt, (r, in_cat, tt)))

pub health-size : (a b c : ℕ) (slt nslt cat : Ends) → IsAmount a slt → IsAmount b nslt → IsAmount c cat → IsAmount (a + b + c) (health_ends slt nslt cat)
health-size a b c slt nslt cat h k l =
    amount-wider _ _ (health_ends slt nslt cat) (omega arith)
    (within HEALTH (a ∷ b ∷ c ∷ []) (slt ∷ nslt ∷ cat ∷ []) refl refl (h, (k, (l, tt))))
