-- The figures of the non-life module as worked out enclose the exact ones, and how large they are.
use Rattle.std.proofs.Common.{◌≡◌, refl, true, ℕ, ◌+◌, ◌*◌, ◌<◌, ◌≤◌, ℤ, pos, ◌+ℤ◌, ◌<ℤ◌, ◌≤ℤ◌, List, [], ◌∷◌, length, sum_by, arith, lit<}
use Rattle.std.proofs.lemmas.Int.{ints}
use Rattle.scr_num.specs.Figure.{Figure, Figures, Root, Sum, more, none}
use Rattle.scr_num.specs.Table.{Table, IsSquare}
use Rattle.scr_num.specs.Rounding.{Ends, add_ends, quad_ends}
use Rattle.scr_num.specs.Amounts.{IsAmount, AreAmounts}
use Rattle.scr_num.specs.Enclosure.{Encloses, EncloseAll}
use Rattle.scr_num.specs.Cents.{cents_ends, cents_figure}
use Rattle.scr_num.proofs.AmountBounds.{amount-exact, amount-add, amount-wider, amount-scale}
use Rattle.scr_num.proofs.Enclosing.{Encloses-scale, Encloses-add}
use Rattle.scr_num.proofs.Quadratic.{Encloses-quad}
use Rattle.scr_num.proofs.CentAmounts.{Encloses-cents, cents-not_negative}
use Rattle.scr_profile.specs.declared.matrix.Matrix.{Matrix}
use Rattle.scr_profile.specs.declared.correlations.TheConstants.{NONLIFE}
use Rattle.scr_profile.proofs.CorrelationRules.{is_correlation, is_correlation-holds}
use Rattle.scr_agg.specs.Correlated.{table_of, uncorrelated, CellsWithin}
use Rattle.scr_agg.proofs.Roots.{table_of-square}
use Rattle.scr_agg.proofs.RootSizes.{root-within}
use Rattle.scr_nonlife.specs.declared.catastrophes.TheConstants.{NATURAL, MANMADE, CATASTROPHES}
use Rattle.scr_nonlife.specs.Nonlife.{three, premium_reserve_figure, nonlife_correlations, nat_figure, manmade_figure, cat_figure, nonlife_figure}
use Rattle.scr_nonlife.specs.NonlifeEnds.{premium_reserve_ends, nat_ends, manmade_ends, cat_ends, nonlife_ends}

-- a root over a matrix whose places pass the test is at most the sum of its parts
within : (m : Matrix) (mosts : List ℕ) (parts : List Ends) → is_correlation m ≡ true → length parts ≡ m.n → AreAmounts mosts parts
    → IsAmount (sum_by (λ most. most) mosts) (quad_ends parts (table_of m))
within m mosts parts e count h =
    let correlation = is_correlation-holds m e in root-within m mosts parts correlation.denominator correlation.within count h

-- ---- premium and reserve risk
pub premium_reserve-encloses : (segments : List Ends) (figures : Figures) (table : Table) → 0 < table.den → IsSquare (length segments) table
    → EncloseAll 1000 segments figures
    → Encloses 1000 (premium_reserve_ends segments table).low (premium_reserve_ends segments table).high (premium_reserve_figure figures table)
premium_reserve-encloses segments figures table positive is_square h =
    Encloses-scale 1000 1000 3 1 (quad_ends segments table).low (quad_ends segments table).high (Root figures table) three (lit< tt)
    (record { positive = lit< tt; equal = refl }) (Encloses-quad 1000 (lit< tt) segments figures table positive is_square h)

pub premium_reserve-size : (m : Matrix) (mosts : List ℕ) (segments : List Ends) → pos 0 <ℤ m.den → CellsWithin m → length segments ≡ m.n → AreAmounts mosts segments
    → IsAmount (3 * sum_by (λ most. most) mosts) (premium_reserve_ends segments (table_of m))
premium_reserve-size m mosts segments den cells count h =
    amount-scale (sum_by (λ most. most) mosts) (3 * sum_by (λ most. most) mosts) 3 1 (quad_ends segments (table_of m)) (lit< tt) (omega arith)
    (root-within m mosts segments den cells count h)

-- ---- catastrophe risk
-- a root has a row and a column for each part
square_of : (m : Matrix) (parts : List Ends) → length parts ≡ m.n → IsSquare (length parts) (table_of m)
square_of m parts count = rw count (table_of-square m)

pub nat-encloses : (perils : List Ends) (figures : Figures) → length perils ≡ 5 → EncloseAll 1000 perils figures
    → Encloses 1000 (nat_ends perils).low (nat_ends perils).high (nat_figure figures)
nat-encloses perils figures count h = Encloses-quad 1000 (lit< tt) perils figures (uncorrelated 5) (lit< tt) (square_of NATURAL perils count) h

pub manmade-encloses : (perils : List Ends) (figures : Figures) → length perils ≡ 6 → EncloseAll 1000 perils figures
    → Encloses 1000 (manmade_ends perils).low (manmade_ends perils).high (manmade_figure figures)
manmade-encloses perils figures count h = Encloses-quad 1000 (lit< tt) perils figures (uncorrelated 6) (lit< tt) (square_of MANMADE perils count) h

pub nat-size : (mosts : List ℕ) (perils : List Ends) → length perils ≡ 5 → AreAmounts mosts perils → IsAmount (sum_by (λ most. most) mosts) (nat_ends perils)
nat-size mosts perils count h = within NATURAL mosts perils refl count h

pub manmade-size : (mosts : List ℕ) (perils : List Ends) → length perils ≡ 6 → AreAmounts mosts perils → IsAmount (sum_by (λ most. most) mosts) (manmade_ends perils)
manmade-size mosts perils count h = within MANMADE mosts perils refl count h

sum-not_negative : (a b : ℤ) → pos 0 ≤ℤ a → pos 0 ≤ℤ b → pos 0 ≤ℤ (a +ℤ b)
sum-not_negative a b h k = omega (arith, ints)

pub cat-encloses : (nat manmade property other : Ends) (f g h k : Figure) → pos 0 ≤ℤ nat.low → pos 0 ≤ℤ manmade.low → pos 0 ≤ℤ property.low → pos 0 ≤ℤ other.low
    → Encloses 1000 nat.low nat.high f → Encloses 1000 manmade.low manmade.high g → Encloses 1000 property.low property.high h → Encloses 1000 other.low other.high k
    → Encloses 1000 (cat_ends nat manmade property other).low (cat_ends nat manmade property other).high (cat_figure f g h k)
cat-encloses nat manmade property other f g h k p q r s in_nat in_manmade in_property in_other =
    Encloses-quad 1000 (lit< tt) (add_ends nat property ∷ manmade ∷ other ∷ [])
    (more (Sum f h) (more g (more k none))) (uncorrelated 3) (lit< tt) (table_of-square CATASTROPHES) (
      sum-not_negative nat.low property.low p r,
      Encloses-add 1000 nat.low nat.high property.low property.high f h in_nat in_property,
      (q, in_manmade, (s, in_other, tt)),
    )

pub cat-size : (a b c d : ℕ) (nat manmade property other : Ends) → IsAmount a nat → IsAmount b manmade → IsAmount c property → IsAmount d other
    → IsAmount (a + b + c + d) (cat_ends nat manmade property other)
cat-size a b c d nat manmade property other h k l m =
    amount-wider _ _ (cat_ends nat manmade property other) (omega arith)
    (within CATASTROPHES ((a + c) ∷ b ∷ d ∷ []) (add_ends nat property ∷ manmade ∷ other ∷ []) refl refl
    (amount-add a c nat property h l, (k, (m, tt))))

cents-size : (cents : ℕ) → IsAmount (1000 * cents) (cents_ends cents)
cents-size cents = amount-exact (1000 * cents) (1000 * cents) (omega arith)

-- ---- the module
pub nonlife-encloses : (pr cat : Ends) (f g : Figure) (lapse : ℕ) → pos 0 ≤ℤ pr.low → pos 0 ≤ℤ cat.low → Encloses 1000 pr.low pr.high f → Encloses 1000 cat.low cat.high g
    → Encloses 1000 (nonlife_ends pr cat lapse).low (nonlife_ends pr cat lapse).high (nonlife_figure f g lapse)
nonlife-encloses pr cat f g lapse p q h k =
    Encloses-quad 1000 (lit< tt) (pr ∷ cat ∷ cents_ends lapse ∷ []) (more f (more g (more (cents_figure lapse) none))) nonlife_correlations (lit< tt) (table_of-square NONLIFE)
    (p, h, (q, k, (cents-not_negative lapse, Encloses-cents lapse, tt)))

pub nonlife-size : (a b : ℕ) (pr cat : Ends) (lapse : ℕ) → IsAmount a pr → IsAmount b cat → IsAmount (a + b + 1000 * lapse) (nonlife_ends pr cat lapse)
nonlife-size a b pr cat lapse h k =
    amount-wider _ _ (nonlife_ends pr cat lapse) (omega arith)
    (within NONLIFE (a ∷ b ∷ 1000 * lapse ∷ []) (pr ∷ cat ∷ cents_ends lapse ∷ []) refl refl (h, (k, (cents-size lapse, tt))))
