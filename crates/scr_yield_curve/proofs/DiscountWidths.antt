-- How far apart the ends of a discount are.
use Rattle.std.proofs.Common.{◌≡◌, ℕ, zero, suc, ◌+◌, ◌*◌, ◌/◌, ◌<◌, ◌≤◌, inl, inr, List, length, get_or, ℤ, pos, negsuc, ◌+ℤ◌, ◌≤ℤ◌, subst, arith, lit≤}
use Rattle.std.specs.Prelude.{All}
use Rattle.std.proofs.lemmas.Int.{ints}
use Rattle.std.proofs.lemmas.Nat.{mul-le}
use Rattle.std.proofs.lemmas.Bool.{cases_lt}
use Rattle.scr_num.specs.Rounding.{Ends, or_zero}
use Rattle.scr_num.specs.Narrow.{IsNarrow}
use Rattle.scr_num.proofs.Spreads.{narrow-exact, narrow-scale, narrow-wider}
use Rattle.scr_yield_curve.specs.Parts.{parts, IsRateInParts}
use Rattle.scr_yield_curve.specs.DiscountEnds.{one, discount_ends, table_ends, discount_width}
use Rattle.scr_yield_curve.proofs.TableLemmas.{at_place}

-- a year at a rate of -1 % or more widens by a ninety-ninth, and by the two roundings
unfoldable grown : ℕ → ℕ
grown zero = 0
grown (suc years) = (100 * grown years + 98) / 99 + 1

growth_least : (rate : ℤ) → IsRateInParts rate → 6_930_000_000 ≤ or_zero (pos parts +ℤ rate)
growth_least rate h = of (pos parts +ℤ rate) (omega (arith, ints, h.low))
  where
    of : (z : ℤ) → pos 6_930_000_000 ≤ℤ z → 6_930_000_000 ≤ or_zero z
    of (pos n) k = omega (arith, ints)
    of (negsuc n) k = absurd (omega (arith, ints))

widened : (w growth : ℕ) → 6_930_000_000 ≤ growth → w * 7_000_000_000 ≤ (100 * w + 98) / 99 * growth
widened w growth h =
    omega (arith, mul-le ((100 * w + 98) / 99) 6_930_000_000 ((100 * w + 98) / 99) growth (omega arith) h)

narrow-grown : (rate : ℤ) (years : ℕ) → IsRateInParts rate → IsNarrow (grown years) (discount_ends rate years)
unfolding grown discount_ends
narrow-grown rate zero h = narrow-exact (pos one)
narrow-grown rate (suc years) h =
    narrow-scale (grown years) ((100 * grown years + 98) / 99) parts (or_zero (pos parts +ℤ rate))
    (discount_ends rate years) (omega (arith, growth_least rate h))
    (widened (grown years) (or_zero (pos parts +ℤ rate)) (growth_least rate h)) (narrow-grown rate years h)

grown-next : (years : ℕ) → grown years ≤ grown (suc years)
unfolding grown
grown-next years = omega arith

grown-rises : (m n : ℕ) → m ≤ n → grown m ≤ grown n
grown-rises m zero h = let same : 0 ≡ m = omega arith in subst (λ (k : ℕ). grown k ≤ grown 0) same (omega arith)
grown-rises m (suc n) h = elim (cases_lt m (suc n)) [
  | inl less ↦ omega (arith, grown-rises m n (omega arith), grown-next n)
  | inr more ↦
      let same : suc n ≡ m = omega arith in
      subst (λ (k : ℕ). grown k ≤ grown (suc n)) same (omega arith)
]

grown-most : grown 100 ≤ discount_width
unfolding grown
grown-most = lit≤ tt

pub narrow-discount : (rate : ℤ) (years : ℕ) → IsRateInParts rate → years ≤ 100
    → IsNarrow discount_width (discount_ends rate years)
narrow-discount rate years h few =
    narrow-wider (grown years) discount_width (discount_ends rate years)
    (omega (arith, grown-rises years 100 few, grown-most)) (narrow-grown rate years h)

pub narrow-discounts : (curve : List ℤ) → All IsRateInParts curve → length curve ≤ 100
    → All (IsNarrow discount_width) (table_ends curve)
narrow-discounts curve limits few k d within =
    at_place (λ j e. IsNarrow discount_width e) curve
    (λ j inside. narrow-discount (get_or curve j (pos 0)) (j + 1) (limits j (pos 0) inside)
    (omega (arith, inside, few))) k d within
