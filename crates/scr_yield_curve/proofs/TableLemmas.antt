-- Tables of discounts, place by place.
use Rattle.std.proofs.Common.{◌≡◌, ℕ, zero, suc, ◌+◌, ◌<◌, ◌≤◌, refl, ap, ap₂, sym, subst, ◌∙◌, List, [], ◌∷◌, length, get_or, map, ℤ, pos, arith}
use Rattle.std.specs.Prelude.{All}
use Rattle.scr_num.specs.Fraction.{Fraction}
use Rattle.scr_num.specs.Figure.{Frac}
use Rattle.scr_num.specs.Rounding.{Ends, ends}
use Rattle.scr_num.specs.Enclosure.{Encloses}
use Rattle.scr_num.specs.declared.span.Span.{Span}
use Rattle.scr_yield_curve.specs.Discount.{discount_exact}
use Rattle.scr_yield_curve.specs.Parts.{IsRateInParts, AreRates}
use Rattle.scr_yield_curve.specs.DiscountEnds.{one, discount_ends, ends_from, table_ends, IsDiscount, IsAboutPower, AreAboutPowers, EncloseDiscounts}
use Rattle.scr_yield_curve.proofs.PowerLemmas.{in_range, about_power, encloses_discount}

pub length-ends_from : (first : ℕ) (curve : List ℤ) → length (ends_from first curve) ≡ length curve
unfolding ends_from
length-ends_from first [] = refl
length-ends_from first (n ∷ curve) = ap suc (length-ends_from (first + 1) curve)

pub get_or-ends_from : (first : ℕ) (curve : List ℤ) (k j : ℕ) (d : Ends) (e : ℤ) → k < length curve → first + k ≡ j → get_or (ends_from first curve) k d ≡ discount_ends (get_or curve k e) j
unfolding ends_from
get_or-ends_from first [] k j d e within sum = absurd (omega (arith, within))
get_or-ends_from first (n ∷ curve) zero j d e within sum = ap (λ (y : ℕ). discount_ends n y) (omega arith)
get_or-ends_from first (n ∷ curve) (suc k) j d e within sum = get_or-ends_from (first + 1) curve k j d e (omega (arith, within)) (omega arith)

-- the spans of a table, each that of its place
pub table_by_place : (first : ℕ) (spans : List Span) (curve : List ℤ) → length spans ≡ length curve
    → ((k : ℕ) (d : Span) (e : ℤ) → k < length spans → ends (get_or spans k d) ≡ discount_ends (get_or curve k e) (first + k))
    → map ends spans ≡ ends_from first curve
unfolding ends_from
table_by_place first [] [] e h = refl
table_by_place first [] (n ∷ curve) e h = absurd (omega (arith, e))
table_by_place first (s ∷ spans) [] e h = absurd (omega (arith, e))
table_by_place first (s ∷ spans) (n ∷ curve) e h =
    ap₂ (λ (y : Ends) (ys : List Ends). y ∷ ys) (h 0 s n (omega arith) ∙ ap (λ (y : ℕ). discount_ends n y) (omega arith))
    (table_by_place (first + 1) spans curve (omega (arith, e))
    (λ k d d' within. h (suc k) d d' (omega (arith, within)) ∙ ap (λ (y : ℕ). discount_ends (get_or curve k d') y) (omega arith)))

-- ---- what holds of each discount holds along a table
pub at_place : (P : ℕ → Ends → Type 0) (curve : List ℤ) → ((k : ℕ) → k < length curve → P k (discount_ends (get_or curve k (pos 0)) (k + 1)))
    → (k : ℕ) (d : Ends) → k < length (table_ends curve) → P k (get_or (table_ends curve) k d)
at_place P curve h k d within =
    let inside : k < length curve = omega (arith, within, length-ends_from 1 curve) in
    subst (P k) (sym (get_or-ends_from 1 curve k (k + 1) d (pos 0) inside (omega arith))) (h k inside)

pub table_in_range : (curve : List ℤ) → All IsRateInParts curve → length curve ≤ 100 → All IsDiscount (table_ends curve)
table_in_range curve limits few k d within =
    at_place (λ j e. IsDiscount e) curve (λ j inside. in_range (get_or curve j (pos 0)) (j + 1) (limits j (pos 0) inside) (omega (arith, inside, few))) k d within

pub table_about_powers : (curve : List ℤ) (rate : ℕ → Fraction) → All IsRateInParts curve → AreRates curve rate → AreAboutPowers rate (table_ends curve)
table_about_powers curve rate limits exact = record {
  each = at_place (λ k e. IsAboutPower e (rate (k + 1)) (k + 1)) curve
      (λ k within. about_power (get_or curve k (pos 0)) (rate (k + 1)) (k + 1) (limits k (pos 0) within) (exact.each k (pos 0) within));
}

pub table_encloses : (curve : List ℤ) (rate : ℕ → Fraction) → All IsRateInParts curve → AreRates curve rate → EncloseDiscounts rate (table_ends curve)
table_encloses curve rate limits exact = record {
  each = at_place (λ k e. Encloses one e.low e.high (Frac (discount_exact (rate (k + 1)) (k + 1)))) curve
      (λ k within. encloses_discount (get_or curve k (pos 0)) (rate (k + 1)) (k + 1) (limits k (pos 0) within) (exact.each k (pos 0) within));
}
