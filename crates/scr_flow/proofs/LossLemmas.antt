-- The fall of each discount encloses the exact fall.
use Rattle.std.proofs.Common.{ℕ, zero, suc, ◌+◌, ◌<◌, subst, List, [], ◌∷◌, length, get_or, ℤ, pos, arith, lit<}
use Rattle.std.specs.Ordering.{int_eq}
use Rattle.std.proofs.lemmas.Bool.{cond_both}
use Rattle.std.proofs.lemmas.Bool.Decides.{Decides-int_eq}
use Rattle.scr_num.specs.Fraction.{Fraction, minus}
use Rattle.scr_num.specs.Figure.{Frac}
use Rattle.scr_num.specs.Rounding.{Ends, exact_ends, sub_ends}
use Rattle.scr_num.specs.Enclosure.{Encloses, Measures}
use Rattle.scr_yield_curve.specs.Discount.{discount_exact}
use Rattle.scr_yield_curve.specs.Parts.{parts, AreRates}
use Rattle.scr_yield_curve.specs.DiscountEnds.{one, EncloseDiscounts}
use Rattle.scr_yield_curve.proofs.SameRates.{Same-rates, Same-discount, Same-below, Same-turned}
use Rattle.scr_flow.specs.Loss.{discount_fall}
use Rattle.scr_yield_curve.specs.Falls.{difference, differences}
use Rattle.scr_num.proofs.Enclosing.{Encloses-sub, Encloses-minus}
use Rattle.scr_flow.proofs.SumLemmas.{Encloses-equal}
use Rattle.scr_yield_curve.proofs.FallLemmas.{get_or-differences}

difference_encloses : (n m : ℤ) (e f : Ends) (p q : Fraction) (years : ℕ) → Measures parts n p → Measures parts m q
    → Encloses one e.low e.high (Frac (discount_exact p years)) → Encloses one f.low f.high (Frac (discount_exact q years))
    → Encloses one (difference n e m f).low (difference n e m f).high (Frac (minus (discount_exact p years) (discount_exact q years)))
difference_encloses n m e f p q years h k x y =
    cond_both (int_eq n m) (exact_ends (pos 0)) (sub_ends e f)
    (λ d. Encloses one d.low d.high (Frac (minus (discount_exact p years) (discount_exact q years))))
    (λ equal.
    let turned : Measures parts n q = rw ((Decides-int_eq n m).0 equal) k in
    let same = Same-discount p q years (Same-rates n p q h turned) in
    Encloses-equal one (lit< tt) (discount_exact p years) (discount_exact q years) (Same-below (discount_exact p years) (discount_exact q years) same)
    (Same-below (discount_exact q years) (discount_exact p years) (Same-turned (discount_exact p years) (discount_exact q years) same)))
    (λ other. Encloses-minus one _ _ (discount_exact p years) (discount_exact q years)
    (Encloses-sub one e.low e.high f.low f.high (Frac (discount_exact p years)) (Frac (discount_exact q years)) x y))

-- each place of the falls is one of all four lists
record IsPlace (bases : List ℤ) (froms : List Ends) (stresseds : List ℤ) (tos : List Ends) (k : ℕ) : Type 0 where
  in_bases : k < length bases
  in_froms : k < length froms
  in_stresseds : k < length stresseds
  in_tos : k < length tos

places_of : (bases : List ℤ) (froms : List Ends) (stresseds : List ℤ) (tos : List Ends) (k : ℕ) → k < length (differences bases froms stresseds tos) → IsPlace bases froms stresseds tos k
unfolding differences
places_of [] froms stresseds tos k h = absurd (omega (arith, h))
places_of (n ∷ bases) [] stresseds tos k h = absurd (omega (arith, h))
places_of (n ∷ bases) (e ∷ froms) [] tos k h = absurd (omega (arith, h))
places_of (n ∷ bases) (e ∷ froms) (m ∷ stresseds) [] k h = absurd (omega (arith, h))
places_of (n ∷ bases) (e ∷ froms) (m ∷ stresseds) (f ∷ tos) zero h =
    record { in_bases = omega arith; in_froms = omega arith; in_stresseds = omega arith; in_tos = omega arith }
places_of (n ∷ bases) (e ∷ froms) (m ∷ stresseds) (f ∷ tos) (suc k) h =
    let p = places_of bases froms stresseds tos k (omega (arith, h)) in
    record {
      in_bases = omega (arith, p.in_bases);
      in_froms = omega (arith, p.in_froms);
      in_stresseds = omega (arith, p.in_stresseds);
      in_tos = omega (arith, p.in_tos);
    }

pub differences_enclose : (bases : List ℤ) (froms : List Ends) (stresseds : List ℤ) (tos : List Ends) (before after : ℕ → Fraction)
    → AreRates bases before → AreRates stresseds after → EncloseDiscounts before froms → EncloseDiscounts after tos
    → (k : ℕ) (d : Ends) → k < length (differences bases froms stresseds tos)
    → Encloses one (get_or (differences bases froms stresseds tos) k d).low (get_or (differences bases froms stresseds tos) k d).high (Frac (discount_fall before after (1 + k)))
differences_enclose bases froms stresseds tos before after rates rates' discounts discounts' k d within =
    let p = places_of bases froms stresseds tos k within in
    let here : Encloses one (get_or (differences bases froms stresseds tos) k d).low (get_or (differences bases froms stresseds tos) k d).high (Frac (discount_fall before after (k + 1))) =
    rw (get_or-differences bases froms stresseds tos k d (pos 0) (pos 0) d d p.in_bases p.in_froms p.in_stresseds p.in_tos)
    (difference_encloses (get_or bases k (pos 0)) (get_or stresseds k (pos 0)) (get_or froms k d) (get_or tos k d) (before (k + 1)) (after (k + 1)) (k + 1)
    (rates.each k (pos 0) p.in_bases) (rates'.each k (pos 0) p.in_stresseds) (discounts.each k d p.in_froms) (discounts'.each k d p.in_tos)) in
    subst (λ (j : ℕ). Encloses one (get_or (differences bases froms stresseds tos) k d).low (get_or (differences bases froms stresseds tos) k d).high (Frac (discount_fall before after j))) (omega arith) here
