-- Losses that are one number have one variance, lie in one band, and are charged alike.
use Rattle.std.proofs.Common.{◌≡◌, ℕ, zero, suc, ◌<◌, Bool, true, false, if◌then◌else◌, ℤ, pos, negsuc, ◌*ℤ◌, ◌≤ℤ◌, refl, subst, arith}
use Rattle.std.proofs.lemmas.Int.{ints}
use Rattle.scr_num.specs.Fraction.{Fraction, ◌≼◌, over, zero_fraction, percent, plus, product, square, is_less}
use Rattle.scr_num.specs.Figure.{Frac, AtMost}
use Rattle.scr_num.specs.Enclosure.{Encloses}
use Rattle.scr_num.specs.Sums.{Equals}
use Rattle.scr_num.proofs.Fractions.{≼_refl, ≼_trans, plus_mono, product_mono}
use Rattle.scr_agg.proofs.Chosen.{not_less}
use Rattle.scr_default.specs.Probabilities.{probability_of_class}
use Rattle.scr_default.specs.Sums.{sum_below}
use Rattle.scr_default.specs.Type1.{is_above, band_of, charge_figure, type1_figure}
use Rattle.scr_default.specs.Variance.{between_coefficient, within_coefficient, between_term_exact, within_term_exact, sum_of_classes, variance_exact}
use Rattle.scr_default.specs.VarianceEnds.{between_num, between_den, within_num, within_den}
use Rattle.scr_default.proofs.Band.{less_not}
use Rattle.scr_default.proofs.CoefficientTable.{between-quotient, within-quotient}

-- ---- sums and products of fractions that are not negative, in order
same : (p : Fraction) → p ≼ p
same p = ≼_refl p p refl refl

product-least : (p q : Fraction) → zero_fraction ≼ p → zero_fraction ≼ q → zero_fraction ≼ product p q
product-least p q a b =
    ≼_trans zero_fraction (product zero_fraction zero_fraction) (product p q) (record { cross = omega (arith, ints) })
    (product_mono zero_fraction p zero_fraction q (same zero_fraction) a (same zero_fraction) b)

quotient-least : (c : Fraction) (num den : ℕ) → 0 < den → c.num *ℤ pos den ≡ pos num *ℤ pos c.den → zero_fraction ≼ c
quotient-least c num den positive e = record { cross = by c.num c.den e }
  where
    by : (z : ℤ) (d : ℕ) → z *ℤ pos den ≡ pos num *ℤ pos d → (pos 0 *ℤ pos d) ≤ℤ (z *ℤ pos 1)
    by (pos n) d e = omega (arith, ints)
    by (negsuc n) d e = absurd (omega (arith, ints))

sum-rises : (f g : ℕ → Fraction) (n : ℕ) → ((i : ℕ) → i < n → f i ≼ g i)
    → sum_below zero_fraction plus f n ≼ sum_below zero_fraction plus g n
unfolding sum_below
sum-rises f g zero each = same zero_fraction
sum-rises f g (suc n) each = plus_mono _ _ _ _ (sum-rises f g n (λ i lt. each i (omega arith))) (each n (omega arith))

-- ---- the variance, which rises with what is lost
pub record AreBelow (p q : ℕ → Fraction) : Type 0 where
  pub least : (j : ℕ) → j < 6 → zero_fraction ≼ p j
  pub below : (j : ℕ) → j < 6 → p j ≼ q j

module _ (t t' s s' : ℕ → Fraction) (h : AreBelow t t') (k : AreBelow s s') where
  between-rises : (i j : ℕ) → i < 6 → j < 6 → between_term_exact t i j ≼ between_term_exact t' i j
  between-rises i j a b =
      let c = between_coefficient (probability_of_class i) (probability_of_class j) in
      let is = between-quotient i j a b in
      product_mono c c (product (t i) (t j)) (product (t' i) (t' j))
      (quotient-least c (between_num i j) (between_den i j) is.positive is.equal) (same c)
      (product-least (t i) (t j) (h.least i a) (h.least j b))
      (product_mono (t i) (t' i) (t j) (t' j) (h.least i a) (h.below i a) (h.least j b) (h.below j b))

  within-rises : (j : ℕ) → j < 6 → within_term_exact s j ≼ within_term_exact s' j
  within-rises j a =
      let c = within_coefficient (probability_of_class j) in
      let is = within-quotient j a in
      product_mono c c (s j) (s' j)
      (quotient-least c (within_num j) (within_den j) is.positive is.equal) (same c) (k.least j a) (k.below j a)

  variance-rises : variance_exact t s ≼ variance_exact t' s'
  variance-rises =
      plus_mono _ _ _ _
      (sum-rises (λ i. sum_of_classes (between_term_exact t i)) (λ i. sum_of_classes (between_term_exact t' i)) 6
      (λ i a. sum-rises (between_term_exact t i) (between_term_exact t' i) 6 (λ j b. between-rises i j a b)))
      (sum-rises (within_term_exact s) (within_term_exact s') 6 within-rises)

-- the same losses of each class, which are not negative
pub record AreAlike (p q : ℕ → Fraction) : Type 0 where
  pub least : (j : ℕ) → j < 6 → zero_fraction ≼ p j
  pub equal : (j : ℕ) → j < 6 → Equals (p j) (q j)

onward : (p q : ℕ → Fraction) → AreAlike p q → AreBelow p q
onward p q h = record { least = h.least; below = λ j a. (h.equal j a).below }

back : (p q : ℕ → Fraction) → AreAlike p q → AreBelow q p
back p q h = record {
  least = λ j a. ≼_trans zero_fraction (p j) (q j) (h.least j a) (h.equal j a).below;
  below = λ j a. (h.equal j a).above;
}

pub variance-alike : (t t' s s' : ℕ → Fraction) → AreAlike t t' → AreAlike s s'
    → Equals (variance_exact t s) (variance_exact t' s')
variance-alike t t' s s' h k = record {
  below = variance-rises t t' s s' (onward t t' h) (onward s s' k);
  above = variance-rises t' t s' s (back t t' h) (back s s' k);
}

-- ---- the band and the charge
less-alike : (p q v : Fraction) → Equals p q → is_less p v ≡ is_less q v
less-alike p q v e = by (is_less p v) (is_less q v) refl refl
  where
    by : (x y : Bool) → is_less p v ≡ x → is_less q v ≡ y → x ≡ y
    by true true a b = refl
    by false false a b = refl
    by true false a b = absurd (less_not p v a (≼_trans v q p (not_less q v b) e.above))
    by false true a b = absurd (less_not q v b (≼_trans v p q (not_less p v a) e.below))

square-rises : (share p q : Fraction) → zero_fraction ≼ share → zero_fraction ≼ p → p ≼ q
    → square (product share p) ≼ square (product share q)
square-rises share p q s a h =
    let least = product-least share p s a in
    let rises = product_mono share share p q s (same share) a h in
    product_mono (product share p) (product share q) (product share p) (product share q) least rises least rises

above-alike : (share p q v : Fraction) → zero_fraction ≼ share → zero_fraction ≼ p → Equals p q
    → is_above share p v ≡ is_above share q v
above-alike share p q v s a e =
    less-alike (square (product share p)) (square (product share q)) v (record {
      below = square-rises share p q s a e.below;
      above = square-rises share q p s (≼_trans zero_fraction p q a e.below) e.above;
    })

-- the band by two tests
abbrev tested : (above_twenty above_seven : Bool) → ℕ
tested x y = if x then 2 else (if y then 1 else 0)

tested-alike : (x x' y y' : Bool) → x ≡ x' → y ≡ y' → tested x y ≡ tested x' y'
tested-alike x x' y y' e f = rw (e, f) refl

percent-least : (n : ℕ) → zero_fraction ≼ percent n
percent-least n = record { cross = omega (arith, ints) }

pub band-alike : (p q v : Fraction) → zero_fraction ≼ p → Equals p q → band_of p v ≡ band_of q v
band-alike p q v a e =
    tested-alike (is_above (percent 20) p v) (is_above (percent 20) q v) (is_above (percent 7) p v) (is_above (percent 7) q v)
    (above-alike (percent 20) p q v (percent-least 20) a e) (above-alike (percent 7) p q v (percent-least 7) a e)

pub Encloses-alike : (unit : ℕ) (low high : ℤ) (p q : Fraction) → Equals p q → Encloses unit low high (Frac p)
    → Encloses unit low high (Frac q)
unfolding AtMost
Encloses-alike unit low high p q e h = record {
  positive = h.positive;
  at_most = ≼_trans (over low unit h.positive) p q h.at_most e.below;
  at_least = ≼_trans q p (over high unit h.positive) e.above h.at_least;
}

charge-alike : (unit : ℕ) (low high : ℤ) (band : ℕ) (p q v : Fraction) → Equals p q
    → Encloses unit low high (charge_figure band p v) → Encloses unit low high (charge_figure band q v)
charge-alike unit low high zero p q v e h = h
charge-alike unit low high (suc zero) p q v e h = h
charge-alike unit low high (suc (suc n)) p q v e h = Encloses-alike unit low high p q e h

pub type1-alike : (unit : ℕ) (low high : ℤ) (p q v : Fraction) → zero_fraction ≼ p → Equals p q
    → Encloses unit low high (type1_figure p v) → Encloses unit low high (type1_figure q v)
type1-alike unit low high p q v a e h =
    subst (λ (band : ℕ). Encloses unit low high (charge_figure band q v)) (band-alike p q v a e)
    (charge-alike unit low high (band_of p v) p q v e h)
