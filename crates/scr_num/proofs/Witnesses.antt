-- What lies at most at a figure never lies above what lies at least at it, for every form of figure.
use Rattle.std.proofs.Common.{ℕ, ◌<◌, ◌⊎◌, inl, inr, ℤ, pos, negsuc, List, [], ◌∷◌, arith, refl}
use Rattle.std.proofs.lemmas.Int.{ints}
use Rattle.scr_num.specs.Fraction.{Fraction, ◌≼◌, over, zero_fraction, plus, minus, product, square, times}
use Rattle.scr_num.specs.Table.{Table}
use Rattle.scr_num.specs.Figure.{Figure, Figures, Frac, Sum, Diff, Max, Min, Times, RootOf, Root, none, more, Bounds, lower_term, upper_term, lower_form, upper_form, scaled_square, AtMost, AtLeast, AreBounds}
use Rattle.scr_num.proofs.Fractions.{≼_refl, ≼_trans, plus_mono, minus_mono, times_mono, product_mono, square_reflects, multiple_mono, negative_multiple_mono, multiple_cancel}
use Rattle.scr_num.proofs.Forms.{Related, sum_over-related}

-- two pairs of bounds of one part, neither of which lies wholly above the other
record Overlap (x y : Bounds) : Type 0 where
  x_low : zero_fraction ≼ x.low
  y_low : zero_fraction ≼ y.low
  x_below_y : x.low ≼ y.high
  y_below_x : y.low ≼ x.high

terms_in_order : (c : ℤ) (x x' y y' : Bounds) → Overlap x x' → Overlap y y' → lower_term c x y ≼ upper_term c x' y'
terms_in_order (pos c) x x' y y' h k =
    multiple_mono c (product x.low y.low) (product x'.high y'.high)
    (product_mono x.low x'.high y.low y'.high h.x_low h.x_below_y k.x_low k.x_below_y)
terms_in_order (negsuc c) x x' y y' h k =
    negative_multiple_mono c (product x'.low y'.low) (product x.high y.high)
    (product_mono x'.low x.high y'.low y.high h.y_low h.y_below_x k.y_low k.y_below_x)

forms_in_order : (table : Table) (xs ys : List Bounds) → Related Overlap xs ys
    → lower_form table xs ≼ upper_form table ys
unfolding lower_form upper_form
forms_in_order table xs ys h =
    sum_over-related Overlap ◌≼◌ zero_fraction zero_fraction plus plus lower_term upper_term
    (≼_refl zero_fraction zero_fraction refl refl) (λ p p' q q' a b. plus_mono p p' q q' a b) terms_in_order
    table.rows xs ys xs ys h h

between : (p q r s : Fraction) → p ≼ q → q ≼ r → r ≼ s → p ≼ s
between p q r s a b c = ≼_trans p q s a (≼_trans q r s b c)

roots_in_order : (table : Table) (q r : Fraction) (xs ys : List Bounds) → 0 < table.den → zero_fraction ≼ r
    → scaled_square table q ≼ lower_form table xs → upper_form table ys ≼ scaled_square table r → Related Overlap xs ys
    → q ≼ r
roots_in_order table q r xs ys positive r_nonneg below above overlap =
    square_reflects q r r_nonneg
    (multiple_cancel table.den (square q) (square r) positive
    (between (scaled_square table q) (lower_form table xs) (upper_form table ys) (scaled_square table r) below
    (forms_in_order table xs ys overlap) above))

mutual
  unfolding AtMost

  pub lower-le-upper : (f : Figure) (q r : Fraction) → AtMost q f → AtLeast r f → q ≼ r
  lower-le-upper (Frac p) q r h k = ≼_trans q p r h k
  lower-le-upper (Sum f g) q r h k =
      between q (plus h.0 h.1) (plus k.0 k.1) r h.4
      (plus_mono h.0 k.0 h.1 k.1 (lower-le-upper f h.0 k.0 h.2 k.2) (lower-le-upper g h.1 k.1 h.3 k.3)) k.4
  lower-le-upper (Diff f g) q r h k =
      between q (minus h.0 h.1) (minus k.0 k.1) r h.4
      (minus_mono h.0 k.0 h.1 k.1 (lower-le-upper f h.0 k.0 h.2 k.2) (lower-le-upper g k.1 h.1 k.3 h.3)) k.4
  lower-le-upper (Max f g) q r h k = elim h [ inl a ↦ lower-le-upper f q r a k.0 | inr b ↦ lower-le-upper g q r b k.1 ]
  lower-le-upper (Min f g) q r h k = elim k [ inl a ↦ lower-le-upper f q r h.0 a | inr b ↦ lower-le-upper g q r h.1 b ]
  lower-le-upper (Times f p) q r h k =
      between q (times h.0 p) (times k.0 p) r h.2 (times_mono h.0 k.0 p (lower-le-upper f h.0 k.0 h.1 k.1)) k.2
  lower-le-upper (RootOf f) q r h k =
      elim h [
        | inl below ↦ ≼_trans q zero_fraction r below k.0
        | inr w ↦
            square_reflects q r k.0
            (between (square q) w.0 k.1.0 (square r) w.2 (lower-le-upper f w.0 k.1.0 w.1 k.1.1) k.1.2)
      ]
  lower-le-upper (Root fs table) q r h k =
      elim h [
        | inl below ↦ ≼_trans q zero_fraction r below k.0
        | inr w ↦ roots_in_order table q r w.0 k.1.0 w.2 k.0 w.4 k.1.4 (bounds-overlap fs w.0 k.1.0 w.1 k.1.1)
      ]

  bounds-overlap : (fs : Figures) (xs ys : List Bounds) → AreBounds xs fs → AreBounds ys fs → Related Overlap xs ys
  bounds-overlap none [] [] h k = tt
  bounds-overlap none [] (y ∷ ys) h k = absurd k
  bounds-overlap none (x ∷ xs) ys h k = absurd h
  bounds-overlap (more f fs) [] ys h k = absurd h
  bounds-overlap (more f fs) (x ∷ xs) [] h k = absurd k
  bounds-overlap (more f fs) (x ∷ xs) (y ∷ ys) h k = (
    record {
      x_low = h.0;
      y_low = k.0;
      x_below_y = lower-le-upper f x.low y.high h.1 k.2;
      y_below_x = lower-le-upper f y.low x.high k.1 h.2;
    },
    bounds-overlap fs xs ys h.3 k.3,
  )

-- ---- a lower witness goes down, and an upper one up
pub sign : (p : Fraction) → (p ≼ zero_fraction) ⊎ (zero_fraction ≼ p)
sign p = of p.num p.den p.positive
  where
    of : (z : ℤ) (den : ℕ) (positive : 0 < den)
        → (over z den positive ≼ zero_fraction) ⊎ (zero_fraction ≼ over z den positive)
    of (pos n) den positive = inr (record { cross = omega (arith, ints) })
    of (negsuc n) den positive = inl (record { cross = omega (arith, ints) })

square_mono : (p q : Fraction) → zero_fraction ≼ p → p ≼ q → square p ≼ square q
square_mono p q h k = product_mono p q p q h k h k

pub AtMost-down : (f : Figure) (p q : Fraction) → p ≼ q → AtMost q f → AtMost p f
unfolding AtMost
AtMost-down (Frac x) p q h k = ≼_trans p q x h k
AtMost-down (Sum f g) p q h k = (k.0, k.1, k.2, k.3, ≼_trans p q (plus k.0 k.1) h k.4)
AtMost-down (Diff f g) p q h k = (k.0, k.1, k.2, k.3, ≼_trans p q (minus k.0 k.1) h k.4)
AtMost-down (Max f g) p q h k = elim k [ inl a ↦ inl (AtMost-down f p q h a) | inr b ↦ inr (AtMost-down g p q h b) ]
AtMost-down (Min f g) p q h k = (AtMost-down f p q h k.0, AtMost-down g p q h k.1)
AtMost-down (Times f x) p q h k = (k.0, k.1, ≼_trans p q (times k.0 x) h k.2)
AtMost-down (RootOf f) p q h k =
    elim k [
      | inl below ↦ inl (≼_trans p q zero_fraction h below)
      | inr w ↦ elim (sign p) [
        | inl below ↦ inl below
        | inr above ↦ inr (w.0, w.1, ≼_trans (square p) (square q) w.0 (square_mono p q above h) w.2)
      ]
    ]
AtMost-down (Root fs table) p q h k =
    elim k [
      | inl below ↦ inl (≼_trans p q zero_fraction h below)
      | inr w ↦ elim (sign p) [
        | inl below ↦ inl below
        | inr above ↦
            inr (
              w.0,
              w.1,
              w.2,
              w.3,
              ≼_trans (scaled_square table p) (scaled_square table q) (lower_form table w.0)
                  (multiple_mono table.den (square p) (square q) (square_mono p q above h)) w.4,
            )
      ]
    ]

pub AtLeast-up : (f : Figure) (p q : Fraction) → p ≼ q → AtLeast p f → AtLeast q f
unfolding AtMost
AtLeast-up (Frac x) p q h k = ≼_trans x p q k h
AtLeast-up (Sum f g) p q h k = (k.0, k.1, k.2, k.3, ≼_trans (plus k.0 k.1) p q k.4 h)
AtLeast-up (Diff f g) p q h k = (k.0, k.1, k.2, k.3, ≼_trans (minus k.0 k.1) p q k.4 h)
AtLeast-up (Max f g) p q h k = (AtLeast-up f p q h k.0, AtLeast-up g p q h k.1)
AtLeast-up (Min f g) p q h k = elim k [ inl a ↦ inl (AtLeast-up f p q h a) | inr b ↦ inr (AtLeast-up g p q h b) ]
AtLeast-up (Times f x) p q h k = (k.0, k.1, ≼_trans (times k.0 x) p q k.2 h)
AtLeast-up (RootOf f) p q h k =
    (≼_trans zero_fraction p q k.0 h, (k.1.0, k.1.1, ≼_trans k.1.0 (square p) (square q) k.1.2 (square_mono p q k.0 h)))
AtLeast-up (Root fs table) p q h k = (
  ≼_trans zero_fraction p q k.0 h,
  (
    k.1.0,
    k.1.1,
    k.1.2,
    k.1.3,
    ≼_trans (upper_form table k.1.0) (scaled_square table p) (scaled_square table q) k.1.4
        (multiple_mono table.den (square p) (square q) (square_mono p q k.0 h)),
  ),
)
