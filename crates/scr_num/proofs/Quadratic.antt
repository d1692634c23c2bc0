-- The ends of a root over a table of correlations enclose the root of the figures that the parts enclose.
use Rattle.std.proofs.Common.{◌≡◌, ℕ, ◌*◌, ◌<◌, ◌≤◌, inl, inr, ℤ, pos, negsuc, ◌+ℤ◌, ◌*ℤ◌, ◌≤ℤ◌, List, [], ◌∷◌, map, length, arith, refl, mul-pos, mul-le-mul_right, sym}
use Rattle.std.proofs.lemmas.Int.{ints}
use Rattle.std.proofs.lemmas.List.{length-map}
use Rattle.scr_num.specs.Fraction.{Fraction, ◌≼◌, over, whole, zero_fraction, plus, product}
use Rattle.scr_num.specs.Table.{Table, IsSquare}
use Rattle.scr_num.specs.Figure.{Figures, Root, none, more, Bounds, lower_term, upper_term, lower_form, upper_form, scaled_square, AtMost, AtLeast, AreBounds}
use Rattle.scr_num.specs.Rounding.{Ends, floor_div, ceil_div, floor_root, ceil_root, or_zero, low_term, high_term, low_form, high_form, quad_ends}
use Rattle.scr_num.specs.Enclosure.{Encloses, EncloseAll}
use Rattle.scr_num.proofs.Roots.{floor_root-zero, floor_root-square, ceil_root-square}
use Rattle.scr_num.proofs.Quotients.{floor_div-times, ceil_div-times, times_le}
use Rattle.scr_num.proofs.Fractions.{≼_refl, ≼_trans, plus_mono, over-plus_le, over-plus_ge}
use Rattle.scr_num.proofs.Witnesses.{AtMost-down, AtLeast-up}
use Rattle.scr_num.proofs.Enclosing.{over_nonneg, over_zero}
use Rattle.scr_num.proofs.Forms.{Related, sum_over-related}

-- the ends of a part, read in a unit
bounds_at : (unit : ℕ) → 0 < unit → Ends → Bounds
bounds_at unit positive part = record { low = over part.low unit positive; high = over part.high unit positive }

record IsAt (unit : ℕ) (part : Ends) (bounds : Bounds) : Type 0 where
  low_num : bounds.low.num ≡ part.low
  low_den : bounds.low.den ≡ unit
  high_num : bounds.high.num ≡ part.high
  high_den : bounds.high.den ≡ unit

all_at : (unit : ℕ) (positive : 0 < unit) (parts : List Ends)
    → Related (IsAt unit) parts (map (bounds_at unit positive) parts)
unfolding bounds_at
all_at unit positive [] = tt
all_at unit positive (part ∷ parts) =
    (record { low_num = refl; low_den = refl; high_num = refl; high_den = refl }, all_at unit positive parts)

are_bounds : (unit : ℕ) (positive : 0 < unit) (parts : List Ends) (fs : Figures) → EncloseAll unit parts fs
    → AreBounds (map (bounds_at unit positive) parts) fs
unfolding AtMost bounds_at
are_bounds unit positive [] none h = tt
are_bounds unit positive [] (more f fs) h = absurd h
are_bounds unit positive (part ∷ parts) none h = absurd h
are_bounds unit positive (part ∷ parts) (more f fs) h = (
  record { cross = nonneg part.low unit h.0 },
  AtMost-down f (over part.low unit positive) (over part.low unit h.1.positive)
      (≼_refl (over part.low unit positive) (over part.low unit h.1.positive) refl refl) h.1.at_most,
  AtLeast-up f (over part.high unit h.1.positive) (over part.high unit positive)
      (≼_refl (over part.high unit h.1.positive) (over part.high unit positive) refl refl) h.1.at_least,
  are_bounds unit positive parts fs h.2,
)
  where
    nonneg : (z : ℤ) (unit : ℕ) → pos 0 ≤ℤ z → (pos 0 *ℤ pos unit) ≤ℤ (z *ℤ pos 1)
    nonneg z unit h = omega (arith, ints)

-- a fraction that equals z over the denominator
record Equals (den : ℕ) (positive : 0 < den) (z : ℤ) (p : Fraction) : Type 0 where
  below : p ≼ over z den positive
  above : over z den positive ≼ p

module _ (unit : ℕ) (positive : 0 < unit) where
  term_equals : (c : ℤ) (x y : ℤ) (p q : Fraction) → p.num ≡ x → p.den ≡ unit → q.num ≡ y → q.den ≡ unit
      → Equals (unit * unit) (mul-pos positive positive) (c *ℤ (x *ℤ y)) (product (whole c) (product p q))
  term_equals c x y p q e f g h =
      let num : c *ℤ (p.num *ℤ q.num) ≡ c *ℤ (x *ℤ y) = rw (e, g) refl in
      let den : 1 * (p.den * q.den) ≡ unit * unit = rw (f, h) (omega arith) in
      let a = product (whole c) (product p q) in
      let b = over (c *ℤ (x *ℤ y)) (unit * unit) (mul-pos positive positive) in
      record { below = ≼_refl a b num den; above = ≼_refl b a (sym num) (sym den) }

  sums_equal : (z : ℤ) (p : Fraction) (w : ℤ) (q : Fraction) → Equals (unit * unit) (mul-pos positive positive) z p
      → Equals (unit * unit) (mul-pos positive positive) w q
      → Equals (unit * unit) (mul-pos positive positive) (z +ℤ w) (plus p q)
  sums_equal z p w q h k =
      let den = unit * unit in
      let good = mul-pos positive positive in
      let parts = plus (over z den good) (over w den good) in
      record {
        below = ≼_trans (plus p q) parts (over (z +ℤ w) den good)
            (plus_mono p (over z den good) q (over w den good) h.below k.below) (over-plus_ge z w den good good good);
        above = ≼_trans (over (z +ℤ w) den good) parts (plus p q) (over-plus_le z w den good good good)
            (plus_mono (over z den good) p (over w den good) q h.above k.above);
      }

  zeros_equal : Equals (unit * unit) (mul-pos positive positive) (pos 0) zero_fraction
  zeros_equal =
      record { below = record { cross = omega (arith, ints) }; above = record { cross = omega (arith, ints) } }

  low_terms : (c : ℤ) (x : Ends) (x' : Bounds) (y : Ends) (y' : Bounds) → IsAt unit x x' → IsAt unit y y'
      → Equals (unit * unit) (mul-pos positive positive) (low_term c x y) (lower_term c x' y')
  low_terms (pos c) x x' y y' h k = term_equals (pos c) x.low y.low x'.low y'.low h.low_num h.low_den k.low_num
      k.low_den
  low_terms (negsuc c) x x' y y' h k = term_equals (negsuc c) x.high y.high x'.high y'.high h.high_num h.high_den
      k.high_num k.high_den

  high_terms : (c : ℤ) (x : Ends) (x' : Bounds) (y : Ends) (y' : Bounds) → IsAt unit x x' → IsAt unit y y'
      → Equals (unit * unit) (mul-pos positive positive) (high_term c x y) (upper_term c x' y')
  high_terms (pos c) x x' y y' h k = term_equals (pos c) x.high y.high x'.high y'.high h.high_num h.high_den k.high_num
      k.high_den
  high_terms (negsuc c) x x' y y' h k = term_equals (negsuc c) x.low y.low x'.low y'.low h.low_num h.low_den k.low_num
      k.low_den

  low_forms : (table : Table) (parts : List Ends)
      → Equals (unit * unit) (mul-pos positive positive) (low_form table parts)
      (lower_form table (map (bounds_at unit positive) parts))
  unfolding low_form lower_form
  low_forms table parts =
      sum_over-related (IsAt unit) (Equals (unit * unit) (mul-pos positive positive))
      (pos 0) zero_fraction ◌+ℤ◌ plus low_term lower_term
      zeros_equal sums_equal low_terms table.rows parts _ parts _ (all_at unit positive parts)
      (all_at unit positive parts)

  high_forms : (table : Table) (parts : List Ends)
      → Equals (unit * unit) (mul-pos positive positive) (high_form table parts)
      (upper_form table (map (bounds_at unit positive) parts))
  unfolding high_form upper_form
  high_forms table parts =
      sum_over-related (IsAt unit) (Equals (unit * unit) (mul-pos positive positive))
      (pos 0) zero_fraction ◌+ℤ◌ plus high_term upper_term
      zeros_equal sums_equal high_terms table.rows parts _ parts _ (all_at unit positive parts)
      (all_at unit positive parts)

  -- the squares of the two roots, in the table's denominator
  low_square : (table : Table) (s : ℤ) (r : ℕ) → (pos (r * r) *ℤ pos table.den) ≤ℤ s
      → scaled_square table (over (pos r) unit positive) ≼ over s (unit * unit) (mul-pos positive positive)
  low_square table s r h =
      record { cross = let a = times_le (pos (r * r) *ℤ pos table.den) s (unit * unit) h in omega (arith, ints) }

  high_square : (table : Table) (s : ℤ) (r : ℕ) → s ≤ℤ (pos (r * r) *ℤ pos table.den)
      → over s (unit * unit) (mul-pos positive positive) ≼ scaled_square table (over (pos r) unit positive)
  high_square table s r h =
      record { cross = let a = times_le s (pos (r * r) *ℤ pos table.den) (unit * unit) h in omega (arith, ints) }

  AtMost-quad : (fs : Figures) (table : Table) (bounds : List Bounds) (s quotient : ℤ) → 0 < table.den
      → IsSquare (length bounds) table → AreBounds bounds fs
      → over s (unit * unit) (mul-pos positive positive) ≼ lower_form table bounds → (quotient *ℤ pos table.den) ≤ℤ s
      → AtMost (over (pos (floor_root (or_zero quotient))) unit positive) (Root fs table)
  unfolding AtMost
  AtMost-quad fs table bounds s (negsuc n) den_positive is_square within below h =
      inl (over_zero unit (floor_root 0) positive floor_root-zero)
  AtMost-quad fs table bounds s (pos n) den_positive is_square within below h =
      let root = floor_root n in
      let squares : (pos (root * root) *ℤ pos table.den) ≤ℤ s =
      let a = mul-le-mul_right table.den (floor_root-square n) in omega (arith, ints) in
      inr (
        bounds,
        within,
        den_positive,
        is_square,
        ≼_trans (scaled_square table (over (pos root) unit positive)) (over s (unit * unit) (mul-pos positive positive))
            (lower_form table bounds)
            (low_square table s root squares) below,
      )

  AtLeast-quad : (fs : Figures) (table : Table) (bounds : List Bounds) (s quotient : ℤ) → 0 < table.den
      → IsSquare (length bounds) table → AreBounds bounds fs
      → upper_form table bounds ≼ over s (unit * unit) (mul-pos positive positive) → s ≤ℤ (quotient *ℤ pos table.den)
      → AtLeast (over (pos (ceil_root (or_zero quotient))) unit positive) (Root fs table)
  unfolding AtMost
  AtLeast-quad fs table bounds s quotient den_positive is_square within above h =
      let root = ceil_root (or_zero quotient) in
      let squares : s ≤ℤ (pos (root * root) *ℤ pos table.den) =
      covers s quotient table.den root h (ceil_root-square (or_zero quotient)) in (
        over_nonneg unit root positive,
        (
          bounds,
          within,
          den_positive,
          is_square,
          ≼_trans (upper_form table bounds) (over s (unit * unit) (mul-pos positive positive))
              (scaled_square table (over (pos root) unit positive))
              above (high_square table s root squares),
        ),
      )
    where
      covers : (s quotient : ℤ) (den root : ℕ) → s ≤ℤ (quotient *ℤ pos den) → or_zero quotient ≤ root * root
          → s ≤ℤ (pos (root * root) *ℤ pos den)
      covers s (pos n) den root h k = let a = mul-le-mul_right den k in omega (arith, ints)
      covers s (negsuc n) den root h k = omega (arith, ints)

  pub Encloses-quad : (parts : List Ends) (fs : Figures) (table : Table) → 0 < table.den → IsSquare (length parts) table
      → EncloseAll unit parts fs
      → Encloses unit (quad_ends parts table).low (quad_ends parts table).high (Root fs table)
  unfolding quad_ends
  Encloses-quad parts fs table den_positive is_square h =
      let bounds = map (bounds_at unit positive) parts in
      let within = are_bounds unit positive parts fs h in
      let fits : IsSquare (length bounds) table = rw length-map is_square in
      record {
        positive = positive;
        at_most = AtMost-quad fs table bounds (low_form table parts)
            (floor_div (low_form table parts) table.den) den_positive fits within
            (low_forms table parts).above (floor_div-times (low_form table parts) table.den den_positive);
        at_least = AtLeast-quad fs table bounds (high_form table parts)
            (ceil_div (high_form table parts) table.den) den_positive fits within
            (high_forms table parts).below (ceil_div-times (high_form table parts) table.den den_positive);
      }
