-- How far apart the ends of the variance and of the charge for type 1 exposures are.
use Rattle.std.proofs.Common.{◌≡◌, ℕ, zero, suc, ◌+◌, ◌*◌, ◌<◌, ◌≤◌, nat_le, nat_lt, Bool, true, false, cond, inl, inr, pos, ◌≤ℤ◌, List, [], ◌∷◌, map, length, refl, arith, lit<, leb-true}
use Rattle.std.proofs.lemmas.Bool.{and_parts, ltb-true}
use Rattle.std.specs.Prelude.{slice_index}
use Rattle.scr_num.specs.Rounding.{Ends, exact_ends, add_ends, scale_ends, root_ends, or_zero}
use Rattle.scr_num.specs.Narrow.{IsNarrow}
use Rattle.scr_num.proofs.Spreads.{narrow-wider, narrow-exact, narrow-add, narrow-scale, narrow-times, narrow-root}
use Rattle.scr_agg.specs.Unbeaten.{HasSeveral, hull_of}
use Rattle.scr_default.specs.Sums.{sum_below}
use Rattle.scr_default.specs.VarianceEnds.{between_num, between_den, within_num, within_den, between_term_ends, between_ends, within_term_ends, within_ends, variance_ends, sum_of_class_ends}
use Rattle.scr_default.specs.Type1Ends.{is_possible, charge_ends, possible_bands, type1_mask, type1_ends}
use Rattle.scr_default.specs.Bands.{IsNearBand}
use Rattle.scr_default.proofs.CoefficientTable.{between-quotient, within-quotient}
use Rattle.scr_default.proofs.Band.{several}

-- ---- the variance
narrow-sum_below : (w : ℕ) (term : ℕ → Ends) (n : ℕ) → ((k : ℕ) → k < n → IsNarrow w (term k))
    → IsNarrow (n * w) (sum_below (exact_ends (pos 0)) add_ends term n)
unfolding sum_below
narrow-sum_below w term zero h = narrow-wider 0 (0 * w) _ (omega arith) (narrow-exact (pos 0))
narrow-sum_below w term (suc n) h =
    narrow-wider (n * w + w) (suc n * w) _ (omega arith)
    (narrow-add (n * w) w (sum_below (exact_ends (pos 0)) add_ends term n) (term n)
    (narrow-sum_below w term n (λ k lt. h k (omega (arith, lt)))) (h n (omega arith)))

narrow-term : (x num den : ℕ) → 0 < den → IsNarrow 1 (scale_ends (exact_ends (pos x)) num den)
narrow-term x num den positive = narrow-scale 0 0 num den (exact_ends (pos x)) positive (omega arith)
    (narrow-exact (pos x))

narrow-row : (totals : List ℕ) (j : ℕ) → j < 6 → IsNarrow 6 (sum_of_class_ends (between_term_ends totals j))
narrow-row totals j a =
    narrow-sum_below 1 (between_term_ends totals j) 6
    (λ k b. let is = between-quotient j k a b in
    narrow-term (slice_index totals j * slice_index totals k) (between_num j k) (between_den j k) is.positive)

narrow-between : (totals : List ℕ) → IsNarrow 36 (between_ends totals)
narrow-between totals =
    narrow-sum_below 6 (λ j. sum_of_class_ends (between_term_ends totals j)) 6 (λ j a. narrow-row totals j a)

narrow-within : (squares : List ℕ) → IsNarrow 6 (within_ends squares)
narrow-within squares =
    narrow-sum_below 1 (within_term_ends squares) 6
    (λ j a. let is = within-quotient j a in
    narrow-term (slice_index squares j) (within_num j) (within_den j) is.positive)

pub narrow-variance : (totals squares : List ℕ) → IsNarrow 42 (variance_ends totals squares)
narrow-variance totals squares =
    narrow-add 36 6 (between_ends totals) (within_ends squares) (narrow-between totals) (narrow-within squares)

-- ---- the charge
pub narrow-deviation : (variance : Ends) → pos 0 ≤ℤ variance.low → IsNarrow 42 variance
    → IsNarrow 7 (root_ends variance)
narrow-deviation variance low h = narrow-root 42 7 variance low (lit< tt) (omega arith) h

narrow-charge : (deviation : Ends) (total band : ℕ) → IsNarrow 7 deviation
    → IsNarrow 35 (charge_ends deviation total band)
narrow-charge deviation total zero h = narrow-wider 21 35 _ (omega arith) (narrow-times 7 3 deviation h)
narrow-charge deviation total (suc zero) h = narrow-times 7 5 deviation h
narrow-charge deviation total (suc (suc band)) h = narrow-wider 0 35 _ (omega arith) (narrow-exact (pos total))

-- the hull of one is itself
narrow-one : (charge : ℕ → Ends) (bands : List ℕ) → ((band : ℕ) → IsNarrow 35 (charge band))
    → (2 ≤ length bands → ⊥) → IsNarrow 35 (hull_of (map charge bands))
narrow-one charge [] each few = narrow-wider 0 35 _ (omega arith) (narrow-exact (pos 0))
narrow-one charge (band ∷ []) each few = each band
narrow-one charge (band ∷ next ∷ bands) each few = absurd (few (omega arith))

pub narrow-type1 : (total : ℕ) (variance : Ends) → pos 0 ≤ℤ variance.low → IsNarrow 42 variance
    → (HasSeveral (type1_mask total variance) → ⊥) → IsNarrow 35 (type1_ends total variance)
narrow-type1 total variance low h one =
    narrow-one (charge_ends (root_ends variance) total) (possible_bands (root_ends variance) total)
    (λ band. narrow-charge (root_ends variance) total band (narrow-deviation variance low h))
    (λ more. one ((several (is_possible (root_ends variance) total)).1 more))

-- ---- where several bands are possible
-- the bands that three tests let through
abbrev bands_of : (first second third : Bool) → List ℕ
bands_of first second third =
    cond first (0 ∷ cond second (1 ∷ cond third (2 ∷ []) []) (cond third (2 ∷ []) []))
    (cond second (1 ∷ cond third (2 ∷ []) []) (cond third (2 ∷ []) []))

module _ (deviation : Ends) (total : ℕ) where
  near : (x y z : Bool) → (x ≡ true → 100 * or_zero deviation.low ≤ 7 * total)
      → (y ≡ true → (7 * total < 100 * or_zero deviation.high) × (5 * or_zero deviation.low ≤ total))
      → (z ≡ true → total < 5 * or_zero deviation.high) → 2 ≤ length (bands_of x y z)
      → IsNearBand deviation total
  near true true z first second third more = inl (record { low = first refl; high = (second refl).0 })
  near true false true first second third more =
      let above = third refl in inl (record { low = first refl; high = omega (arith, above) })
  near false true true first second third more =
      let below = (second refl).1 in
      let above = third refl in
      inr (record { low = omega (arith, below); high = omega (arith, above) })
  near true false false first second third more = let two : 2 ≤ 1 = more in absurd (omega (arith, two))
  near false true false first second third more = let two : 2 ≤ 1 = more in absurd (omega (arith, two))
  near false false true first second third more = let two : 2 ≤ 1 = more in absurd (omega (arith, two))
  near false false false first second third more = let two : 2 ≤ 0 = more in absurd (omega (arith, two))

  near-band : 2 ≤ length (possible_bands deviation total) → IsNearBand deviation total
  near-band more =
      near (is_possible deviation total 0) (is_possible deviation total 1) (is_possible deviation total 2)
      (λ e. leb-true (100 * or_zero deviation.low) (7 * total) e)
      (λ e. let parts = and_parts (nat_lt (7 * total) (100 * or_zero deviation.high))
      (nat_le (5 * or_zero deviation.low) total) e in (
        ltb-true (7 * total) (100 * or_zero deviation.high) parts.0,
        leb-true (5 * or_zero deviation.low) total parts.1,
      ))
      (λ e. ltb-true total (5 * or_zero deviation.high) e) more

pub type1-near : (total : ℕ) (variance : Ends) → pos 0 ≤ℤ variance.low → IsNarrow 42 variance
    → HasSeveral (type1_mask total variance)
    → IsNearBand (root_ends variance) total × IsNarrow 7 (root_ends variance)
type1-near total variance low h many = (
  near-band (root_ends variance) total ((several (is_possible (root_ends variance) total)).0 many),
  narrow-deviation variance low h,
)
