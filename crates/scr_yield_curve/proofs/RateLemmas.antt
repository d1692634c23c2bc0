-- The rates of a curve in seven-billionths are exactly those of the rule, and may be discounted by.
use Rattle.std.proofs.Common.{◌≡◌, ℕ, ◌+◌, ◌-◌, ◌<◌, min, List, length, get_or, map, sym, subst, ℤ, pos, ◌+ℤ◌, ◌-ℤ◌, ◌*ℤ◌, refl, arith}
use Rattle.std.specs.Prelude.{All}
use Rattle.std.specs.Int.{int_max}
use Rattle.std.specs.List.{range_with_len}
use Rattle.std.proofs.lemmas.List.FromFn.{length-map-range_with_len, get_or-map-range_with_len}
use Rattle.scr_num.specs.Fraction.{Fraction, millionths}
use Rattle.scr_num.specs.Enclosure.{Measures}
use Rattle.scr_profile.specs.declared.tables.TheConstants.{INTEREST_UP, INTEREST_DOWN}
use Rattle.scr_yield_curve.specs.Rate.{tilted, rate}
use Rattle.scr_yield_curve.specs.Parts.{parts, in_parts, IsRateInMillionths, IsRateInParts, IsCurveInMillionths, AreRates, rates_in_parts}
use Rattle.scr_yield_curve.specs.declared.tilt.Tilt.{Tilt}
use Rattle.scr_yield_curve.specs.declared.tilt.Tilt.TheVariants.{Base, Up, Down}
use Rattle.scr_yield_curve.proofs.CurveLemmas.{in_parts_exact}
use Rattle.scr_yield_curve.proofs.StressLemmas.{rise_at, fall_at, rise_small, fall_small, millionths_exact, raised_exact, lowered_exact, same_in_range, raised_in_range, lowered_in_range}

-- ---- one rate

-- a number of parts that is exactly the rate, and that may be discounted by
record IsExactRate (n : ℤ) (p : Fraction) : Type 0 where
  exact : Measures parts n p
  in_range : IsRateInParts n

tilted_exact : (tilt : Tilt) (place : ℕ) (r : ℤ) → place < 100 → IsRateInMillionths r → (n : ℤ) × IsExactRate n (tilted tilt (place + 1) (millionths r))
tilted_exact Base place r within limits = (
  r *ℤ pos 7000,
  record { exact = millionths_exact r (r *ℤ pos 7000) refl; in_range = same_in_range r (r *ℤ pos 7000) limits refl },
)
tilted_exact Up place r within limits =
    let share = get_or INTEREST_UP place 0 in
    let n = r *ℤ pos 7000 +ℤ int_max (r *ℤ pos share) (pos 70000000) in (
      n,
      record { exact = raised_exact r n (place + 1) share (rise_at place within) refl; in_range = raised_in_range r n share limits (rise_small place within) refl },
    )
tilted_exact Down place r within limits =
    let share = get_or INTEREST_DOWN place 0 in
    let n = r *ℤ pos 7000 -ℤ int_max r (pos 0) *ℤ pos share in (
      n,
      record { exact = lowered_exact r n (place + 1) share (fall_at place within) refl; in_range = lowered_in_range r n share limits (fall_small place within) refl },
    )

-- the parts of a rate are that number
parts_exact : (p : Fraction) → (n : ℤ) × IsExactRate n p → IsExactRate (in_parts p) p
parts_exact p w = subst (λ (n : ℤ). IsExactRate n p) (in_parts_exact w.0 p w.1.exact) w.1

-- ---- the rates of a curve
curve_exact : (tilt : Tilt) (rates : List ℤ) (place : ℕ) → place < 100 → IsCurveInMillionths rates
    → IsExactRate (in_parts (rate rates tilt (place + 1))) (rate rates tilt (place + 1))
curve_exact tilt rates place within curve =
    let at = min (place + 1) (length rates) - 1 in
    parts_exact (rate rates tilt (place + 1)) (tilted_exact tilt place (get_or rates at (pos 0)) within (curve.limits at (pos 0) (omega (arith, curve.some))))

-- a list of the parts of all rates
module _ (worth : ℕ → Fraction) (each : (place : ℕ) → place < 100 → IsExactRate (in_parts (worth (place + 1))) (worth (place + 1))) where
  listed : (k : ℕ) (d : ℤ) → k < 100 → IsExactRate (get_or (map (λ years. in_parts (worth years)) (range_with_len 1 100)) k d) (worth (k + 1))
  listed k d within =
      subst (λ (n : ℤ). IsExactRate n (worth (k + 1)))
      (sym (get_or-map-range_with_len (λ years. in_parts (worth years)) 1 100 k (k + 1) d within (omega arith))) (each k within)

  inside : (k : ℕ) → k < length (map (λ years. in_parts (worth years)) (range_with_len 1 100)) → k < 100
  inside k h = omega (arith, h, length-map-range_with_len (λ years. in_parts (worth years)) 1 100)

  are_rates : AreRates (map (λ years. in_parts (worth years)) (range_with_len 1 100)) worth
  are_rates = record { each = λ k d within. (listed k d (inside k within)).exact }

  all_in_range : All IsRateInParts (map (λ years. in_parts (worth years)) (range_with_len 1 100))
  all_in_range = λ k d within. (listed k d (inside k within)).in_range

pub rates_are : (rates : List ℤ) (tilt : Tilt) → IsCurveInMillionths rates → AreRates (rates_in_parts rates tilt) (rate rates tilt)
unfolding rates_in_parts
rates_are rates tilt curve = are_rates (rate rates tilt) (λ place within. curve_exact tilt rates place within curve)

pub rates_in_range : (rates : List ℤ) (tilt : Tilt) → IsCurveInMillionths rates → All IsRateInParts (rates_in_parts rates tilt)
unfolding rates_in_parts
rates_in_range rates tilt curve = all_in_range (rate rates tilt) (λ place within. curve_exact tilt rates place within curve)

pub length-rates_in_parts : (rates : List ℤ) (tilt : Tilt) → length (rates_in_parts rates tilt) ≡ 100
unfolding rates_in_parts
length-rates_in_parts rates tilt = length-map-range_with_len (λ years. in_parts (rate rates tilt years)) 1 100
