-- The stressed rates in whole parts are those of the rule.
use Rattle.std.proofs.Common.{◌≡◌, ℕ, ◌+◌, ◌*◌, ◌<◌, ◌≤◌, nat_le, Bool, true, false, refl, ap, ◌∙◌, get_or, ℤ, pos, negsuc, ◌+ℤ◌, ◌-ℤ◌, ◌*ℤ◌, ◌≤ℤ◌, ◌<ℤ◌, arith, leb-true, lit<, le_refl, FitsSigned, to_z-of_z, w64}
use Rattle.std.specs.Prelude.{int_lt, if◌then◌else◌}
use Rattle.std.specs.Int.{int_max}
use Rattle.std.proofs.lemmas.Int.{ints, clamps, fits_signed_from_abs}
use Rattle.std.specs.Int.{w32}
use mir.Val.{to_z, of_z}
use Rattle.std.proofs.lemmas.Bool.{cond_both}
use Rattle.std.proofs.lemmas.List.FromFn.{get_or-map-range_with_len}
use Rattle.std.proofs.lemmas.List.Sums.{AllPass-from_list_all}
use Rattle.std.specs.List.{AllPass}
use Rattle.std.proofs.lemmas.Nat.{mul-le}
use Rattle.scr_num.specs.Fraction.{over, zero_fraction, percent, millionths, plus, minus, greater}
use Rattle.scr_num.specs.Enclosure.{Measures}
use Rattle.scr_num.proofs.Quotients.{times_le}
use Rattle.scr_profile.specs.declared.tables.TheConstants.{INTEREST_UP, INTEREST_DOWN}
use Rattle.scr_profile.specs.Interest.{rise, fall, stress}
use Rattle.scr_profile.proofs.StressRules.{interest_up, interest_down}
use Rattle.scr_yield_curve.specs.Rate.{raised, lowered}
use Rattle.scr_yield_curve.specs.Parts.{parts, IsRateInMillionths, IsRateInParts}

-- ---- a rate that may be handed in keeps its value in 32 bits
pub narrowed_rate : (z : ℤ) → IsRateInMillionths z → to_z w32 (of_z w32 (to_z w64 (of_z w64 z))) ≡ z
narrowed_rate z h =
    let wide : FitsSigned w64 z = fits_signed_from_abs w64 _ (omega (arith, ints, h.low, h.high)) in
    let narrow : FitsSigned w32 z = fits_signed_from_abs w32 _ (omega (arith, ints, h.low, h.high)) in
    simp to_z-of_z

-- ---- the tables
pub rise_at : (place : ℕ) → place < 100 → get_or INTEREST_UP place 0 ≡ stress rise (place + 1)
rise_at place within =
    ap (λ xs. get_or xs place 0) interest_up ∙ get_or-map-range_with_len (stress rise) 1 100 place (place + 1) 0 within (omega arith)

pub fall_at : (place : ℕ) → place < 100 → get_or INTEREST_DOWN place 0 ≡ stress fall (place + 1)
fall_at place within =
    ap (λ xs. get_or xs place 0) interest_down ∙ get_or-map-range_with_len (stress fall) 1 100 place (place + 1) 0 within (omega arith)

-- no share is above the whole
pub rise_small : (place : ℕ) → place < 100 → get_or INTEREST_UP place 0 ≤ 7000
rise_small place within =
    let all : AllPass (λ x. nat_le x 7000) INTEREST_UP = AllPass-from_list_all (λ x. nat_le x 7000) INTEREST_UP refl in
    leb-true _ _ (all place 0 within)

pub fall_small : (place : ℕ) → place < 100 → get_or INTEREST_DOWN place 0 ≤ 7000
fall_small place within =
    let all : AllPass (λ x. nat_le x 7000) INTEREST_DOWN = AllPass-from_list_all (λ x. nat_le x 7000) INTEREST_DOWN refl in
    leb-true _ _ (all place 0 within)

-- ---- the rule
pub millionths_exact : (r n : ℤ) → n ≡ r *ℤ pos 7000 → Measures parts n (millionths r)
millionths_exact r n e = record { positive = lit< tt; equal = omega (arith, ints, e) }

-- z parts are the share of the rate
raised_by : (r z n : ℤ) (positive : 0 < 7000000000) → n ≡ r *ℤ pos 7000 +ℤ int_max z (pos 70000000)
    → Measures parts n (plus (millionths r) (greater (over z 7000000000 positive) (percent 1)))
raised_by r z n positive e =
    cond_both (int_lt (z *ℤ pos 100) (pos 1 *ℤ pos 7000000000)) (percent 1) (over z 7000000000 positive)
    (λ f. Measures parts n (plus (millionths r) f))
    (λ test. let below : (z *ℤ pos 100) <ℤ (pos 1 *ℤ pos 7000000000) = grind (arith, ints, test) in record { positive = lit< tt; equal = omega (arith, ints, clamps, e, below) })
    (λ test. let above : (pos 1 *ℤ pos 7000000000) ≤ℤ (z *ℤ pos 100) = grind (arith, ints, test) in record { positive = lit< tt; equal = omega (arith, ints, clamps, e, above) })

pub raised_exact : (r n : ℤ) (years share : ℕ) → share ≡ stress rise years → n ≡ r *ℤ pos 7000 +ℤ int_max (r *ℤ pos share) (pos 70000000)
    → Measures parts n (raised years (millionths r))
unfolding raised
raised_exact r n years share s e = raised_by r (r *ℤ pos (stress rise years)) n _ (rw (← s) e)

lowered_by : (r z n : ℤ) (positive : 0 < 7000000000) (b : Bool) → n ≡ r *ℤ pos 7000 -ℤ (if b then z else pos 0)
    → Measures parts n (minus (millionths r) (if b then over z 7000000000 positive else zero_fraction))
lowered_by r z n positive true e = record { positive = lit< tt; equal = omega (arith, ints, e) }
lowered_by r z n positive false e = record { positive = lit< tt; equal = omega (arith, ints, e) }

chosen : (b : Bool) (r : ℤ) (share : ℕ) → (if b then r else pos 0) *ℤ pos share ≡ (if b then r *ℤ pos share else pos 0)
chosen true r share = refl
chosen false r share = omega (arith, ints)

fall_parts : (r n : ℤ) (share : ℕ) → n ≡ r *ℤ pos 7000 -ℤ int_max r (pos 0) *ℤ pos share
    → n ≡ r *ℤ pos 7000 -ℤ (if int_lt (pos 0) r then r *ℤ pos share else pos 0)
fall_parts r n share e = rw (chosen (int_lt (pos 0) r) r share) at e

pub lowered_exact : (r n : ℤ) (years share : ℕ) → share ≡ stress fall years → n ≡ r *ℤ pos 7000 -ℤ int_max r (pos 0) *ℤ pos share
    → Measures parts n (lowered years (millionths r))
unfolding lowered
lowered_exact r n years share s e =
    lowered_by r (r *ℤ pos (stress fall years)) n _ (int_lt (pos 0) r) (rw (← s) (fall_parts r n share e))

-- ---- the limits
pub same_in_range : (r n : ℤ) → IsRateInMillionths r → n ≡ r *ℤ pos 7000 → IsRateInParts n
same_in_range r n h e =
    let low = h.low in
    let high = h.high in
    record { low = omega (arith, ints, e); high = omega (arith, ints, e) }

pub raised_in_range : (r n : ℤ) (share : ℕ) → IsRateInMillionths r → share ≤ 7000 → n ≡ r *ℤ pos 7000 +ℤ int_max (r *ℤ pos share) (pos 70000000) → IsRateInParts n
raised_in_range r n share h le e =
    let low = h.low in
    let high = h.high in
    let most = times_le r (pos 200000) share h.high in
    record { low = omega (arith, ints, clamps, e); high = omega (arith, ints, clamps, e, most) }

pub lowered_in_range : (r n : ℤ) (share : ℕ) → IsRateInMillionths r → share ≤ 7000 → n ≡ r *ℤ pos 7000 -ℤ int_max r (pos 0) *ℤ pos share → IsRateInParts n
lowered_in_range (pos r) n share h le e =
    let high = h.high in
    let positive : int_max (pos r) (pos 0) ≡ pos r = omega (arith, ints, clamps) in
    let value : n ≡ pos r *ℤ pos 7000 -ℤ pos r *ℤ pos share = rw positive at e in
    let part : r * share ≤ r * 7000 = mul-le r share r 7000 (le_refl r) le in
    record { low = omega (arith, ints, value, part); high = omega (arith, ints, value) }
lowered_in_range (negsuc r) n share h le e =
    let low = h.low in
    let value : n ≡ negsuc r *ℤ pos 7000 -ℤ pos 0 *ℤ pos share = e in
    record { low = omega (arith, ints, value); high = omega (arith, ints, value) }
