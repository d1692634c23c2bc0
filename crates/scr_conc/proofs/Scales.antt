-- What is kept of a kind and a step is read where it stands, and what is above no threshold has no requirement.
use Rattle.std.proofs.Common.{◌≡◌, ℕ, zero, suc, ◌-◌, ◌*◌, ◌/◌, ◌≤◌, [], map, Option, Some, None, refl, ap, ◌∙◌, arith, lit≤, mul-le-mul}
use Rattle.std.specs.Prelude.{slice_index, slice_index_or}
use Rattle.scr_profile.specs.declared.group_kind.GroupKind.{GroupKind}
use Rattle.scr_profile.specs.declared.group_kind.GroupKind.TheVariants.{Name, Covered, Property, State}
use Rattle.scr_conc.specs.Thresholds.{step_of, threshold_units, factor_units}
use Rattle.scr_conc.specs.ConcentrationEnds.{square_units}
use Rattle.scr_conc.specs.Scales.{IsFree, IsMostFree, kinds, steps, row_of, column_of}
use Rattle.scr_conc.proofs.Table.{threshold-least}

in_row : (of_step : Option ℕ → ℕ) (step : Option ℕ) → step_of step ≤ 6 → slice_index (map of_step steps) (column_of step) ≡ of_step step
in_row of_step None low = refl
in_row of_step (Some zero) low = refl
in_row of_step (Some (suc zero)) low = refl
in_row of_step (Some (suc (suc zero))) low = refl
in_row of_step (Some (suc (suc (suc zero)))) low = refl
in_row of_step (Some (suc (suc (suc (suc zero))))) low = refl
in_row of_step (Some (suc (suc (suc (suc (suc zero)))))) low = refl
in_row of_step (Some (suc (suc (suc (suc (suc (suc zero))))))) low = refl
in_row of_step (Some (suc (suc (suc (suc (suc (suc (suc n)))))))) low = absurd (omega (arith, low))

pub kept : (of : GroupKind → Option ℕ → ℕ) (kind : GroupKind) (step : Option ℕ) → step_of step ≤ 6
    → slice_index (slice_index_or (map (λ k. map (of k) steps) kinds) (row_of kind) []) (column_of step) ≡ of kind step
kept of Name step low = in_row (of Name) step low
kept of Covered step low = in_row (of Covered) step low
kept of Property step low = in_row (of Property) step low
kept of State step low = in_row (of State) step low

-- the least threshold over the assets, in whole cents
least-is-free : (assets : ℕ) → IsFree assets (15 * assets / 1000)
least-is-free assets kind step few =
    let same : assets ≤ assets = omega arith in
    let least : 15 * assets ≤ threshold_units kind step * assets = mul-le-mul (threshold-least kind step few) same in
    omega (arith, least)

-- and no more, since a single name of step 3 has that threshold
pub least-is-most : (assets : ℕ) → IsMostFree assets (15 * assets / 1000)
least-is-most assets = record {
  free = least-is-free assets;
  most = λ other is. let low : 1000 * other ≤ 15 * assets = is Name (Some 3) (lit≤ tt) in omega (arith, low);
}

pub free-square : (assets free exposure : ℕ) (kind : GroupKind) (step : Option ℕ) → IsFree assets free → exposure ≤ free → step_of step ≤ 6
    → 0 ≡ square_units assets exposure (threshold_units kind step) (factor_units kind step)
free-square assets free exposure kind step is below few =
    let within = is kind step few in
    let none : 0 ≡ 1000 * exposure - threshold_units kind step * assets = omega (arith, below, within) in
    let factor = factor_units kind step in
    let nothing : 0 ≡ 0 * factor * (0 * factor) = omega arith in
    nothing ∙ ap (λ (excess : ℕ). excess * factor * (excess * factor)) none
