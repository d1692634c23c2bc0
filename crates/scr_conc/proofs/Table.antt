-- The thresholds and factors of every kind and step.
use Rattle.std.proofs.Common.{◌≡◌, ℕ, ◌<◌, ◌≤◌, Bool, true, false, cond, nat_le, nat_lt, int_eq, ℤ, pos, ◌*ℤ◌, Option, List, length, inl, inr, refl, arith, lit<, lit≤}
use Rattle.std.specs.Prelude.{slice_index}
use Rattle.std.specs.List.{list_all, range_with_len}
use Rattle.std.proofs.Math.ListN.{get_or-eq_default}
use Rattle.std.proofs.lemmas.Bool.{cases_lt, leb-true}
use Rattle.std.proofs.lemmas.Int.{ints}
use Rattle.scr_num.specs.Fraction.{percent}
use Rattle.scr_num.specs.Enclosure.{Measures}
use Rattle.scr_profile.specs.declared.group_kind.GroupKind.{GroupKind}
use Rattle.scr_profile.specs.declared.group_kind.GroupKind.TheVariants.{Name, Covered, Property, State}
use Rattle.scr_profile.specs.StepTables.{thresholds, risk_factors}
use Rattle.scr_profile.specs.declared.tables.TheConstants.{CT, G}
use Rattle.scr_profile.proofs.Ranges.{all-range}
use Rattle.scr_conc.specs.Thresholds.{thousandths_of_percent, threshold_of_step, factor_of_step, step_of, threshold_exact, factor_exact, threshold_units, factor_units}

int_eq-true : (a b : ℤ) → int_eq a b ≡ true → a ≡ b
int_eq-true a b e = grind (arith, ints)

-- a place of a table of whole numbers, `unit` of which make 1, and of the table that is printed
abbrev is_printed : ℕ → List ℕ → List ℕ → ℕ → Bool
is_printed unit table printed step =
    int_eq (pos (slice_index table step) *ℤ pos 100000) (pos (slice_index printed step) *ℤ pos unit)

-- of any step: beyond the last one both are 0
any_step : (unit : ℕ) (table printed : List ℕ) (step : ℕ) → 0 < unit → length table ≤ 7 → length printed ≤ 7
    → list_all (is_printed unit table printed) (range_with_len 0 7) ≡ true
    → Measures unit (pos (slice_index table step)) (thousandths_of_percent (slice_index printed step))
any_step unit table printed step positive a b h =
    elim (cases_lt step 7) [
      | inl lt ↦
          record {
            positive = positive;
            equal = int_eq-true _ _ (all-range (is_printed unit table printed) 0 7 step h (omega arith) (omega arith));
          }
      | inr ge ↦
          rw (get_or-eq_default table 0 {n = step} (omega arith), get_or-eq_default printed 0 {n = step} (omega arith))
          (record { positive = positive; equal = omega (arith, ints) })
    ]

pub any_threshold : (step : ℕ) → Measures 1000 (pos (slice_index CT step)) (threshold_of_step step)
any_threshold step = any_step 1000 CT thresholds step (lit< tt) (lit≤ tt) (lit≤ tt) refl

pub any_factor : (step : ℕ) → Measures 100 (pos (slice_index G step)) (factor_of_step step)
any_factor step = any_step 100 G risk_factors step (lit< tt) (lit≤ tt) (lit≤ tt) refl

pub threshold-exact : (kind : GroupKind) (step : Option ℕ)
    → Measures 1000 (pos (threshold_units kind step)) (threshold_exact kind step)
threshold-exact Name step = any_threshold (step_of step)
threshold-exact Covered step = covered (nat_lt (step_of step) 2)
  where
    covered : (early : Bool)
        → Measures 1000 (pos (cond early 150 (slice_index CT (step_of step))))
        (cond early (percent 15) (threshold_of_step (step_of step)))
    covered true = record { positive = lit< tt; equal = refl }
    covered false = any_threshold (step_of step)
threshold-exact Property step = record { positive = lit< tt; equal = refl }
threshold-exact State step = any_threshold (step_of step)

pub factor-exact : (kind : GroupKind) (step : Option ℕ)
    → Measures 100 (pos (factor_units kind step)) (factor_exact kind step)
factor-exact Name step = any_factor (step_of step)
factor-exact Covered step = any_factor (step_of step)
factor-exact Property step = record { positive = lit< tt; equal = refl }
factor-exact State step = record { positive = lit< tt; equal = refl }

-- no threshold is below 15 thousandths
any_least : (step : ℕ) → step ≤ 6 → 15 ≤ slice_index CT step
any_least step few = leb-true _ _ (all-range (λ k. nat_le 15 (slice_index CT k)) 0 7 step refl (omega arith) (omega (arith, few)))

pub threshold-least : (kind : GroupKind) (step : Option ℕ) → step_of step ≤ 6 → 15 ≤ threshold_units kind step
threshold-least Name step few = any_least (step_of step) few
threshold-least Covered step few = covered (nat_lt (step_of step) 2)
  where
    covered : (early : Bool) → 15 ≤ cond early 150 (slice_index CT (step_of step))
    covered true = lit≤ tt
    covered false = any_least (step_of step) few
threshold-least Property step few = lit≤ tt
threshold-least State step few = any_least (step_of step) few

-- no factor is above 73 percent, and no threshold above 150 thousandths
any_charge : (step : ℕ) → slice_index G step ≤ 73
any_charge step =
    elim (cases_lt step 7) [
      | inl lt ↦ leb-true _ _ (all-range (λ k. nat_le (slice_index G k) 73) 0 7 step refl (omega arith) (omega arith))
      | inr ge ↦ rw (get_or-eq_default G 0 ge) (omega arith)
    ]

pub charge-size : (kind : GroupKind) (step : Option ℕ) → factor_units kind step ≤ 73
charge-size Name step = any_charge (step_of step)
charge-size Covered step = any_charge (step_of step)
charge-size Property step = omega arith
charge-size State step = omega arith
