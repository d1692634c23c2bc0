-- Classes and segments by their numbers.
use Rattle.std.proofs.Common.{◌≡◌, ℕ, zero, suc, ◌-◌, ◌<◌, Some, length, refl, sym, ap, ◌∙◌, arith}
use Rattle.std.specs.List.{slice_get}
use Rattle.std.specs.Prelude.{slice_index}
use Rattle.scr_profile.specs.DefaultClasses.{class_of_step, default_classes, first_step}
use Rattle.scr_profile.specs.Segments.{IsSegment, number_of, segments, segments_in, set_of}
use Rattle.scr_profile.specs.declared.default_class.DefaultClass.{DefaultClass}
use Rattle.scr_profile.specs.declared.default_class.DefaultClass.TheVariants as classes
use Rattle.scr_profile.specs.declared.segment.Segment.{Segment}
use Rattle.scr_profile.specs.declared.segment.Segment.TheVariants as kinds
use Rattle.scr_profile.specs.declared.set.Set.{Set}
use Rattle.scr_profile.specs.declared.set.Set.TheVariants.{Nl, Nslt}
use Rattle.scr_profile.specs.declared.tables.TheConstants.{PD}

pub class-first : (class : DefaultClass) → class_of_step (Some (first_step class)) ≡ class
class-first classes.Step0 = refl
class-first classes.Step1 = refl
class-first classes.Step2 = refl
class-first classes.Step3 = refl
class-first classes.Step4 = refl
class-first classes.Steps5And6 = refl

-- a class is told by its first step
pub class-told : (a b : DefaultClass) → first_step a ≡ first_step b → a ≡ b
class-told a b same = sym (class-first a) ∙ ap (λ (n : ℕ). class_of_step (Some n)) same ∙ class-first b

pub class-listed : (class : DefaultClass) → slice_get default_classes (first_step class) ≡ Some class
class-listed classes.Step0 = refl
class-listed classes.Step1 = refl
class-listed classes.Step2 = refl
class-listed classes.Step3 = refl
class-listed classes.Step4 = refl
class-listed classes.Steps5And6 = refl

pub class-shared : (step : ℕ) → step < 7 → slice_index PD (first_step (class_of_step (Some step))) ≡ slice_index PD step
class-shared zero h = refl
class-shared (suc zero) h = refl
class-shared (suc (suc zero)) h = refl
class-shared (suc (suc (suc zero))) h = refl
class-shared (suc (suc (suc (suc zero)))) h = refl
class-shared (suc (suc (suc (suc (suc zero))))) h = refl
class-shared (suc (suc (suc (suc (suc (suc zero)))))) h = refl
class-shared (suc (suc (suc (suc (suc (suc (suc n))))))) h = absurd (omega arith)

pub segment-listed : (segment : Segment) → slice_get (segments_in (set_of segment)) (number_of segment - 1) ≡ Some segment
segment-listed kinds.MotorLiability = refl
segment-listed kinds.OtherMotor = refl
segment-listed kinds.Transport = refl
segment-listed kinds.Property = refl
segment-listed kinds.GeneralLiability = refl
segment-listed kinds.Credit = refl
segment-listed kinds.LegalExpenses = refl
segment-listed kinds.Assistance = refl
segment-listed kinds.FinancialLoss = refl
segment-listed kinds.CasualtyReinsurance = refl
segment-listed kinds.TransportReinsurance = refl
segment-listed kinds.PropertyReinsurance = refl
segment-listed kinds.MedicalExpense = refl
segment-listed kinds.IncomeProtection = refl
segment-listed kinds.WorkersCompensation = refl
segment-listed kinds.HealthReinsurance = refl

pub segment-count : (set : Set) → length (segments_in set) ≡ segments set
segment-count Nl = refl
segment-count Nslt = refl

-- its number is one of its set
pub segment-numbered : (segment : Segment) → IsSegment (set_of segment) (number_of segment)
segment-numbered kinds.MotorLiability = (omega arith, omega arith)
segment-numbered kinds.OtherMotor = (omega arith, omega arith)
segment-numbered kinds.Transport = (omega arith, omega arith)
segment-numbered kinds.Property = (omega arith, omega arith)
segment-numbered kinds.GeneralLiability = (omega arith, omega arith)
segment-numbered kinds.Credit = (omega arith, omega arith)
segment-numbered kinds.LegalExpenses = (omega arith, omega arith)
segment-numbered kinds.Assistance = (omega arith, omega arith)
segment-numbered kinds.FinancialLoss = (omega arith, omega arith)
segment-numbered kinds.CasualtyReinsurance = (omega arith, omega arith)
segment-numbered kinds.TransportReinsurance = (omega arith, omega arith)
segment-numbered kinds.PropertyReinsurance = (omega arith, omega arith)
segment-numbered kinds.MedicalExpense = (omega arith, omega arith)
segment-numbered kinds.IncomeProtection = (omega arith, omega arith)
segment-numbered kinds.WorkersCompensation = (omega arith, omega arith)
segment-numbered kinds.HealthReinsurance = (omega arith, omega arith)
