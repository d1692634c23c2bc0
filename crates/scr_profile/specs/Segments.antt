-- The segments of premium and reserve risk (Annexes II and XIV of Delegated Regulation (EU) 2015/35).
use Rattle.std.specs.Prelude.{ℕ, ◌≤◌, List, [], ◌∷◌}
use Rattle.scr_profile.specs.declared.segment.Segment.{Segment}
use Rattle.scr_profile.specs.declared.segment.Segment.TheVariants as kinds
use Rattle.scr_profile.specs.declared.set.Set.{Set}
use Rattle.scr_profile.specs.declared.set.Set.TheVariants.{Nl, Nslt}

-- how many segments a set has
abbrev pub segments : Set → ℕ
segments Nl = 12
segments Nslt = 4

-- the number is that of a segment of the set
abbrev pub IsSegment : Set → ℕ → Type 0
IsSegment set number = (1 ≤ number) × (number ≤ segments set)

-- which set a segment is of, and its number in the Annex
abbrev pub set_of : Segment → Set
set_of kinds.MedicalExpense = Nslt
set_of kinds.IncomeProtection = Nslt
set_of kinds.WorkersCompensation = Nslt
set_of kinds.HealthReinsurance = Nslt
set_of segment = Nl

abbrev pub number_of : Segment → ℕ
number_of kinds.MotorLiability = 1
number_of kinds.OtherMotor = 2
number_of kinds.Transport = 3
number_of kinds.Property = 4
number_of kinds.GeneralLiability = 5
number_of kinds.Credit = 6
number_of kinds.LegalExpenses = 7
number_of kinds.Assistance = 8
number_of kinds.FinancialLoss = 9
number_of kinds.CasualtyReinsurance = 10
number_of kinds.TransportReinsurance = 11
number_of kinds.PropertyReinsurance = 12
number_of kinds.MedicalExpense = 1
number_of kinds.IncomeProtection = 2
number_of kinds.WorkersCompensation = 3
number_of kinds.HealthReinsurance = 4

-- all segments of a set, by their numbers
abbrev pub segments_in : Set → List Segment
segments_in Nl =
    kinds.MotorLiability ∷ kinds.OtherMotor ∷ kinds.Transport ∷ kinds.Property ∷ kinds.GeneralLiability ∷ kinds.Credit
    ∷ kinds.LegalExpenses ∷ kinds.Assistance ∷ kinds.FinancialLoss ∷ kinds.CasualtyReinsurance ∷ kinds.TransportReinsurance
    ∷ kinds.PropertyReinsurance ∷ []
segments_in Nslt =
    kinds.MedicalExpense ∷ kinds.IncomeProtection ∷ kinds.WorkersCompensation ∷ kinds.HealthReinsurance ∷ []
