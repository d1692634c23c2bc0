-- The sums that a book keeps beside its rows (this project's own), so that no record sums its tables anew.
use Rattle.std.specs.Prelude.{◌≡◌, ℕ, ◌-◌, map, slice_index, slice_set}
use Rattle.scr_profile.specs.declared.set.Set.{Set}
use Rattle.scr_profile.specs.declared.set.Set.TheVariants as sets
use Rattle.scr_sheet.specs.CashFlows.{total, flows_under, all_projections}
use Rattle.scr_sheet.specs.BalanceSheet.{held_total, liability_flows_total, volumes_total, defaults_total, components_total}
use Rattle.scr_sheet.specs.declared.sheet.BalanceSheet.{BalanceSheet}
use Rattle.scr_sheet.specs.declared.keys.Projection.{Projection}
use Rattle.scr_sheet.specs.declared.keys.Projection.TheVariants as projections
use Rattle.scr_sheet.specs.declared.rows.LiabilityFlows.{LiabilityFlows}
use Rattle.scr_book.specs.declared.sums.Sums.{Sums}

-- the place of a projection among them all
abbrev pub place_of : Projection → ℕ
place_of projections.Base = 0
place_of projections.Mortality = 1
place_of projections.Longevity = 2
place_of projections.Disability = 3
place_of projections.Expense = 4
place_of projections.Revision = 5
place_of projections.LapseUp = 6
place_of projections.LapseDown = 7
place_of projections.LapseMass = 8
place_of projections.Catastrophe = 9

-- the flows under a projection, the sums with others in their place, and what is left without those of a liability
abbrev pub flows_sum : Projection → Sums → ℕ
flows_sum projection sums = slice_index sums.liability_flows (place_of projection)

abbrev pub with_flows_sum : Projection → ℕ → Sums → Sums
with_flows_sum projection flows sums = record sums { liability_flows = slice_set sums.liability_flows (place_of projection) flows }

abbrev pub without_liability : LiabilityFlows → Sums → Sums
without_liability flows sums = record sums { liability_flows = map (λ projection. flows_sum projection sums - total (flows_under projection flows)) all_projections }

-- the volumes of a set, and the sums with others in their place
abbrev pub volumes_sum : Set → Sums → ℕ
volumes_sum sets.Nl sums = sums.nl
volumes_sum sets.Nslt sums = sums.nslt

abbrev pub with_volumes_sum : Set → ℕ → Sums → Sums
with_volumes_sum sets.Nl volumes sums = record sums { nl = volumes }
with_volumes_sum sets.Nslt volumes sums = record sums { nslt = volumes }

-- each sum is that of the rows and numbers
pub record AreSumsOf (sheet : BalanceSheet) (sums : Sums) : Type 0 where
  pub held : sums.held ≡ held_total sheet
  pub liability_flows : sums.liability_flows ≡ map (λ projection. liability_flows_total projection sheet) all_projections
  pub nl : sums.nl ≡ volumes_total sets.Nl sheet
  pub nslt : sums.nslt ≡ volumes_total sets.Nslt sheet
  pub defaults : sums.defaults ≡ defaults_total sheet
  pub components : sums.components ≡ components_total sheet
