-- The rates so far, and those that follow.
use Rattle.std.proofs.Common.{◌≡◌, ◌≤◌, ◌+◌, length}
use Rattle.std.specs.List.{AllByRecursion}
use Rattle.scr_profile.specs.declared.limits.TheConstants.{MAX_RATES}
use Rattle.scr_sheet.specs.Forms.{IsNumber}
use Rattle.scr_csv.specs.Reading.{made, numbers_from}
use Rattle.scr_csv.specs.Kept.{kept_members}
use Rattle.scr_csv.proofs.ListSteps.{behind}
use Rattle.scr_csv.proofs.fields.Fields.rates.Given as goal

-- the rates so far, before those that are left
abbrev pub invariant-rates : goal.invariant-rates
invariant-rates l = record {
  read : made (kept_members MAX_RATES) (behind l.rates.items (numbers_from l.self.number l.self.fields))
      ≡ made (kept_members MAX_RATES) (numbers_from l.fn.self.number l.fn.self.fields);
  short : length l.rates.items ≤ MAX_RATES + 1;
  formed : AllByRecursion IsNumber l.rates.items;
}

abbrev pub decreases-rates : goal.decreases-rates
decreases-rates l = length l.self.fields
