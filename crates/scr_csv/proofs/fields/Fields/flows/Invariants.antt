-- The payments so far, and those that follow.
use Rattle.std.proofs.Common.{◌≡◌, ◌≤◌, ◌+◌, length}
use Rattle.scr_dates.specs.Text.{day_of_text}
use Rattle.scr_profile.specs.declared.limits.TheConstants.{MAX_FLOWS}
use Rattle.scr_sheet.specs.Forms.{AreFlows}
use Rattle.scr_csv.specs.Reading.{made, pairs_from}
use Rattle.scr_csv.specs.Kept.{kept_members}
use Rattle.scr_csv.specs.Sources.{fields_in}
use Rattle.scr_csv.proofs.ListSteps.{behind}
use Rattle.scr_csv.proofs.fields.Fields.flows.Given as goal

-- while the source alone reads them
abbrev pub invariant-payments : goal.invariant-payments
invariant-payments l = record {
  read : made (kept_members MAX_FLOWS) (behind l.flows.items (pairs_from day_of_text l.number (fields_in l.source)))
      ≡ made (kept_members MAX_FLOWS) (pairs_from day_of_text l.fn.self.number l.fn.self.fields);
  short : length l.flows.items ≤ MAX_FLOWS + 1;
  formed : AreFlows l.flows.items;
  fits : l.number + length (fields_in l.source) ≤ 67108865;
}

abbrev pub decreases-payments : goal.decreases-payments
decreases-payments l = length (fields_in l.source)

-- the payments so far, before those that are left
abbrev pub invariant-flows : goal.invariant-flows
invariant-flows l = record {
  read : made (kept_members MAX_FLOWS) (behind l.flows.items (pairs_from day_of_text l.self.number l.self.fields))
      ≡ made (kept_members MAX_FLOWS) (pairs_from day_of_text l.fn.self.number l.fn.self.fields);
  short : length l.flows.items ≤ MAX_FLOWS + 1;
  formed : AreFlows l.flows.items;
}

abbrev pub decreases-flows : goal.decreases-flows
decreases-flows l = length l.self.fields
