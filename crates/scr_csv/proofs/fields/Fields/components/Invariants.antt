-- The components so far, and those that follow.
use Rattle.std.proofs.Common.{◌≡◌, ◌≤◌, ◌+◌, length}
use Rattle.scr_profile.specs.declared.limits.TheConstants.{MAX_FUND_COMPONENTS}
use Rattle.scr_sheet.specs.Forms.{AreComponents}
use Rattle.scr_fields.specs.FieldForms.{name_of}
use Rattle.scr_csv.specs.Reading.{made, pairs_from}
use Rattle.scr_csv.specs.Kept.{kept_members}
use Rattle.scr_csv.proofs.ListSteps.{behind}
use Rattle.scr_csv.proofs.fields.Fields.components.Given as goal

-- the components so far, before those that are left
abbrev pub invariant-components : goal.invariant-components
invariant-components l = record {
  read : made (kept_members MAX_FUND_COMPONENTS) (behind l.components.items (pairs_from name_of l.self.number l.self.fields))
      ≡ made (kept_members MAX_FUND_COMPONENTS) (pairs_from name_of l.fn.self.number l.fn.self.fields);
  short : length l.components.items ≤ MAX_FUND_COMPONENTS + 1;
  formed : AreComponents l.components.items;
}

abbrev pub decreases-components : goal.decreases-components
decreases-components l = length l.self.fields
