-- The securities and the closed funds, as the figures read them, have all that is held, and so no more than may be held.
use Rattle.std.proofs.Common.{◌≡◌, ◌+◌, ◌≤◌, sum_by, arith}
use Rattle.scr_profile.specs.declared.limits.TheConstants.{MAX_HELD}
use Rattle.scr_sheet.specs.BalanceSheet.{held_total}
use Rattle.scr_sheet.specs.declared.sheet.BalanceSheet.{BalanceSheet}
use Rattle.scr_sheet.specs.Totals.{closed_total}
use Rattle.scr_sheet.specs.Validity.{Valid}
use Rattle.scr_sheet.proofs.SeenThrough.{all-seen as sheet-seen}
use Rattle.scr_rules.specs.Holdings.{security_cents}

module _ (sheet : BalanceSheet) (valid : Valid sheet) where
  -- what is held of the securities and the closed funds is all that is held
  all-seen : sum_by (security_cents sheet) sheet.securities + closed_total sheet ≡ held_total sheet
  all-seen = sheet-seen sheet valid

  pub seen-small : sum_by (security_cents sheet) sheet.securities + closed_total sheet ≤ MAX_HELD
  seen-small = let all : held_total sheet ≤ MAX_HELD = valid.within.held in omega (arith, all, all-seen)
