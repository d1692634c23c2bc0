use Rattle.std.proofs.Common.{◌≡◌, Option, sym, subst}
use Rattle.scr_fund_graph.specs.declared.kept.KeptComponents.{KeptComponents}
use Rattle.scr_sheet.specs.Earlier.{with_earlier, FitsIn, LeadsBack}
use Rattle.scr_sheet.specs.Records.{applied}
use Rattle.scr_sheet.specs.Validity.{Valid}
use Rattle.scr_sheet.specs.declared.earlier.Earlier.{Earlier}
use Rattle.scr_sheet.specs.declared.edit.Edit.{Edit}
use Rattle.scr_sheet.specs.declared.sheet.BalanceSheet.{BalanceSheet}
use Rattle.scr_book.specs.Kept.{IsKept}
use Rattle.scr_book.specs.Sums.{AreSumsOf}
use Rattle.scr_book.specs.Undone.{FitsSheet, sheet_before}
use Rattle.scr_book.specs.declared.ledger.Ledger.TheInside.{Inside}
use Rattle.scr_book.specs.declared.undo.Before.{Before}
use Rattle.scr_book.proofs.Applied.{sums_now}
use Rattle.scr_book.proofs.ledger.Ledger.before.Goals as goal

-- what led back from the kept sheet leads back to what contracts see
module _ (book : Inside) (now : BalanceSheet) (view : book.sheet ≡ now) (kept : IsKept book) (earlier : Earlier) (components : Option KeptComponents) (edit : Edit) (led : LeadsBack earlier edit book.sheet) where
  abbrev before : Before
  before = record { earlier = earlier; sums = book.sums; components = components }

  led_back : sheet_before before (applied edit now) ≡ now
  led_back = subst (λ (s : BalanceSheet). with_earlier earlier (applied edit s) ≡ s) view led.back

  led_fits : FitsSheet before (applied edit now)
  led_fits = record {
    valid = subst Valid (sym led_back) (subst Valid view kept.valid);
    sums = subst (λ (s : BalanceSheet). AreSumsOf s book.sums) (sym led_back) (sums_now book now view kept);
    place = subst (λ (s : BalanceSheet). FitsIn earlier (applied edit s)) view led.fits;
  }

pub before-requires : goal.before-requires
before-requires c = c.self.invariant.valid

pub returns-clause-back : goal.returns-clause-back
returns-clause-back c = led_back c.self.inside c.args.self.now c.self.view_is c.self.invariant c.in_ok-earlier.earlier c.in_ok-components.components c.args.edit.now c.in_ok-earlier.ensures

pub returns-clause-fits : goal.returns-clause-fits
returns-clause-fits c = led_fits c.self.inside c.args.self.now c.self.view_is c.self.invariant c.in_ok-earlier.earlier c.in_ok-components.components c.args.edit.now c.in_ok-earlier.ensures
