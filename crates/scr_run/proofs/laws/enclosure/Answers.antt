use Rattle.scr_csv.specs.Lines.{records}
use Rattle.scr_cells.proofs.Bounded.{certified, market_bounded}
use Rattle.scr_run.proofs.FactorForms.{factors-in-form}
use Rattle.scr_run.proofs.PrintedSheets.{printed_certified, printed_valid}
use Rattle.scr_run.proofs.laws.enclosure.Goals as goal

pub returns : goal.returns
returns c = record {
  valid = λ book edits sheet e. printed_valid book (records edits) sheet e;
  in_form = factors-in-form;
  printed = λ values book edits sheet form e. printed_certified values form book (records edits) sheet e;
  certified = λ values sheet form valid. certified values form sheet valid;
  market = market_bounded;
}
