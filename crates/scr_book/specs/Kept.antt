-- How a ledger keeps its balance sheet (this project's own): beside it stand the sums that limits test, the last days of its
-- payments and the graph of its funds.
use Rattle.std.specs.Prelude.{◌≡◌, false}
use Rattle.scr_sheet.specs.Validity.{Valid}
use Rattle.scr_book.specs.Sums.{AreSumsOf}
use Rattle.scr_book.specs.Holders.{IsGraphOf}
use Rattle.scr_book.specs.LastDays.{AreDaysOf}
use Rattle.scr_book.specs.declared.ledger.Ledger.TheInside.{Inside}

-- The sheet is valid, each sum that is kept is that of its rows, each day is counted as often as a list of payments ends on
-- it, and the graph is that of its funds unless it is due to be made anew.
pub record IsKept (book : Inside) : Type 0 where
  pub valid : Valid book.sheet
  pub sums : AreSumsOf book.sheet book.sums
  pub days : AreDaysOf book.sheet book.days
  pub graph : book.is_graph_due ≡ false → IsGraphOf book.sheet book.graph
