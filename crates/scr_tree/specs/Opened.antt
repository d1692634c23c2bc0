-- What is kept of a book from the first (this project's own).
use Rattle.std.specs.Prelude.{◌≡◌, ◌≤◌, length}
use Rattle.scr_factors.specs.Values.{FactorValues}
use Rattle.scr_sheet.specs.Validity.{Valid}
use Rattle.scr_book.specs.RolledSheets.{RolledSheet}
use Rattle.scr_discounts.specs.KeptRates.{known_of, all_rates}
use Rattle.scr_block_graph.specs.Books.{rolled_of}
use Rattle.scr_tree.specs.Figures.{AreSettled}
use Rattle.scr_tree.specs.Points.{IsGraphOf, StandsIn, book_reckoning}
use Rattle.scr_tree.specs.declared.first.Opened.{Opened}

-- The book is valid, rates and numbers are its own, each figure and each Block is at its number, and figures are linked that neither rows
-- nor lists give.
pub record IsOpened (factors : FactorValues) (book : RolledSheet) (opened : Opened) : Type 0 where
  pub valid : Valid book.sheet
  pub rates : known_of opened.rates ≡ all_rates book.sheet
  pub graph : IsGraphOf book opened.places opened.lists opened.links.edges
  pub room : opened.places.size ≤ length opened.figures
  pub size : opened.links.size ≤ opened.places.size
  pub figures : AreSettled (book_reckoning factors (rolled_of book)) (StandsIn book opened.places opened.lists) opened.figures
