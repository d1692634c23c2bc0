-- The records that are drawn one after another (this project's own).
use Rattle.std.specs.Prelude.{ℕ, List}
use Rattle.scr_sheet.specs.declared.edit.Edit.{Edit}
use Rattle.scr_made.specs.Draws.{Drawn, given}
use Rattle.scr_made.specs.Made.{group, security, fund, holding, stake, liability, bank, trade}
use Rattle.scr_made.specs.declared.making.Rows.{Rows}
use Rattle.scr_made.specs.declared.making.Rows.TheVariants as rows

-- the record of this number among them
abbrev pub row_drawn : Rows → ℕ → Drawn (List Edit)
row_drawn rows.Groups = group
row_drawn rows.Securities = security
row_drawn rows.Funds = fund
row_drawn rows.Holdings = holding
row_drawn rows.Stakes = λ k. given (stake k)
row_drawn rows.Liabilities = liability
row_drawn rows.Banks = bank
row_drawn rows.Trades = λ k. trade
